-- Nodes without their parents, by words.
use Rattle.std.proofs.Common.{◌≡◌, ℕ, zero, suc, ◌+◌, ◌-◌, ◌*◌, ◌/◌, ◌%◌, ◌^◌, ◌<◌, ◌≤◌, List, Bool, true, false, eqb, min, bit_and, refl, sym, ap, subst, ◌∙◌, arith, inl, inr, w64}
use Rattle.std.specs.Prelude.{◌&&◌, not}
use Rattle.std.specs.Int.{bit_at as digit_at, bit_not}
use Rattle.std.proofs.Math.Nat.{pow-suc}
use Rattle.std.proofs.lemmas.Bool.{cases_lt}
use Rattle.std.proofs.lemmas.Nat.Bits.{bit_at-lt, bit_at_and, bit_at_not}
use Rattle.implicit_tiling.specs.declared.Scheme.{Scheme}
use Rattle.implicit_tiling.specs.declared.Scheme.TheVariants.{Quad, Oct}
use Rattle.implicit_tiling.specs.Tile.{axes, branching}
use Rattle.implicit_tiling.specs.Availability.{nodes_above}
use Rattle.implicit_tiling.specs.Bits.{bit_at}
use Rattle.bitstream.specs.Words.{IsWordFrom}
use Rattle.bitstream.proofs.Apart.{lowest_of, no_digit}
use Rattle.bitstream.proofs.Front.{digit_of_low, digit_past_low}
use Rattle.availability.specs.Rules.{node_raw_bit, raw_orphan, RepeatsBits}

two_to_axes : (scheme : Scheme) → 2 ^ axes scheme ≡ branching scheme
two_to_axes Quad = refl
two_to_axes Oct = refl

pub parent_within : (scheme : Scheme) (l k p : ℕ) → 1 ≤ l → k < branching scheme ^ l → p ≡ k / branching scheme → p < branching scheme ^ (l - 1)
parent_within scheme zero k p one h is = absurd (omega arith)
parent_within Quad (suc l) k p one h is = let back : suc l - 1 ≡ l = omega arith in omega (arith, pow-suc 4 l, ap (λ e. 4 ^ e) back)
parent_within Oct (suc l) k p one h is = let back : suc l - 1 ≡ l = omega arith in omega (arith, pow-suc 8 l, ap (λ e. 8 ^ e) back)

-- of the level's first nodes none is without its parent
abbrev pub NoOrphanBefore : Scheme → List Bool → ℕ → ℕ → Type 0
NoOrphanBefore scheme bits l end = (m : ℕ) → m < end → m < branching scheme ^ l → raw_orphan scheme bits l m ≡ false

-- the parents of 64 nodes stand side by side
parents_of_word : (scheme : Scheme) (w j : ℕ) → 64 * w / branching scheme + j / branching scheme ≡ (64 * w + j) / branching scheme
parents_of_word Quad w j = omega arith
parents_of_word Oct w j = omega arith

few_parents : (scheme : Scheme) (j : ℕ) → j < 64 → j / branching scheme < 64
few_parents Quad j h = omega arith
few_parents Oct j h = omega arith

-- a digit that the other word doesn't have
digit_alone : (c p : ℕ) → c < 2 → p < 2 → (eqb c 1 && not (eqb p 1)) ≡ eqb (min c (1 - p)) 1
digit_alone zero zero ch ph = refl
digit_alone zero (suc zero) ch ph = refl
digit_alone (suc zero) zero ch ph = refl
digit_alone (suc zero) (suc zero) ch ph = refl
digit_alone (suc (suc c)) p ch ph = absurd (omega arith)
digit_alone c (suc (suc p)) ch ph = absurd (omega arith)

-- 64 nodes of a level from a place on, their parents, and those once for each child
pub record AreWordsOf (scheme : Scheme) (bits : List Bool) (l w nodes parents each : ℕ) : Type 0 where
  pub own : IsWordFrom bits (nodes_above scheme l + 64 * w) nodes
  pub above : IsWordFrom bits (nodes_above scheme (l - 1) + 64 * w / branching scheme) parents
  pub repeats : RepeatsBits (branching scheme) parents each
  pub fits : each < 2 ^ 64

orphan_digit : (scheme : Scheme) (bits : List Bool) (l w nodes parents each j : ℕ) → AreWordsOf scheme bits l w nodes parents each → j < 64
    → raw_orphan scheme bits l (64 * w + j) ≡ eqb (digit_at (bit_and nodes (bit_not w64 each)) j) 1
orphan_digit scheme bits l w nodes parents each j are h =
    let m = 64 * w + j in
    let own_place : nodes_above scheme l + 64 * w + j ≡ nodes_above scheme l + m = omega arith in
    let own : node_raw_bit scheme bits l m ≡ eqb (digit_at nodes j) 1 = sym (are.own.digits j h ∙ ap (bit_at bits) own_place) in
    let above_place : nodes_above scheme (l - 1) + 64 * w / branching scheme + j / branching scheme ≡ nodes_above scheme (l - 1) + m / branching scheme =
    omega (arith, parents_of_word scheme w j) in
    let above : node_raw_bit scheme bits (l - 1) (m / branching scheme) ≡ eqb (digit_at each j) 1 =
    sym (ap (λ d. eqb d 1) (are.repeats j h) ∙ are.above.digits (j / branching scheme) (few_parents scheme j h) ∙ ap (bit_at bits) above_place) in
    ap (λ b. b && not (node_raw_bit scheme bits (l - 1) (m / branching scheme))) own
    ∙ ap (λ b. eqb (digit_at nodes j) 1 && not b) above
    ∙ digit_alone (digit_at nodes j) (digit_at each j) (bit_at-lt nodes j) (bit_at-lt each j)
    ∙ ap (λ d. eqb d 1) (sym (bit_at_and nodes (bit_not w64 each) j ∙ ap (λ d. min (digit_at nodes j) d) (bit_at_not w64 each j are.fits h)))

-- none of a word's first nodes is without its parent
pub none_in_word : (scheme : Scheme) (bits : List Bool) (l w nodes parents each : ℕ) → AreWordsOf scheme bits l w nodes parents each
    → bit_and nodes (bit_not w64 each) % 2 ^ (branching scheme ^ l - 64 * w) ≡ 0
    → NoOrphanBefore scheme bits l (64 * w) → NoOrphanBefore scheme bits l (64 * (w + 1))
none_in_word scheme bits l w nodes parents each are none before m low within =
    elim (cases_lt m (64 * w)) [
      | inl old ↦ before m old within
      | inr new ↦
          let alone = bit_and nodes (bit_not w64 each) in
          let k = branching scheme ^ l - 64 * w in
          let j = m - 64 * w in
          let place : 64 * w + j ≡ m = omega arith in
          let digit : digit_at alone j ≡ 0 = sym (digit_of_low alone k j (omega arith)) ∙ no_digit (alone % 2 ^ k) j none in
          ap (raw_orphan scheme bits l) (sym place) ∙ orphan_digit scheme bits l w nodes parents each j are (omega arith) ∙ ap (λ d. eqb d 1) digit
    ]

-- one of them is
pub one_in_word : (scheme : Scheme) (bits : List Bool) (l w nodes parents each : ℕ) → AreWordsOf scheme bits l w nodes parents each
    → bit_and nodes (bit_not w64 each) % 2 ^ (branching scheme ^ l - 64 * w) < 2 ^ 64 → 0 < bit_and nodes (bit_not w64 each) % 2 ^ (branching scheme ^ l - 64 * w)
    → (m : ℕ) × (m < branching scheme ^ l) × (raw_orphan scheme bits l m ≡ true)
one_in_word scheme bits l w nodes parents each are short some =
    let alone = bit_and nodes (bit_not w64 each) in
    let k = branching scheme ^ l - 64 * w in
    let found = lowest_of (alone % 2 ^ k) some short in
    let j = found.0 in
    elim (cases_lt j k) [
      | inl low ↦ (
        64 * w + j,
        omega arith,
        orphan_digit scheme bits l w nodes parents each j are found.1 ∙ ap (λ d. eqb d 1) (sym (digit_of_low alone k j low) ∙ found.2),
      )
      | inr high ↦ absurd (omega (arith, found.2, digit_past_low alone k j high))
    ]

-- the words as the code reads them
pub are_words : (scheme : Scheme) (bits : List Bool) (l w first parents shift nodes above each : ℕ) → first ≡ nodes_above scheme l → parents ≡ nodes_above scheme (l - 1) → shift ≡ axes scheme
    → IsWordFrom bits (first + 64 * w) nodes → IsWordFrom bits (parents + 64 * w / 2 ^ shift) above → RepeatsBits (branching scheme) above each → each < 2 ^ 64
    → AreWordsOf scheme bits l w nodes above each
are_words scheme bits l w first parents shift nodes above each first_is parents_is shift_is own up repeats fits = record {
  own = subst (λ n. IsWordFrom bits (n + 64 * w) nodes) first_is own;
  above = subst (λ n. IsWordFrom bits (n + 64 * w / branching scheme) above) parents_is
      (subst (λ n. IsWordFrom bits (parents + 64 * w / n) above) (ap (λ e. 2 ^ e) shift_is ∙ two_to_axes scheme) up);
  repeats = repeats;
  fits = fits;
}
