-- Bits that are all 1, and the answers of two forms of bits.
use Rattle.std.proofs.Common.{◌≡◌, ◌∙◌, ℕ, zero, suc, ◌+◌, ◌<◌, ◌≤◌, Bool, true, false, cond, eqb, List, [], ◌∷◌, length, take, replicate, refl, sym, subst, arith, inl, inr}
use Rattle.std.specs.Bool.{MatchBool}
use Rattle.std.proofs.lemmas.Bool.{cases_eq, eq-eqb, ne_eqb}
use Rattle.std.proofs.lemmas.List.{get_or-take, length-take-le}
use Rattle.std.proofs.lemmas.List.Sums.{sum_by-cons}
use Rattle.bitstream.specs.Bits.{ones_of, IsWithin, HasOneAlone}
use Rattle.implicit_tiling.specs.Bits.{bit_at}
use Rattle.bitstream.proofs.Lists.{bit_at-replicate}

one_more : (b : Bool) (xs : List Bool) → ones_of (b ∷ xs) ≡ cond b 1 0 + ones_of xs
one_more b xs = sum_by-cons (λ b. cond b 1 0) b xs

at_most_all : (xs : List Bool) → ones_of xs ≤ length xs
at_most_all [] = omega arith
at_most_all (true ∷ xs) = omega (arith, one_more true xs, at_most_all xs)
at_most_all (false ∷ xs) = omega (arith, one_more false xs, at_most_all xs)

-- the bits of a list with as many ones
pub all_true : (xs : List Bool) → ones_of xs ≡ length xs → (i : ℕ) → i < length xs → bit_at xs i ≡ true
all_true [] e i h = absurd (omega arith)
all_true (true ∷ xs) e zero h = refl
all_true (true ∷ xs) e (suc i) h = all_true xs (omega (arith, one_more true xs)) i (omega arith)
all_true (false ∷ xs) e i h = absurd (omega (arith, one_more false xs, at_most_all xs))

some_false : (xs : List Bool) → ones_of xs < length xs → (i : ℕ) × (i < length xs) × (bit_at xs i ≡ false)
some_false [] h = absurd (omega arith)
some_false (false ∷ xs) h = (0, omega arith, refl)
some_false (true ∷ xs) h = let rest = some_false xs (omega (arith, one_more true xs)) in (suc rest.0, omega (arith, rest.1), rest.2)

-- as many ones as bits
pub full_answers : (bits : List Bool) (count n r : ℕ) → n ≤ count → n ≤ length bits → r ≡ ones_of (take n bits)
    → MatchBool (eqb r n) (IsWithin (bit_at (replicate count true)) (bit_at bits) n) (HasOneAlone (bit_at (replicate count true)) (bit_at bits) n)
full_answers bits count n r few long is =
    let P : Type 0 = IsWithin (bit_at (replicate count true)) (bit_at bits) n in
    let Q : Type 0 = HasOneAlone (bit_at (replicate count true)) (bit_at bits) n in
    let len : length (take n bits) ≡ n = length-take-le n bits long in
    elim (cases_eq r n) [
      | inl full ↦ subst (λ b. MatchBool b P Q) (sym (eq-eqb r n full)) (λ i low one.
          sym (get_or-take n bits i false low) ∙ all_true (take n bits) (sym is ∙ full ∙ sym len) i (omega (arith, len)))
      | inr short ↦ subst (λ b. MatchBool b P Q) (sym (ne_eqb r n short))
          (let less : ones_of (take n bits) < length (take n bits) = omega (arith, at_most_all (take n bits), len, short) in
          let hole = some_false (take n bits) less in
          let low : hole.0 < n = omega (arith, hole.1, len) in
          (hole.0, low, bit_at-replicate count hole.0 true (omega arith), sym (get_or-take n bits hole.0 false low) ∙ hole.2))
    ]

-- the same bits elsewhere
pub same_answer : (p q p2 q2 : ℕ → Bool) (n : ℕ) (r : Bool) → ((i : ℕ) → i < n → p2 i ≡ p i) → ((i : ℕ) → i < n → q2 i ≡ q i)
    → MatchBool r (IsWithin p q n) (HasOneAlone p q n) → MatchBool r (IsWithin p2 q2 n) (HasOneAlone p2 q2 n)
same_answer p q p2 q2 n true ps qs within = λ i low one. qs i low ∙ within i low (sym (ps i low) ∙ one)
same_answer p q p2 q2 n false ps qs alone = (alone.0, alone.1, ps alone.0 alone.1 ∙ alone.2, qs alone.0 alone.1 ∙ alone.3)
