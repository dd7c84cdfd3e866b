-- Whether the ones of some digits are ones of others, by words: no digit of `w & !v` is 1.
use Rattle.std.proofs.Common.{◌≡◌, ◌∙◌, ℕ, ◌+◌, ◌-◌, ◌*◌, ◌/◌, ◌%◌, ◌^◌, ◌<◌, ◌≤◌, min, bit_and, List, sym, ap, subst, arith, eqb, lit≤, inl, inr, w64}
use Rattle.std.specs.Bool.{MatchBool}
use Rattle.std.specs.Int.{bit_at, bit_not, trailing_zeros}
use Rattle.std.proofs.lemmas.Bool.{cases_lt, cases_eq, eq-eqb, eqb-true, ne_eqb}
use Rattle.std.proofs.Math.Nat.{pos_of_ne-zero}
use Rattle.std.proofs.lemmas.Nat.{one_shl, and_le_l}
use Rattle.std.proofs.lemmas.Nat.Bits.{bit_at_and, bit_at_not, bit_at_ones, bit_at_ones_above, bit_at-zero, bit_at-lt, bit_at-trailing_zeros}
use Rattle.bitstream.specs.Bits.{IsWithin, HasOneAlone}
use Rattle.implicit_tiling.specs.Bits.{bit_of_bytes, digit_of_bytes}

-- of the first n digits each that is 1 is 1 in the other ones too, or one of them is not
abbrev pub KeepsTo : (ℕ → ℕ) → (ℕ → ℕ) → ℕ → Type 0
KeepsTo f g n = (i : ℕ) → i < n → f i ≡ 1 → g i ≡ 1

pub record LeavesAt (f g : ℕ → ℕ) (n i : ℕ) : Type 0 where
  pub low : i < n
  pub one : f i ≡ 1
  pub none : g i ≡ 0

-- the digits of a word that the other word doesn't have
apart_digit : (w v j : ℕ) → v < 2 ^ 64 → j < 64 → bit_at (bit_and w (bit_not w64 v)) j ≡ min (bit_at w j) (1 - bit_at v j)
apart_digit w v j fits few = bit_at_and w (bit_not w64 v) j ∙ ap (λ d. min (bit_at w j) d) (bit_at_not w64 v j fits few)

both_one : (a b : ℕ) → min a b ≡ 0 → a ≡ 1 → b ≡ 0
both_one a b h one = omega arith

first_one : (a b : ℕ) → a < 2 → min a b ≡ 1 → a ≡ 1
first_one a b few h = omega arith

second_one : (a b : ℕ) → b < 2 → min a (1 - b) ≡ 1 → b ≡ 0
second_one a b few h = omega arith

kept_one : (b : ℕ) → b < 2 → 1 - b ≡ 0 → b ≡ 1
kept_one b few h = omega arith

-- a word more
pub keeps_more : (f g : ℕ → ℕ) (base k w v : ℕ) → k ≤ 64 → v < 2 ^ 64
    → ((j : ℕ) → j < 64 → bit_at w j ≡ f (base + j)) → ((j : ℕ) → j < 64 → bit_at v j ≡ g (base + j))
    → ((j : ℕ) → j < k → bit_at (bit_and w (bit_not w64 v)) j ≡ 0) → KeepsTo f g base → KeepsTo f g (base + k)
keeps_more f g base k w v few fits fw gv none before i low one =
    elim (cases_lt i base) [
      | inl old ↦ before i old one
      | inr new ↦
          let j : ℕ = i - base in
          let place : base + j ≡ i = omega arith in
          let short : j < k = omega arith in
          let within : j < 64 = omega arith in
          let own : bit_at w j ≡ 1 = fw j within ∙ ap f place ∙ one in
          let nothing = both_one (bit_at w j) (1 - bit_at v j) (sym (apart_digit w v j fits within) ∙ none j short) own in
          ap g (sym place) ∙ sym (gv j within) ∙ kept_one (bit_at v j) (bit_at-lt v j) nothing
    ]

pub leaves_at : (f g : ℕ → ℕ) (base n w v j : ℕ) → j < 64 → base + j < n → v < 2 ^ 64
    → ((j : ℕ) → j < 64 → bit_at w j ≡ f (base + j)) → ((j : ℕ) → j < 64 → bit_at v j ≡ g (base + j))
    → bit_at (bit_and w (bit_not w64 v)) j ≡ 1 → LeavesAt f g n (base + j)
leaves_at f g base n w v j few low fits fw gv is =
    let digit : min (bit_at w j) (1 - bit_at v j) ≡ 1 = sym (apart_digit w v j fits few) ∙ is in
    record {
      low = low;
      one = sym (fw j few) ∙ first_one (bit_at w j) (1 - bit_at v j) (bit_at-lt w j) digit;
      none = sym (gv j few) ∙ second_one (bit_at w j) (bit_at v j) (bit_at-lt v j) digit;
    }

-- a word that is 0 has no digit, and another one has a lowest
pub no_digit : (a j : ℕ) → a ≡ 0 → bit_at a j ≡ 0
no_digit a j none = ap (λ n. bit_at n j) none ∙ bit_at-zero j

-- the word under the mask of its k lowest digits
pub masked_digit : (a k j : ℕ) → k < 64 → j < k → bit_and a (1 * 2 ^ k % 18446744073709551616 - 1) ≡ 0 → bit_at a j ≡ 0
masked_digit a k j few low none =
    let mask : bit_at (bit_and a (2 ^ k - 1)) j ≡ min (bit_at a j) 1 = bit_at_and a (2 ^ k - 1) j ∙ ap (λ d. min (bit_at a j) d) (bit_at_ones k j low) in
    let nothing : bit_at (bit_and a (2 ^ k - 1)) j ≡ 0 = no_digit (bit_and a (2 ^ k - 1)) j (ap (λ m. bit_and a (m - 1)) (sym (one_shl k 64 few)) ∙ none) in
    omega (arith, bit_at-lt a j)

-- the least digit under the mask
pub lowest_under : (a k : ℕ) → k < 64 → a < 2 ^ 64 → (bit_and a (1 * 2 ^ k % 18446744073709551616 - 1) ≡ 0 → ⊥) → (j : ℕ) × (j < k) × (bit_at a j ≡ 1)
lowest_under a k few fits some =
    let m : ℕ = bit_and a (2 ^ k - 1) in
    let same : bit_and a (1 * 2 ^ k % 18446744073709551616 - 1) ≡ m = ap (λ m. bit_and a (m - 1)) (one_shl k 64 few) in
    let pos : 0 < m = pos_of_ne-zero (λ none. some (same ∙ none)) in
    let short : m < 2 ^ 64 = omega (arith, and_le_l a (2 ^ k - 1)) in
    let first = bit_at-trailing_zeros w64 m pos short in
    let j = trailing_zeros w64 m in
    let digit : min (bit_at a j) (bit_at (2 ^ k - 1) j) ≡ 1 = sym (bit_at_and a (2 ^ k - 1) j) ∙ first.1 in
    elim (cases_lt j k) [
      | inl low ↦ (j, low, first_one (bit_at a j) (bit_at (2 ^ k - 1) j) (bit_at-lt a j) digit)
      | inr high ↦ absurd (omega (arith, bit_at_ones_above k j high))
    ]

-- ---- as bits

pub within_bits : (bytes other : List ℕ) (n : ℕ) → KeepsTo (digit_of_bytes bytes) (digit_of_bytes other) n → IsWithin (bit_of_bytes bytes) (bit_of_bytes other) n
within_bits bytes other n keeps i low one = eq-eqb (digit_of_bytes other i) 1 (keeps i low (eqb-true (digit_of_bytes bytes i) 1 one))

pub alone_bit : (bytes other : List ℕ) (n i : ℕ) → LeavesAt (digit_of_bytes bytes) (digit_of_bytes other) n i → HasOneAlone (bit_of_bytes bytes) (bit_of_bytes other) n
alone_bit bytes other n i at =
    (i, at.low, eq-eqb (digit_of_bytes bytes i) 1 at.one, ne_eqb (digit_of_bytes other i) 1 (λ one. omega (arith, at.none, one)))

-- the lowest digit of a word
pub lowest_of : (a : ℕ) → 0 < a → a < 2 ^ 64 → (j : ℕ) × (j < 64) × (bit_at a j ≡ 1)
lowest_of a pos short = let first = bit_at-trailing_zeros w64 a pos short in (trailing_zeros w64 a, first.0, first.1)

pub apart_fits : (w v : ℕ) → w < 2 ^ 64 → bit_and w (bit_not w64 v) < 2 ^ 64
apart_fits w v fits = omega (arith, and_le_l w (bit_not w64 v))

-- ---- what the words of two bytes' bits answer

pub word_is_alone : (bytes other : List ℕ) (n i w v : ℕ) → i < n / 64 → w < 2 ^ 64 → v < 2 ^ 64
    → ((j : ℕ) → j < 64 → bit_at w j ≡ digit_of_bytes bytes (64 * i + j)) → ((j : ℕ) → j < 64 → bit_at v j ≡ digit_of_bytes other (64 * i + j))
    → 0 < bit_and w (bit_not w64 v) → HasOneAlone (bit_of_bytes bytes) (bit_of_bytes other) n
word_is_alone bytes other n i w v low wf vf fw gv some =
    let found = lowest_of (bit_and w (bit_not w64 v)) some (apart_fits w v wf) in
    alone_bit bytes other n (64 * i + found.0)
    (leaves_at (digit_of_bytes bytes) (digit_of_bytes other) (64 * i) n w v found.0 found.1 (omega (arith, found.1)) vf fw gv found.2)

pub word_keeps : (bytes other : List ℕ) (i w v : ℕ) → v < 2 ^ 64
    → ((j : ℕ) → j < 64 → bit_at w j ≡ digit_of_bytes bytes (64 * i + j)) → ((j : ℕ) → j < 64 → bit_at v j ≡ digit_of_bytes other (64 * i + j))
    → bit_and w (bit_not w64 v) ≡ 0 → KeepsTo (digit_of_bytes bytes) (digit_of_bytes other) (64 * i) → KeepsTo (digit_of_bytes bytes) (digit_of_bytes other) (64 * (i + 1))
word_keeps bytes other i w v vf fw gv none before =
    let next : 64 * i + 64 ≡ 64 * (i + 1) = omega arith in
    subst (KeepsTo (digit_of_bytes bytes) (digit_of_bytes other)) next
    (keeps_more (digit_of_bytes bytes) (digit_of_bytes other) (64 * i) 64 w v (lit≤ tt) vf fw gv (λ j h. no_digit (bit_and w (bit_not w64 v)) j none) before)

pub rest_answers : (bytes other : List ℕ) (n i w v : ℕ) → i ≡ n / 64 → w < 2 ^ 64 → v < 2 ^ 64
    → ((j : ℕ) → j < 64 → bit_at w j ≡ digit_of_bytes bytes (64 * i + j)) → ((j : ℕ) → j < 64 → bit_at v j ≡ digit_of_bytes other (64 * i + j))
    → KeepsTo (digit_of_bytes bytes) (digit_of_bytes other) (64 * i)
    → MatchBool (eqb (bit_and (bit_and w (bit_not w64 v)) (1 * 2 ^ (n % 64) % 18446744073709551616 - 1)) 0)
    (IsWithin (bit_of_bytes bytes) (bit_of_bytes other) n) (HasOneAlone (bit_of_bytes bytes) (bit_of_bytes other) n)
rest_answers bytes other n i w v end wf vf fw gv before =
    let a : ℕ = bit_and w (bit_not w64 v) in
    let k : ℕ = n % 64 in
    let few : k < 64 = omega arith in
    let whole : 64 * i + k ≡ n = omega arith in
    let P : Type 0 = IsWithin (bit_of_bytes bytes) (bit_of_bytes other) n in
    let Q : Type 0 = HasOneAlone (bit_of_bytes bytes) (bit_of_bytes other) n in
    elim (cases_eq (bit_and a (1 * 2 ^ k % 18446744073709551616 - 1)) 0) [
      | inl none ↦ subst (λ b. MatchBool b P Q) (sym (eq-eqb (bit_and a (1 * 2 ^ k % 18446744073709551616 - 1)) 0 none))
          (within_bits bytes other n (subst (KeepsTo (digit_of_bytes bytes) (digit_of_bytes other)) whole
          (keeps_more (digit_of_bytes bytes) (digit_of_bytes other) (64 * i) k w v (omega arith) vf fw gv (λ j h. masked_digit a k j few h none) before)))
      | inr some ↦ subst (λ b. MatchBool b P Q) (sym (ne_eqb (bit_and a (1 * 2 ^ k % 18446744073709551616 - 1)) 0 some))
          (let found = lowest_under a k few (apart_fits w v wf) some in
          alone_bit bytes other n (64 * i + found.0)
          (leaves_at (digit_of_bytes bytes) (digit_of_bytes other) (64 * i) n w v found.0 (omega (arith, found.1)) (omega (arith, found.1)) vf fw gv found.2))
    ]
