-- Searching for a one by words.
use Rattle.std.proofs.Common.{◌≡◌, ◌∙◌, ℕ, ◌+◌, ◌-◌, ◌*◌, ◌/◌, ◌%◌, ◌^◌, ◌<◌, ◌≤◌, Bool, false, eqb, List, length, take, drop, Option, Some, None, MatchOption, length-drop, sym, ap, inl, inr, arith, w64, eq-eqb}
use Rattle.std.specs.Int.{bit_at, trailing_zeros}
use Rattle.std.proofs.lemmas.Nat.{shr-shr, shr_le}
use Rattle.std.proofs.lemmas.Bool.{cases_lt}
use Rattle.std.proofs.lemmas.Nat.Bits.{bit_at-trailing_zeros, bit_at-zero, bit_at_above}
use Rattle.bitstream.specs.Bits.{HasNoOne, IsFirstOne}
use Rattle.implicit_tiling.specs.Bits.{bit_of_bytes, digit_of_bytes}
use Rattle.bitstream.proofs.Digits.{digit-past, digit-drop, digit-take}

is_zero : (d : ℕ) → d ≡ 0 → eqb d 1 ≡ false
is_zero d e = ap (λ k. eqb k 1) e

-- n places from `base` on whose digits a word holds
pub record Holds (f : ℕ → ℕ) (base n w : ℕ) : Type 0 where
  pub fits : w < 2 ^ 64
  pub few : n ≤ 64
  pub same : (j : ℕ) → j < n → bit_at w j ≡ f (base + j)
  pub above : (j : ℕ) → n ≤ j → bit_at w j ≡ 0

-- the word is 0
pub none_more : (bytes : List ℕ) (from base n w : ℕ) → Holds (digit_of_bytes bytes) base n w → HasNoOne (bit_of_bytes bytes) from base → w ≡ 0 → HasNoOne (bit_of_bytes bytes) from (base + n)
none_more bytes from base n w holds none zeros i low high =
    elim (cases_lt i base) [
      | inl lt ↦ none i low lt
      | inr ge ↦
          let e : base + (i - base) ≡ i = omega arith in
          is_zero (digit_of_bytes bytes i) (sym (ap (digit_of_bytes bytes) e) ∙ sym (holds.same (i - base) (omega arith)) ∙ ap (λ k. bit_at k (i - base)) zeros ∙ bit_at-zero (i - base))
    ]

-- the word's lowest one
pub first_more : (bytes : List ℕ) (from base n w : ℕ) → Holds (digit_of_bytes bytes) base n w → from ≤ base → HasNoOne (bit_of_bytes bytes) from base → 0 < w
    → IsFirstOne (bit_of_bytes bytes) from (8 * length bytes) (base + trailing_zeros w64 w)
first_more bytes from base n w holds low none some =
    let t = trailing_zeros w64 w in
    let lowest = bit_at-trailing_zeros w64 w some holds.fits in
    let near : t < n = elim (cases_lt t n) [ inl lt ↦ lt | inr ge ↦ absurd (omega (arith, lowest.1, holds.above t ge)) ] in
    let one : digit_of_bytes bytes (base + t) ≡ 1 = sym (holds.same t near) ∙ lowest.1 in
    record {
      low = omega arith;
      high = elim (cases_lt (base + t) (8 * length bytes)) [ inl lt ↦ lt | inr ge ↦ absurd (omega (arith, one, digit-past bytes (base + t) ge)) ];
      one = eq-eqb (digit_of_bytes bytes (base + t)) 1 one;
      before = λ i at_least below. elim (cases_lt i base) [
        | inl lt ↦ none i at_least lt
        | inr ge ↦
            let e : base + (i - base) ≡ i = omega arith in
            is_zero (digit_of_bytes bytes i) (sym (ap (digit_of_bytes bytes) e) ∙ sym (holds.same (i - base) (omega arith)) ∙ lowest.2 (i - base) (omega arith))
      ];
    }

-- a whole word, and one without its lowest digits
pub whole : (f : ℕ → ℕ) (base w : ℕ) → w < 2 ^ 64 → ((j : ℕ) → j < 64 → bit_at w j ≡ f (base + j)) → Holds f base 64 w
whole f base w fits same = record { fits = fits; few = omega arith; same = same; above = λ j h. bit_at_above w 64 j fits h }

pub shifted : (f : ℕ → ℕ) (base k from w : ℕ) → base + k ≡ from → k < 64 → w < 2 ^ 64 → ((j : ℕ) → j < 64 → bit_at w j ≡ f (base + j)) → Holds f from (64 - k) (w / 2 ^ k)
shifted f base k from w e few fits same =
    let moved : (j : ℕ) → bit_at (w / 2 ^ k) j ≡ bit_at w (k + j) = λ j. ap (λ n. n % 2) (shr-shr w k j) in
    record {
      fits = omega (arith, shr_le w k);
      few = omega arith;
      same = λ j h. let at : base + (k + j) ≡ from + j = omega arith in moved j ∙ same (k + j) (omega arith) ∙ ap f at;
      above = λ j h. moved j ∙ bit_at_above w 64 (k + j) fits (omega arith);
    }

-- ---- the same bits elsewhere

pub none_same : (p q : ℕ → Bool) (from to end : ℕ) → ((i : ℕ) → i < end → q i ≡ p i) → end ≤ to → HasNoOne p from to → HasNoOne q from end
none_same p q from to end same le none i low high = same i high ∙ none i low (omega arith)

pub first_same : (p q : ℕ → Bool) (from to end place : ℕ) → ((i : ℕ) → i < end → q i ≡ p i) → place < end → IsFirstOne p from to place → IsFirstOne q from end place
first_same p q from to end place same lt found = record {
  low = found.low;
  high = lt;
  one = same place lt ∙ found.one;
  before = λ i low below. same i (omega arith) ∙ found.before i low below;
}

pub match_same : (p q : ℕ → Bool) (from to : ℕ) (r : Option ℕ) → ((i : ℕ) → i < to → q i ≡ p i) → MatchOption r (HasNoOne p from to) (IsFirstOne p from to) → MatchOption r (HasNoOne q from to) (IsFirstOne q from to)
match_same p q from to None same none = none_same p q from to to same (omega arith) none
match_same p q from to (Some place) same found = first_same p q from to to place same found.high found

bit-drop : (n : ℕ) (bytes : List ℕ) (i : ℕ) → bit_of_bytes bytes (8 * n + i) ≡ bit_of_bytes (drop n bytes) i
bit-drop n bytes i = ap (λ d. eqb d 1) (sym (digit-drop n bytes i))

pub bit_in-drop : (n : ℕ) (bytes : List ℕ) (i : ℕ) → 8 * n ≤ i → bit_of_bytes bytes i ≡ bit_of_bytes (drop n bytes) (i - 8 * n)
bit_in-drop n bytes i h = let e : i ≡ 8 * n + (i - 8 * n) = omega arith in ap (bit_of_bytes bytes) e ∙ bit-drop n bytes (i - 8 * n)

-- after the first bytes, which have no one from `from` on
pub none_after : (bytes : List ℕ) (next from : ℕ) → HasNoOne (bit_of_bytes bytes) from (8 * next) → HasNoOne (bit_of_bytes (drop next bytes)) 0 (8 * length (drop next bytes)) → HasNoOne (bit_of_bytes bytes) from (8 * length bytes)
none_after bytes next from before after i low high =
    elim (cases_lt i (8 * next)) [
      | inl lt ↦ before i low lt
      | inr ge ↦ bit_in-drop next bytes i ge ∙ after (i - 8 * next) (omega arith) (omega (arith, length-drop next bytes))
    ]

pub first_after : (bytes : List ℕ) (next from place : ℕ) → from ≤ 8 * next → HasNoOne (bit_of_bytes bytes) from (8 * next) → IsFirstOne (bit_of_bytes (drop next bytes)) 0 (8 * length (drop next bytes)) place
    → IsFirstOne (bit_of_bytes bytes) from (8 * length bytes) (8 * next + place)
first_after bytes next from place low none found = record {
  low = omega arith;
  high = omega (arith, found.high, length-drop next bytes);
  one = bit-drop next bytes place ∙ found.one;
  before = λ i at_least below. elim (cases_lt i (8 * next)) [
    | inl lt ↦ none i at_least lt
    | inr ge ↦ bit_in-drop next bytes i ge ∙ found.before (i - 8 * next) (omega arith) (omega arith)
  ];
}

-- a part from the front
pub bit-take : (n : ℕ) (bytes : List ℕ) (i : ℕ) → i < 8 * n → bit_of_bytes bytes i ≡ bit_of_bytes (take n bytes) i
bit-take n bytes i h = ap (λ d. eqb d 1) (sym (digit-take n bytes i h))
