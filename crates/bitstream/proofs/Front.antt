-- Words of bits from any place on.
use Rattle.std.proofs.Common.{◌≡◌, ◌∙◌, ℕ, ◌+◌, ◌-◌, ◌*◌, ◌/◌, ◌%◌, ◌^◌, ◌<◌, ◌≤◌, Bool, true, false, eqb, min, bit_and, bit_or, List, length, replicate, sym, ap, arith, inl, inr}
use Rattle.std.specs.Int.{bit_at}
use Rattle.std.proofs.Math.Nat.{mod-eq_of_lt}
use Rattle.std.proofs.lemmas.Bool.{cases_lt}
use Rattle.std.proofs.lemmas.Nat.{and_mask, or_shifted, shr-shr, mod_below, pow_pos}
use Rattle.std.proofs.lemmas.Nat.Bits.{bit_at_above, bit_at_cat_low, bit_at_cat_high, bit_at_ones}
use Rattle.std.proofs.lemmas.List.{get_or_past, length-replicate}
use Rattle.bitstream.specs.Bits.{bits_of_bytes}
use Rattle.implicit_tiling.specs.Bits.{digit_of_bytes, bit_at as bit_in}
use Rattle.bitstream.specs.Words.{HasDigits, IsWordFrom}
use Rattle.bitstream.proofs.Digits.{digit-past}
use Rattle.bitstream.proofs.Lists.{length-bits_of_bytes, bit_at-bits_of_bytes, bit_at-replicate}

-- ---- a word and its lowest digits

pub digit_of_low : (w k j : ℕ) → j < k → bit_at (w % 2 ^ k) j ≡ bit_at w j
digit_of_low w k j low =
    let whole : w / 2 ^ k * 2 ^ k + w % 2 ^ k ≡ w = omega arith in
    sym (bit_at_cat_low (w / 2 ^ k) k (w % 2 ^ k) j low) ∙ ap (λ n. bit_at n j) whole

pub digit_past_low : (w k j : ℕ) → k ≤ j → bit_at (w % 2 ^ k) j ≡ 0
digit_past_low w k j high = bit_at_above (w % 2 ^ k) k j (mod_below w (2 ^ k) (pow_pos k)) high

-- ---- two words side by side, and what is left of them behind the first digits

pub behind_digits : (f : ℕ → ℕ) (from k low high : ℕ) → k < 64 → low < 2 ^ 64 → high < 2 ^ 64
    → ((j : ℕ) → j < 64 → bit_at low j ≡ f (from + j)) → ((j : ℕ) → j < 64 → bit_at high j ≡ f (from + 64 + j))
    → (i : ℕ) → i < 64 → bit_at (bit_and (bit_or (high * 2 ^ 64 % 2 ^ 128) low / 2 ^ k) (2 ^ 64 - 1)) i ≡ f (from + k + i)
behind_digits f from k low high few low_fits high_fits lows highs i h =
    let both : bit_or (high * 2 ^ 64 % 2 ^ 128) low ≡ high * 2 ^ 64 + low =
    ap (λ n. bit_or n low) (mod-eq_of_lt (omega arith)) ∙ or_shifted high 64 low low_fits in
    ap (λ n. bit_at (bit_and (n / 2 ^ k) (2 ^ 64 - 1)) i) both
    ∙ ap (λ n. bit_at n i) (and_mask ((high * 2 ^ 64 + low) / 2 ^ k) 64)
    ∙ digit_of_low ((high * 2 ^ 64 + low) / 2 ^ k) 64 i h
    ∙ ap (λ n. n % 2) (shr-shr (high * 2 ^ 64 + low) k i)
    ∙ elim (cases_lt (k + i) 64) [
      | inl first ↦
          let place : from + (k + i) ≡ from + k + i = omega arith in
          bit_at_cat_low high 64 low (k + i) first ∙ lows (k + i) first ∙ ap f place
      | inr second ↦
          let place : from + 64 + (k + i - 64) ≡ from + k + i = omega arith in
          bit_at_cat_high high 64 low (k + i) low_fits second ∙ highs (k + i - 64) (omega arith) ∙ ap f place
    ]

-- the digits of the bytes from place q on, of which there are none past the end
pub digits_past : (bytes : List ℕ) (q m w : ℕ) → m ≡ min q (length bytes) → ((j : ℕ) → j < 64 → bit_at w j ≡ digit_of_bytes bytes (8 * m + j))
    → (j : ℕ) → j < 64 → bit_at w j ≡ digit_of_bytes bytes (8 * q + j)
digits_past bytes q m w m_is digits j h =
    elim (cases_lt q (length bytes)) [
      | inl low ↦ digits j h ∙ ap (λ n. digit_of_bytes bytes (8 * n + j)) (let same : m ≡ q = omega arith in same)
      | inr past ↦ digits j h ∙ digit-past bytes (8 * m + j) (omega arith) ∙ sym (digit-past bytes (8 * q + j) (omega arith))
    ]

-- ---- the word of a list of bits

pub word_from_low : (bits : List Bool) (from w left : ℕ) → left ≡ length bits - from
    → ((j : ℕ) → j < 64 → from + j < length bits → eqb (bit_at w j) 1 ≡ bit_in bits (from + j)) → IsWordFrom bits from (w % 2 ^ left)
word_from_low bits from w left left_is same = record {
  digits = λ i h. elim (cases_lt i left) [
    | inl low ↦ ap (λ d. eqb d 1) (digit_of_low w left i low) ∙ same i h (omega arith)
    | inr past ↦ ap (λ d. eqb d 1) (digit_past_low w left i past) ∙ sym (get_or_past bits (from + i) false (omega arith))
  ];
}

pub word_of_ones : (count from left : ℕ) → left ≡ length (replicate count true) - from → IsWordFrom (replicate count true) from ((2 ^ 64 - 1) % 2 ^ left)
word_of_ones count from left left_is =
    word_from_low (replicate count true) from (2 ^ 64 - 1) left left_is (λ j h low.
    ap (λ d. eqb d 1) (bit_at_ones 64 j h) ∙ sym (bit_at-replicate count (from + j) true (omega (arith, length-replicate count true))))

pub word_of_front : (bytes : List ℕ) (count from left w : ℕ) → left ≡ length (bits_of_bytes bytes count) - from → HasDigits (digit_of_bytes bytes) from w
    → IsWordFrom (bits_of_bytes bytes count) from (w % 2 ^ left)
word_of_front bytes count from left w left_is digits =
    word_from_low (bits_of_bytes bytes count) from w left left_is (λ j h low.
    ap (λ d. eqb d 1) (digits j h) ∙ sym (bit_at-bits_of_bytes bytes count (from + j) (omega (arith, length-bits_of_bytes bytes count))))
