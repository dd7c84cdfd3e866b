-- Counting the ones of bytes by words.
use Rattle.std.proofs.Common.{◌≡◌, ◌∙◌, ℕ, zero, suc, ◌+◌, ◌%◌, ◌^◌, ◌<◌, ◌≤◌, cond, eqb, List, refl, sym, ap, inl, inr, arith, add-one}
use Rattle.std.specs.Int.{bit_at}
use Rattle.std.specs.Int.Count.{ones}
use Rattle.std.proofs.lemmas.Nat.{ones_le_self, zero_from_ones, ones_cat, mod-pow-add, mod_below, pow_pos}
use Rattle.std.proofs.lemmas.Bool.{cases_lt}
use Rattle.std.proofs.lemmas.Nat.Bits.{bit_at-lt}
use Rattle.std.proofs.lemmas.List.FromFn.{sum_by-map-range_with_len_more}
use Rattle.bitstream.specs.Bits.{bits_of_bytes, ones_of}
use Rattle.implicit_tiling.specs.Bits.{bit_of_bytes, digit_of_bytes}

-- the sum of the first n digits
abbrev pub count_below : (ℕ → ℕ) → ℕ → ℕ
count_below f zero = 0
count_below f (suc n) = count_below f n + f n

count_same : (f g : ℕ → ℕ) (n : ℕ) → ((i : ℕ) → i < n → f i ≡ g i) → count_below f n ≡ count_below g n
count_same f g zero same = refl
count_same f g (suc n) same =
    let before = count_same f g n (λ i h. same i (omega arith)) in
    let here = same n (omega arith) in
    omega arith

count_add : (f : ℕ → ℕ) (m n : ℕ) → count_below f (m + n) ≡ count_below f m + count_below (λ i. f (m + i)) n
count_add f m zero = let e : m + 0 ≡ m = omega arith in ap (count_below f) e ∙ omega arith
count_add f m (suc n) =
    let e : m + suc n ≡ suc (m + n) = omega arith in
    ap (count_below f) e ∙ omega (arith, count_add f m n)

-- a digit is what its test for 1 says
pub digit_again : (d : ℕ) → d < 2 → cond (eqb d 1) 1 0 ≡ d
digit_again zero h = refl
digit_again (suc zero) h = refl
digit_again (suc (suc d)) h = absurd (omega arith)

pub ones-bits_of_bytes : (bytes : List ℕ) (n : ℕ) → ones_of (bits_of_bytes bytes n) ≡ count_below (digit_of_bytes bytes) n
ones-bits_of_bytes bytes zero = refl
ones-bits_of_bytes bytes (suc n) =
    ap (λ k. ones_of (bits_of_bytes bytes k)) (sym (add-one n))
    ∙ sum_by-map-range_with_len_more (λ bit. cond bit 1 0) (bit_of_bytes bytes) 0 n n (omega arith)
    ∙ ap (λ k. k + cond (bit_of_bytes bytes n) 1 0) (ones-bits_of_bytes bytes n)
    ∙ ap (λ k. count_below (digit_of_bytes bytes) n + k) (digit_again (digit_of_bytes bytes n) (bit_at-lt _ (n % 8)))

ones_of_digit : (d : ℕ) → d < 2 → ones d ≡ d
ones_of_digit zero h = omega (arith, ones_le_self 0)
ones_of_digit (suc zero) h =
    elim (cases_lt (ones 1) 1) [
      | inl lt ↦ absurd (let none : ones 1 ≡ 0 = omega arith in omega (arith, zero_from_ones 1 none))
      | inr ge ↦ omega (arith, ones_le_self 1)
    ]
ones_of_digit (suc (suc d)) h = absurd (omega arith)

-- the lowest digits of a word
ones_of_low : (w k : ℕ) → ones (w % 2 ^ k) ≡ count_below (bit_at w) k
ones_of_low w zero = let e : w % 1 ≡ 0 = omega arith in ap ones e ∙ ones_of_digit 0 (omega arith)
ones_of_low w (suc k) =
    let e : suc k ≡ 1 + k = omega arith in
    ap (λ j. ones (w % 2 ^ j)) e ∙ ap ones (mod-pow-add w 1 k)
    ∙ ones_cat k (bit_at w k) (w % 2 ^ k) (mod_below w (2 ^ k) (pow_pos k))
    ∙ omega (arith, ones_of_low w k, ones_of_digit (bit_at w k) (bit_at-lt w k))

-- the digits from `base` on, of which a word holds 64
pub ones_more : (f : ℕ → ℕ) (base k w : ℕ) → k ≤ 64 → ((j : ℕ) → j < 64 → bit_at w j ≡ f (base + j)) → count_below f base + ones (w % 2 ^ k) ≡ count_below f (base + k)
ones_more f base k w few same =
    ap (λ n. count_below f base + n) (ones_of_low w k ∙ count_same (bit_at w) (λ j. f (base + j)) k (λ j h. same j (omega arith)))
    ∙ sym (count_add f base k)
