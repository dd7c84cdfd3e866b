-- The digits of bytes and of words.
use Rattle.std.proofs.Common.{◌≡◌, ◌∙◌, ℕ, zero, suc, ◌+◌, ◌-◌, ◌*◌, ◌/◌, ◌%◌, ◌^◌, ◌<◌, ◌≤◌, List, length, get_or, take, drop, refl, sym, ap, inl, inr, arith, w64}
use Rattle.std.specs.Int.{sum_through, byte_worth, from_le_bytes, bit_at}
use Rattle.std.proofs.Math.Nat.{pow-suc, mul-suc}
use Rattle.std.proofs.lemmas.Nat.{pow-add, row_fits}
use Rattle.std.proofs.lemmas.Bool.{cases_lt}
use Rattle.std.proofs.lemmas.Nat.Bits.{bit_at_cat_low, bit_at_cat_high, bit_at-zero}
use Rattle.std.proofs.lemmas.List.{get_or-drop, get_or-take, get_or_past, drop-drop}
use Rattle.std.specs.Simd.{first_chunks}
use Rattle.implicit_tiling.specs.Bits.{digit_of_bytes}
use Rattle.bitstream.specs.Words.{IsWordOf}

-- ---- the word of bytes

pow_256 : (n : ℕ) → 256 ^ n ≡ 2 ^ (8 * n)
pow_256 zero = refl
pow_256 (suc n) =
    let e : 8 * suc n ≡ 8 * n + 8 = omega arith in
    pow-suc 256 n ∙ ap (λ p. p * 256) (pow_256 n) ∙ sym (pow-add 2 (8 * n) 8) ∙ ap (λ k. 2 ^ k) (sym e)

abbrev sum_of : (ℕ → ℕ) → ℕ → ℕ
sum_of f k = sum_through (λ i. byte_worth i (f i)) k

below : (f : ℕ → ℕ) → ((i : ℕ) → f i < 256) → (k : ℕ) → sum_of f k < 2 ^ (8 * suc k)
below f each zero = each 0
below f each (suc k) =
    let more : 2 ^ (8 * suc (suc k)) ≡ 256 * 2 ^ (8 * suc k) = sym (pow_256 (suc (suc k))) ∙ pow-suc 256 (suc k) ∙ ap (λ p. p * 256) (pow_256 (suc k)) ∙ omega arith in
    let one = below f each k in
    rw (pow_256 (suc k), more) (omega (arith, row_fits (f (suc k)) (2 ^ (8 * suc k)) 256 (2 ^ (8 * suc k)) (each (suc k)) (omega arith)))

digits : (f : ℕ → ℕ) → ((i : ℕ) → f i < 256) → (k i : ℕ) → i < 8 * suc k → bit_at (sum_of f k) i ≡ bit_at (f (i / 8)) (i % 8)
digits f each zero i h =
    let row : i / 8 ≡ 0 = omega arith in
    let column : i % 8 ≡ i = omega arith in
    rw (row, column) refl
digits f each (suc k) i h =
    let high = f (suc k) in
    let low = sum_of f k in
    let swapped : low + high * 2 ^ (8 * suc k) ≡ high * 2 ^ (8 * suc k) + low = omega arith in
    ap (λ p. bit_at (low + high * p) i) (pow_256 (suc k)) ∙ ap (λ n. bit_at n i) swapped ∙
    elim (cases_lt i (8 * suc k)) [
      | inl lt ↦ bit_at_cat_low high (8 * suc k) low i lt ∙ digits f each k i lt
      | inr ge ↦
          let row : i / 8 ≡ suc k = omega arith in
          let column : i % 8 ≡ i - 8 * suc k = omega arith in
          bit_at_cat_high high (8 * suc k) low i (below f each k) ge ∙ (rw (row, column) refl)
    ]

pub word_of_bytes : (bytes : List ℕ) → ((i : ℕ) → get_or bytes i 0 < 256) → IsWordOf bytes (from_le_bytes w64 bytes)
word_of_bytes bytes each = record { digits = λ i h. digits (λ k. get_or bytes k 0) each 7 i h }

-- ---- parts of bytes

pub digit-drop : (n : ℕ) (bytes : List ℕ) (i : ℕ) → digit_of_bytes (drop n bytes) i ≡ digit_of_bytes bytes (8 * n + i)
digit-drop n bytes i =
    let row : n + i / 8 ≡ (8 * n + i) / 8 = omega arith in
    let column : i % 8 ≡ (8 * n + i) % 8 = omega arith in
    ap (λ b. bit_at b (i % 8)) (get_or-drop n bytes (i / 8) 0 ∙ ap (λ k. get_or bytes k 0) row) ∙ ap (λ k. bit_at (get_or bytes ((8 * n + i) / 8) 0) k) column

pub digit-take : (n : ℕ) (bytes : List ℕ) (i : ℕ) → i < 8 * n → digit_of_bytes (take n bytes) i ≡ digit_of_bytes bytes i
digit-take n bytes i h = ap (λ b. bit_at b (i % 8)) (get_or-take n bytes (i / 8) 0 (omega arith))

-- there is none past the end
pub digit-past : (bytes : List ℕ) (i : ℕ) → 8 * length bytes ≤ i → digit_of_bytes bytes i ≡ 0
digit-past bytes i h = ap (λ b. bit_at b (i % 8)) (get_or_past bytes (i / 8) 0 (omega arith)) ∙ bit_at-zero (i % 8)

-- a chunk of the first ones
pub chunk_at : {X : Type 0} (n k : ℕ) (xs : List X) (i : ℕ) (d : List X) → i < k → get_or (first_chunks n k xs) i d ≡ take n (drop (n * i) xs)
chunk_at n zero xs i d h = absurd (omega arith)
chunk_at n (suc k) xs zero d h =
    let e : 0 ≡ n * 0 = omega arith in ap (λ j. take n (drop j xs)) e
chunk_at n (suc k) xs (suc i) d h = chunk_at n k (drop n xs) i d (omega arith) ∙
    (let e : n + n * i ≡ n * suc i = omega (arith, mul-suc n i) in ap (take n) (drop-drop (n * i) n xs ∙ ap (λ j. drop j xs) e))
