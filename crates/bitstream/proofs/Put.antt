-- Bytes in which a bit is put.
use Rattle.std.proofs.Common.{◌≡◌, ◌≢◌, ◌∙◌, ℕ, ◌*◌, ◌/◌, ◌%◌, ◌^◌, ◌<◌, ◌||◌, Bool, true, false, eqb, List, [], ◌∷◌, get_or, set, length, replicate, bit_or, get_or-set_other, get_or-set_same, refl, sym, ap, inl, inr, arith, w8}
use Rattle.std.specs.Int.{bit_at as digit_at}
use Rattle.std.proofs.lemmas.Bool.{cases_eq, eq-eqb, ne_eqb}
use Rattle.std.proofs.lemmas.List.{get_or-replicate, length-replicate}
use Rattle.std.proofs.lemmas.List.FromFn.{fill_by_all}
use Rattle.std.proofs.lemmas.Nat.Bits.{bit_at_set_same, bit_at_set_other, bit_at-zero}
use Rattle.std.specs.List.{list_any}
use Rattle.bitstream.specs.Bits.{bits_of_bytes, bits_of_places}
use Rattle.implicit_tiling.specs.Bits.{bit_of_bytes}
use Rattle.bitstream.specs.Places.{HasOnesAt}
use Rattle.bitstream.proofs.Lists.{length-bits_of_bytes, bit_at-bits_of_bytes}

or_true : (b : Bool) → (b || true) ≡ true
or_true true = refl
or_true false = refl

or_false : (b : Bool) → (b || false) ≡ b
or_false true = refl
or_false false = refl

-- a byte in which bit k is put
abbrev put : ℕ → ℕ → ℕ
put byte k = bit_or byte (1 * 2 ^ k % 256)

-- in the byte of the place, in its column and in the others
bit_of_put : (byte place i : ℕ) → i / 8 ≡ place / 8 → eqb (digit_at (put byte (place % 8)) (i % 8)) 1 ≡ (eqb (digit_at byte (i % 8)) 1 || eqb place i)
bit_of_put byte place i row =
    elim (cases_eq (i % 8) (place % 8)) [
      | inl column ↦
          let here : place ≡ i = omega arith in
          ap (λ k. eqb (digit_at (put byte (place % 8)) k) 1) column
          ∙ ap (λ d. eqb d 1) (bit_at_set_same w8 byte (place % 8) (omega arith))
          ∙ sym (ap (λ b. eqb (digit_at byte (i % 8)) 1 || b) (eq-eqb place i here) ∙ or_true (eqb (digit_at byte (i % 8)) 1))
      | inr other ↦
          let apart : place ≢ i = λ here. other (ap (λ n. n % 8) (sym here)) in
          ap (λ d. eqb d 1) (bit_at_set_other w8 byte (place % 8) (omega arith) (i % 8) other)
          ∙ sym (ap (λ b. eqb (digit_at byte (i % 8)) 1 || b) (ne_eqb place i apart) ∙ or_false (eqb (digit_at byte (i % 8)) 1))
    ]

-- the bit at the place is 1, and the others are as they were
pub bit-set : (bytes : List ℕ) (place i : ℕ) → place / 8 < length bytes
    → bit_of_bytes (set bytes (place / 8) (bit_or (get_or bytes (place / 8) 0) (1 * 2 ^ (place % 8) % 256))) i ≡ (bit_of_bytes bytes i || eqb place i)
bit-set bytes place i within =
    let byte : ℕ = get_or bytes (place / 8) 0 in
    let new : ℕ = put byte (place % 8) in
    elim (cases_eq (i / 8) (place / 8)) [
      | inl row ↦
          ap (λ n. eqb (digit_at (get_or (set bytes (place / 8) new) n 0) (i % 8)) 1) row
          ∙ ap (λ b. eqb (digit_at b (i % 8)) 1) (get_or-set_same bytes (place / 8) new 0 within)
          ∙ bit_of_put byte place i row
          ∙ ap (λ n. eqb (digit_at (get_or bytes n 0) (i % 8)) 1 || eqb place i) (sym row)
      | inr other ↦
          let apart : place ≢ i = λ here. other (ap (λ n. n / 8) (sym here)) in
          ap (λ b. eqb (digit_at b (i % 8)) 1) (get_or-set_other bytes (place / 8) (i / 8) new 0 other)
          ∙ sym (ap (λ b. bit_of_bytes bytes i || b) (ne_eqb place i apart) ∙ or_false (bit_of_bytes bytes i))
    ]

-- bytes that are 0 have no 1
pub bit-zeros : (n i : ℕ) → i / 8 < n → bit_of_bytes (replicate n 0) i ≡ false
bit-zeros n i within = ap (λ b. eqb (digit_at b (i % 8)) 1) (get_or-replicate n (i / 8) 0 0 within) ∙ ap (λ d. eqb d 1) (bit_at-zero (i % 8))

-- bytes with ones at the places have the bits of the places
pub bits_of_bytes-places : (bytes : List ℕ) (count : ℕ) (places : List ℕ) → HasOnesAt bytes count places → bits_of_bytes bytes count ≡ bits_of_places count places
bits_of_bytes-places bytes count places have =
    fill_by_all (λ i. list_any (λ p. eqb p i) places) (bits_of_bytes bytes count) count false (length-bits_of_bytes bytes count)
    (λ i h. bit_at-bits_of_bytes bytes count i h ∙ have.bits i h)

-- bits that are all 0 are those of no places
pub zeros_are_of_no_places : (count : ℕ) (places : List ℕ) → length places ≡ 0 → replicate count false ≡ bits_of_places count places
zeros_are_of_no_places count [] none =
    fill_by_all (λ i. false) (replicate count false) count false (length-replicate count false) (λ i h. get_or-replicate count i false false h)
zeros_are_of_no_places count (p ∷ places) none = absurd (omega (arith, none))
