-- The lists of bits.
use Rattle.std.proofs.Common.{◌≡◌, ◌∙◌, ℕ, zero, suc, ◌<◌, ◌≤◌, Bool, true, false, cond, List, length, take, replicate, refl, arith}
use Rattle.std.proofs.lemmas.List.FromFn.{length-map-range_with_len, get_or-map-range_with_len, take-map-range_with_len}
use Rattle.std.proofs.lemmas.List.{get_or-replicate}
use Rattle.std.proofs.lemmas.List.Sums.{sum_by-cons}
use Rattle.bitstream.specs.Bits.{bits_of_bytes, ones_of}
use Rattle.implicit_tiling.specs.Bits.{bit_at, bit_of_bytes}

pub length-bits_of_bytes : (bytes : List ℕ) (count : ℕ) → length (bits_of_bytes bytes count) ≡ count
length-bits_of_bytes bytes count = length-map-range_with_len (bit_of_bytes bytes) 0 count

pub bit_at-bits_of_bytes : (bytes : List ℕ) (count i : ℕ) → i < count → bit_at (bits_of_bytes bytes count) i ≡ bit_of_bytes bytes i
bit_at-bits_of_bytes bytes count i h = get_or-map-range_with_len (bit_of_bytes bytes) 0 count i i false h (omega arith)

pub take-bits_of_bytes : (bytes : List ℕ) (count n : ℕ) → n ≤ count → take n (bits_of_bytes bytes count) ≡ bits_of_bytes bytes n
take-bits_of_bytes bytes count n h = take-map-range_with_len (bit_of_bytes bytes) 0 count n h

pub bit_at-replicate : (count i : ℕ) (bit : Bool) → i < count → bit_at (replicate count bit) i ≡ bit
bit_at-replicate count i bit h = get_or-replicate count i bit false h

pub ones_of-replicate : (count : ℕ) (bit : Bool) → ones_of (replicate count bit) ≡ cond bit count 0
ones_of-replicate zero true = refl
ones_of-replicate zero false = refl
ones_of-replicate (suc n) true = sum_by-cons (λ b. cond b 1 0) true (replicate n true) ∙ omega (arith, ones_of-replicate n true)
ones_of-replicate (suc n) false = sum_by-cons (λ b. cond b 1 0) false (replicate n false) ∙ omega (arith, ones_of-replicate n false)
