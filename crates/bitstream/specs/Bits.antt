-- The bits of a bitstream, as a list (OGC 22-025r4, availability bitstreams).
use Rattle.std.specs.Prelude.{◌≡◌, ℕ, ◌<◌, ◌≤◌, ◌==◌, Bool, true, false, List, map}
use Rattle.std.specs.List.{range_with_len, count_by, list_any}
use Rattle.implicit_tiling.specs.Bits.{bit_of_bytes}

-- the first bits of some bytes
abbrev pub bits_of_bytes : List ℕ → ℕ → List Bool
bits_of_bytes bytes count = map (bit_of_bytes bytes) (range_with_len 0 count)

-- so many bits, of which those at the places are 1
abbrev pub bits_of_places : ℕ → List ℕ → List Bool
bits_of_places count places = map (λ i. list_any (λ p. p == i) places) (range_with_len 0 count)

-- how many of the bits are 1
abbrev pub ones_of : List Bool → ℕ
ones_of bits = count_by (λ bit. bit) bits

-- none of the places from `from` up to `to` has a 1
abbrev pub HasNoOne : (ℕ → Bool) → ℕ → ℕ → Type 0
HasNoOne bit from to = (i : ℕ) → from ≤ i → i < to → bit i ≡ false

-- the least of the places from `from` up to `to` that has a 1
pub record IsFirstOne (bit : ℕ → Bool) (from to place : ℕ) : Type 0 where
  pub low : from ≤ place
  pub high : place < to
  pub one : bit place ≡ true
  pub before : HasNoOne bit from place

-- each of the first n places that has a 1 has one in the other bits too; or one of them has none there
abbrev pub IsWithin : (ℕ → Bool) → (ℕ → Bool) → ℕ → Type 0
IsWithin bit other n = (i : ℕ) → i < n → bit i ≡ true → other i ≡ true

abbrev pub HasOneAlone : (ℕ → Bool) → (ℕ → Bool) → ℕ → Type 0
HasOneAlone bit other n = (i : ℕ) × (i < n) × (bit i ≡ true) × (other i ≡ false)
