-- The bytes that bits fill (OGC 22-025r4, availability bitstreams).
use Rattle.std.specs.Prelude.{ℕ, zero, suc, ◌+◌, ◌*◌, ◌/◌, ◌^◌, Bool, List, length, map, if◌then◌else◌}
use Rattle.std.specs.List.{range_with_len}
use Rattle.implicit_tiling.specs.Bits.{bit_at}

-- the number of the first n bits, where bit j has the worth 2^j
abbrev pub number_of_bits : (ℕ → Bool) → ℕ → ℕ
number_of_bits bit zero = 0
number_of_bits bit (suc n) = number_of_bits bit n + (if bit n then 2 ^ n else 0)

-- so many bits fill so many bytes
abbrev pub bytes_filled : ℕ → ℕ
bytes_filled count = (count + 7) / 8

-- byte k has the bits 8 k to 8 k + 7, the first of them least significant
abbrev pub byte_of_bits : List Bool → ℕ → ℕ
byte_of_bits bits k = number_of_bits (λ j. bit_at bits (8 * k + j)) 8

-- as few bytes as the bits fill; unused bits are 0
abbrev pub bytes_of_bits : List Bool → List ℕ
bytes_of_bits bits = map (byte_of_bits bits) (range_with_len 0 (bytes_filled (length bits)))
