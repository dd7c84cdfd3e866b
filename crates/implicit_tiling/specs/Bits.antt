-- The bits of bytes and of lists of bits (OGC 22-025r4, availability bitstreams).
use Rattle.std.specs.Prelude.{ℕ, ◌/◌, ◌%◌, ◌^◌, ◌==◌, Bool, false, List, slice_index, slice_index_or}

-- bit i of some bytes, as 0 or 1: bit i mod 8 of byte i / 8, where bit 0 of a byte is its least significant one
abbrev pub digit_of_bytes : List ℕ → ℕ → ℕ
digit_of_bytes bytes i = slice_index bytes (i / 8) / 2 ^ (i % 8) % 2

abbrev pub bit_of_bytes : List ℕ → ℕ → Bool
bit_of_bytes bytes i = digit_of_bytes bytes i == 1

-- bit i of a list of bits, which is 0 past the end
abbrev pub bit_at : List Bool → ℕ → Bool
bit_at bits i = slice_index_or bits i false
