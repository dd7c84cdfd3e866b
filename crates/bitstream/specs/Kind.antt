-- For proofs and inner functions: what the two forms of bits hold (this project's own).
use Rattle.std.specs.Prelude.{◌*◌, ◌≤◌, Bool, List, length, replicate}
use Rattle.bitstream.specs.Bits.{bits_of_bytes}
use Rattle.bitstream.specs.declared.bits.Kind.{Kind}
use Rattle.bitstream.specs.declared.bits.Kind.TheVariants.{Constant, Bytes}

abbrev pub kind_bits : Kind → List Bool
kind_bits (Constant bit count) = replicate count bit
kind_bits (Bytes bytes count) = bits_of_bytes bytes.items count

-- there are as many bits as the count says
abbrev pub HasEnoughBytes : Kind → Type 0
HasEnoughBytes (Constant bit count) = Unit {0}
HasEnoughBytes (Bytes bytes count) = count ≤ 8 * length bytes.items
