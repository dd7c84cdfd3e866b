use Rattle.std.proofs.Common.{◌*◌}
use Rattle.implicit_tiling.specs.Bits.{digit_of_bytes}
use Rattle.bitstream.proofs.Apart.{KeepsTo}
use Rattle.bitstream.proofs.within.has_all_of.Given as goal

abbrev pub invariant-loop-index : goal.invariant-loop-index
invariant-loop-index l = KeepsTo (digit_of_bytes l.bytes) (digit_of_bytes l.other) (64 * l.index)
