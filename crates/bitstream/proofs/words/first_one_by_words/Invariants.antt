use Rattle.std.proofs.Common.{◌*◌}
use Rattle.bitstream.specs.Bits.{HasNoOne}
use Rattle.implicit_tiling.specs.Bits.{bit_of_bytes}
use Rattle.bitstream.proofs.words.first_one_by_words.Given as goal

abbrev pub invariant-loop-index : goal.invariant-loop-index
invariant-loop-index l = HasNoOne (bit_of_bytes l.bytes) 0 (64 * l.index)
