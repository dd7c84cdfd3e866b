use Rattle.std.proofs.Common.{◌≡◌, ◌*◌, ◌≤◌}
use Rattle.implicit_tiling.specs.Bits.{digit_of_bytes}
use Rattle.bitstream.proofs.Ones.{count_below}
use Rattle.bitstream.proofs.words.ones_in.Given as goal

abbrev pub invariant-loop-word : goal.invariant-loop-word
invariant-loop-word l = record {
  counted : l.ones ≡ count_below (digit_of_bytes l.bytes) (64 * l.word-index);
  few : l.ones ≤ 64 * l.word-index;
}
