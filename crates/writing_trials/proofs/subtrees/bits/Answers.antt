use Rattle.std.proofs.Common.{◌∙◌, length, ap}
use Rattle.bitstream.proofs.Lists.{length-bits_of_bytes}
use Rattle.writing_trials.proofs.subtrees.bits.Goals as goal

pub returns-in-Some : goal.returns-in-Some
returns-in-Some c = ap length c.in-Some.ensures.bits ∙ length-bits_of_bytes c.in_ok-bytes.bytes.items c.args.count
