use Rattle.std.proofs.Common.{sym}
use Rattle.availability.proofs.Masks.{mask_step, byte_of_bit}
use Rattle.availability.proofs.rules.mask_at.Goals as goal

pub loop-content-preserved : goal.loop-content-preserved
loop-content-preserved c =
    mask_step c.args.contents.now c.args.place c.loop-content.content c.loop-content.mask _ c.index-contents-content.result c.get.result
    c.loop-content-test.true c.requires.few (sym c.index-contents-content.is) c.get.ensures (byte_of_bit c.get.result) c.loop-content.invariant
