use Rattle.std.proofs.Common.{refl, arith}
use Rattle.std.specs.Prelude.{slice_index_or}
use Rattle.shared_commands.proofs.Passes.{one_taken, all_taken}
use Rattle.shared_commands.proofs.batch.take_passes.Goals as goal

pub loop-desk-preserved : goal.loop-desk-preserved
loop-desk-preserved g c =
    one_taken _ c.loop-desk.desk-index c.loop-desk.desks c.take_pass.result c.desk-item.result (slice_index_or c.loop-desk.desks c.loop-desk.desk-index c.desk-item.result) c.take_pass.new.self c.loop-desk.invariant
    (omega (arith, c.loop-desk-test.true, c.loop-desk.invariant.many)) refl c.take_pass.ensures.before c.take_pass.ensures.now

pub returns : goal.returns
returns g c = all_taken _ c.loop-desk.desk-index c.loop-desk.desks c.loop-desk.invariant (omega (arith, c.loop-desk-test.false, c.loop-desk.invariant.many))
