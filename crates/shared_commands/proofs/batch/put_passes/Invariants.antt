use Rattle.std.specs.Vec.{vec_len}
use Rattle.shared_commands.proofs.Passes.{ArePut}
use Rattle.shared_commands.proofs.batch.put_passes.Given as goal

-- the passes that are taken off the end are in their desks
abbrev pub invariant-loop-pass : goal.invariant-loop-pass
invariant-loop-pass g l = ArePut l.fn.passes.items l.fn.desks l.passes.items l.desks

abbrev pub decreases-loop-pass : goal.decreases-loop-pass
decreases-loop-pass g l = vec_len l.passes
