use Rattle.shared_commands.proofs.Passes.{AreTaken}
use Rattle.shared_commands.proofs.batch.take_passes.Given as goal

-- the passes of the desks so far are taken out
abbrev pub invariant-loop-desk : goal.invariant-loop-desk
invariant-loop-desk g l = AreTaken l.fn.desks l.desk-index l.desks
