use Rattle.std.proofs.Common.{◌≡◌, replicate}
use Rattle.frame_pool.specs.declared.frame.FrameState.TheVariants.{Empty}
use Rattle.frame_pool.proofs.pool.empty_states.Given as goal

abbrev pub invariant-loop : goal.invariant-loop
invariant-loop g l = l.states.items ≡ replicate l.counter Empty
