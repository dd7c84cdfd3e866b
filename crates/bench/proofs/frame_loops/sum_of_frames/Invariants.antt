use Rattle.bench.proofs.Pins.{HavePins}
use Rattle.bench.proofs.frame_loops.sum_of_frames.Given as goal

abbrev pub invariant-loop-call : goal.invariant-loop-call
invariant-loop-call l = HavePins l.call l.pool.census
