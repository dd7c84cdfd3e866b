use Rattle.frame_pool.specs.Finding.{NoneEmptyBelow}
use Rattle.frame_pool.proofs.victim.first_empty.Given as goal

abbrev pub invariant-loop-frame : goal.invariant-loop-frame
invariant-loop-frame g l = NoneEmptyBelow l.frame l.census
