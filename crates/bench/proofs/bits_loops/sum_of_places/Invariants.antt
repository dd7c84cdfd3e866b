use Rattle.std.proofs.Common.{◌-◌, ◌≤◌}
use Rattle.bench.proofs.bits_loops.sum_of_places.Given as goal

abbrev pub invariant-loop-place : goal.invariant-loop-place
invariant-loop-place l = l.from ≤ l.end

abbrev pub decreases-loop-place : goal.decreases-loop-place
decreases-loop-place l = l.end - l.from
