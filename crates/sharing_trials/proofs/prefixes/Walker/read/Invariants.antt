use Rattle.std.proofs.Common.{◌≡◌, ◌≤◌}
use Rattle.sharing_trials.proofs.prefixes.Walker.read.Given as goal

abbrev pub invariant-loop : goal.invariant-loop
invariant-loop g l = l.place ≤ 65536
