use Rattle.std.proofs.Common.{◌≡◌}
use Rattle.shared_pool.proofs.ask.ask.Given as goal

abbrev pub invariant-loop : goal.invariant-loop
invariant-loop g l = l.seat ≡ record l.initial.seat { tries = l.seat.tries; last = l.seat.last; gave = l.seat.gave }
