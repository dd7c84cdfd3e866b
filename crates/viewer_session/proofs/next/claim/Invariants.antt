use Rattle.std.proofs.Common.{◌≡◌, false}
use Rattle.viewer_session.specs.Looks.{HasLooked}
use Rattle.viewer_session.proofs.next.claim.Given as goal

abbrev pub invariant-loop : goal.invariant-loop
invariant-loop g l = record {
  looked : HasLooked l.fn.cursor.seat l.cursor.seat;
  plan : l.cursor.plan ≡ l.fn.cursor.plan;
  at_rest : l.cursor.seat.has_work ≡ false;
  steps : l.cursor.seat.steps ≡ l.fn.cursor.seat.steps;
}
