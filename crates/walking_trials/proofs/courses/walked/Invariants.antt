use Rattle.std.proofs.Common.{◌≡◌, false}
use Rattle.walking_trials.proofs.courses.walked.Given as goal

abbrev pub invariant-loop : goal.invariant-loop
invariant-loop l = record {
  tag : l.cursor.seat.tag ≡ l.initial.cursor.seat.tag;
  idle : l.cursor.seat.has_work ≡ false;
}
