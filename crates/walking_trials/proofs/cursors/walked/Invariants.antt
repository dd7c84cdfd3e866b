use Rattle.region_cursor.specs.Cursor.{IsWalkOf}
use Rattle.walking_trials.proofs.cursors.walked.Given as goal

abbrev pub invariant-steps : goal.invariant-steps
invariant-steps l = IsWalkOf l.layout l.fn.plan.region l.cursor
