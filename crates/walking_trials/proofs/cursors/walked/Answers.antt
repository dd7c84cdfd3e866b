use Rattle.std.proofs.Common.{sym}
use Rattle.region_cursor.proofs.Callers.{walk_stays, outcome_fits}
use Rattle.walking_trials.proofs.cursors.walked.Goals as goal

pub step-requires-clause-fits : goal.step-requires-clause-fits
step-requires-clause-fits c =
    outcome_fits c.args.layout.now c.args.plan.region c.steps.cursor c.in-Some.key c.in-Some-outcome_at.outcome c.steps.invariant (sym c.in-Some.ensures.key) c.in-Some.ensures.root c.in-Some-outcome_at.ensures

pub steps-preserved : goal.steps-preserved
steps-preserved c = walk_stays c.args.layout.now c.args.plan.region c.steps.cursor c.step.new.self c.steps.invariant c.in_ok-end.ensures.same
