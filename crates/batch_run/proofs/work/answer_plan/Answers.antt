use Rattle.batch_run.proofs.Answering.{plan_at_last}
use Rattle.batch_run.proofs.work.answer_plan.Goals as goal

pub returns-in-Some-asked-clause-answered : goal.returns-in-Some-asked-clause-answered
returns-in-Some-asked-clause-answered g c = plan_at_last g.P.Pass.whole c.args.plan _ _ _ _ _ _ c.in_ok-asked.asked c.in-Some-asked.reply c.loop.invariant.sure c.loop.invariant.walked c.in-Some-asked.is c.in_ok-asked.ensures.answered
