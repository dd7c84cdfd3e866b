use Rattle.std.proofs.Common.{refl, subst}
use Rattle.walk_laws.specs.Plans.{FitsLayout}
use Rattle.batch_blocks.proofs.Plans.{refusal_of_line}
use Rattle.batch_run.proofs.Answering.{line_replied, line_answered, read_in, line_refused}
use Rattle.batch_run.proofs.work.answer_line.Goals as goal

pub answer_plan-requires-clause-plan : goal.answer_plan-requires-clause-plan
answer_plan-requires-clause-plan g c = subst (λ l. FitsLayout l c.in-Ok.plan) c.layout.ensures c.in-Ok.ensures.fits

pub returns-in-Ok-clause-reply : goal.returns-in-Ok-clause-reply
returns-in-Ok-clause-reply g c =
    line_replied _ _ _ c.args.line.now c.in-Ok.plan _ c.answer_plan.result c.layout.ensures c.in-Ok.ensures.read refl c.in-Ok.ensures.within c.answer_plan.ensures.reply

pub returns-in-Ok-clause-answered : goal.returns-in-Ok-clause-answered
returns-in-Ok-clause-answered g c =
    line_answered _ _ _ c.args.line.now c.in-Ok.plan _ c.answer_plan.result _ _ _ _ c.layout.ensures c.in-Ok.ensures.read refl c.answer_plan.ensures.answered

pub returns-in-Err-clause-reply : goal.returns-in-Err-clause-reply
returns-in-Err-clause-reply g c = refusal_of_line _ _ c.args.line.now c.in-Err.number (read_in _ _ c.args.line.now c.in-Err.number _ c.layout.ensures c.in-Err.ensures.read refl)

pub returns-in-Err-clause-answered : goal.returns-in-Err-clause-answered
returns-in-Err-clause-answered g c = line_refused _ _ c.args.line.now c.in-Err.number _ _ (read_in _ _ c.args.line.now c.in-Err.number _ c.layout.ensures c.in-Err.ensures.read refl)
