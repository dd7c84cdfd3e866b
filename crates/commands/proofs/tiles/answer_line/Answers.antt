use Rattle.std.proofs.Common.{sym}
use Rattle.std.specs.Prelude.{Some, Ok, Err}
use Rattle.request_text.specs.Lines.{line_seen}
use Rattle.commands.proofs.Answering.{line_replies, plan_fits}
use Rattle.subtree_outcome.proofs.Reading.{told_always}
use Rattle.commands.proofs.tiles.answer_line.Goals as goal

pub answer_plan-requires : goal.answer_plan-requires
answer_plan-requires g c = plan_fits c.args.layout.now (Some (line_seen c.args.line.now)) c.in-Ok.plan (sym c.in-Ok.ensures)

pub returns-in-Ok-clause-replies : goal.returns-in-Ok-clause-replies
returns-in-Ok-clause-replies g c = line_replies _ c.args.layout.now (line_seen c.args.line.now) (Ok c.in-Ok.plan) _ _ _ c.in-Ok.ensures c.answer_plan.ensures.replies

pub returns-in-Err-clause-replies : goal.returns-in-Err-clause-replies
returns-in-Err-clause-replies g c = line_replies _ c.args.layout.now (line_seen c.args.line.now) (Err c.in-Err.number) _ _ _ c.in-Err.ensures (told_always _ _ (λ all. c.refuse.ensures.replies))
