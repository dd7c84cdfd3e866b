use Rattle.std.proofs.Common.{◌∙◌, ◌∷◌, [], ◌++◌, List, Option, ap, subst}
use Rattle.std.proofs.lemmas.List.Elements.{All-rest}
use Rattle.std.specs.Vec.Iter.{into_iter_items}
use Rattle.subtree_outcome.specs.declared.outcome.Outcome.{Outcome}
use Rattle.replay_script.specs.declared.event.Event.{Event}
use Rattle.replay_core.specs.Core.{AsksFor}
use Rattle.replay_run.specs.Runs.{MayRun}
use Rattle.replay_run.proofs.Ran.{HasCome, may_go_on, run_on}
use Rattle.replay_run.proofs.running.run.Goals as goal

pub loop-event-preserved : goal.loop-event-preserved
loop-event-preserved c =
    let inv = c.loop-event.invariant in
    let items = c.in-Some.ensures.steps.0 in
    let rest = into_iter_items c.next.new.self in
    let pushed = c.append.ensures ∙ ap (λ rs. rs ++ c.in_ok-reply.reply ∷ []) c.in_ok-reserve.ensures.items in
    record {
      core = c.in_ok-reply.ensures.core;
      plans = All-rest (AsksFor c.args.layout.now) c.in-Some.event rest _ items inv.plans;
      may = may_go_on c.args.layout.now c.loop-event.core c.step.new.self c.in-Some.event rest c.in_ok-reply.reply
          (subst (λ (es : List (Event (Option Outcome))). MayRun c.args.layout.now c.loop-event.core es) items inv.may) c.in_ok-reply.ensures.scene;
      come = λ s m same whole shown brought. run_on c.args.layout.now s m c.args.events.items rest c.in-Some.event c.loop-event.core c.step.new.self c.in_ok-reply.reply c.args.replies.now.items c.loop-event.replies.items _ same whole
          (subst (λ (es : List (Event (Option Outcome))). HasCome s m c.args.events.items es c.loop-event.core c.args.replies.now.items c.loop-event.replies.items) items (inv.come s m same whole shown brought))
          c.in_ok-reply.ensures.scene pushed;
    }
