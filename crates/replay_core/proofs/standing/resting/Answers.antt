use Rattle.std.proofs.Common.{sym, subst}
use Rattle.replay_core.specs.Events.{HasNoRest}
use Rattle.replay_core.proofs.Standings.{idle_at, works_at}
use Rattle.replay_core.proofs.standing.resting.Goals as goal

pub returns-in-Works-clause-none : goal.returns-in-Works-clause-none
returns-in-Works-clause-none c = λ s walks shown. let w = c.in-Works.ensures in
    let st = works_at s walks c.args.core.now c.args.number c.in-Works.field-0 c.in-Works.field-1 w.0 shown w.1 in subst HasNoRest (sym st.is) tt

pub returns-in-Idle-clause-none : goal.returns-in-Idle-clause-none
returns-in-Idle-clause-none c = λ s walks shown. subst HasNoRest (sym (idle_at s walks c.args.core.now c.args.number c.in-Idle.field-0 shown c.in-Idle.ensures)) tt
