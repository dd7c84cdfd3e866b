use Rattle.std.proofs.Common.{sym, subst}
use Rattle.replay_core.specs.Events.{HasNoWork}
use Rattle.replay_core.proofs.Standings.{idle_at, reads_at}
use Rattle.replay_core.proofs.standing.working.Goals as goal

pub returns-in-Reads-clause-none : goal.returns-in-Reads-clause-none
returns-in-Reads-clause-none c = λ s walks shown. let r = c.in-Reads.ensures in
    let st = reads_at s walks c.args.core.now c.args.number c.in-Reads.field-0 c.in-Reads.field-1 r.0 shown r.1 in subst HasNoWork (sym st.is) tt

pub returns-in-Idle-clause-none : goal.returns-in-Idle-clause-none
returns-in-Idle-clause-none c = λ s walks shown. subst HasNoWork (sym (idle_at s walks c.args.core.now c.args.number c.in-Idle.field-0 shown c.in-Idle.ensures)) tt
