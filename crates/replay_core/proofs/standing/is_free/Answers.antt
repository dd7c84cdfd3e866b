use Rattle.std.proofs.Common.{sym, subst}
use Rattle.replay_core.specs.Events.{IsNotFree}
use Rattle.replay_core.proofs.Standings.{works_at}
use Rattle.replay_core.proofs.standing.is_free.Goals as goal

pub returns-in-Works-clause-taken : goal.returns-in-Works-clause-taken
returns-in-Works-clause-taken c = λ no s walks shown. let w = c.in-Works.ensures in
    let st = works_at s walks c.args.core.now c.args.number c.in-Works.field-0 c.in-Works.field-1 w.0 shown w.1 in subst IsNotFree (sym st.is) tt
