use Rattle.std.proofs.Common.{sym, subst}
use Rattle.replay_core.specs.Events.{HasNoCursor}
use Rattle.replay_core.proofs.Standings.{idle_at}
use Rattle.replay_core.proofs.standing.attached.Goals as goal

pub returns-in-Idle-clause-none : goal.returns-in-Idle-clause-none
returns-in-Idle-clause-none c = λ s walks shown. subst HasNoCursor (sym (idle_at s walks c.args.core.now c.args.number c.in-Idle.field-0 shown c.in-Idle.ensures)) tt
