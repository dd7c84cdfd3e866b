use Rattle.std.proofs.Common.{inr}
use Rattle.plan_registry.proofs.Steps.{added-made}
use Rattle.plan_registry.proofs.walks.push.Goals as goal

pub returns-in-Ok-clause-put : goal.returns-in-Ok-clause-put
returns-in-Ok-clause-put g c =
    let r = c.requires in
    inr (added-made c.args.walks.now c.push.new.self c.args.cursor.seat.tag c.args.plan c.args.walk c.args.cursor r.absent r.room r.new.0 r.new.1 c.in-Ok.ensures.entries)
