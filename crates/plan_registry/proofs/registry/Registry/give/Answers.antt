use Rattle.plan_registry.proofs.Attached.{is-registry}
use Rattle.plan_registry.proofs.registry.Registry.give.Goals as goal

pub give-requires-clause-permitted : goal.give-requires-clause-permitted
give-requires-clause-permitted g c =
    let r = c.requires in
    (r.out.0, r.out.1, is-registry g.C.Planned.tag_of c.args.seat.now.tag c.args.walks r.room c.len-count.ensures.valid r.on_plans)

pub returns-clause-fits : goal.returns-clause-fits
returns-clause-fits g c =
    let r = c.requires in
    is-registry g.C.Planned.tag_of c.args.seat.now.tag c.args.walks r.room c.len-count.ensures.valid r.on_plans
