use Rattle.std.proofs.Common.{◌∙◌, sym, ap, subst}
use Rattle.plan_registry.specs.Registries.{IsRegistry}
use Rattle.plan_registry.proofs.Attached.{OnPlans, put-on, put-attached, own-tag}
use Rattle.plan_registry.proofs.registry.Registry.add.Goals as goal

pub give-requires-clause-on_plans : goal.give-requires-clause-on_plans
give-requires-clause-on_plans g c =
    let tag_of = g.C.Planned.tag_of in
    let scene = c.args.seat.now.tag in
    let taken = c.take-walks in
    let given = c.put-cursor in
    subst (λ t. OnPlans tag_of t given.new.walks) (sym (ap (λ s. s.tag) taken.ensures.taken))
    (put-on tag_of scene c.args.cursor.seat.tag c.args.plan taken.result given.new.walks given.result.0 (own-tag (tag_of scene c.args.plan) c.args.plan c.args.cursor c.requires.new.0) given.ensures.put taken.ensures.fits.3.on_plans)

pub returns-clause-attached : goal.returns-clause-attached
returns-clause-attached g c =
    let tag_of = g.C.Planned.tag_of in
    let scene = c.args.seat.now.tag in
    let taken = c.take-walks in
    let given = c.put-cursor in
    let back = c.give.ensures in
    put-attached tag_of scene c.args.plan taken.result given.new.walks _ _ (ap (λ s. s.last) back.given ∙ ap (λ s. s.last) taken.ensures.taken) (ap (λ s. s.gave) back.given)
    (taken.ensures.fits.3, subst (λ t. IsRegistry tag_of t given.new.walks) (ap (λ s. s.tag) taken.ensures.taken) back.fits) c.args.cursor.seat.tag given.result.0
    (own-tag (tag_of scene c.args.plan) c.args.plan c.args.cursor c.requires.new.0) given.ensures.put
