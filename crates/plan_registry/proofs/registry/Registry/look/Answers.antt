use Rattle.std.proofs.Common.{◌∙◌, sym, ap, subst}
use Rattle.plan_registry.specs.Registries.{IsRegistry}
use Rattle.plan_registry.proofs.Attached.{OnPlans, looked-on, asked}
use Rattle.plan_registry.proofs.registry.Registry.look.Goals as goal

pub give-requires-clause-on_plans : goal.give-requires-clause-on_plans
give-requires-clause-on_plans g c =
    let tag_of = g.C.Planned.tag_of in
    let taken = c.take-walks in
    let given = c.find-looked in
    subst (λ t. OnPlans tag_of t given.new.walks) (sym (ap (λ s. s.tag) taken.ensures.taken))
    (looked-on tag_of c.args.seat.now.tag c.args.plan taken.result given.new.walks given.result given.ensures.looked taken.ensures.fits.3.on_plans)

pub returns-clause-asked : goal.returns-clause-asked
returns-clause-asked g c =
    let tag_of = g.C.Planned.tag_of in
    let taken = c.take-walks in
    let given = c.find-looked in
    let back = c.give.ensures in
    asked tag_of c.args.seat.now.tag c.args.plan taken.result given.new.walks _ _ (ap (λ s. s.last) back.given ∙ ap (λ s. s.last) taken.ensures.taken) (ap (λ s. s.gave) back.given)
    (taken.ensures.fits.3, subst (λ t. IsRegistry tag_of t given.new.walks) (ap (λ s. s.tag) taken.ensures.taken) back.fits) given.result given.ensures.looked
