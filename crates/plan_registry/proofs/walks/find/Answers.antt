use Rattle.std.proofs.Common.{refl}
use Rattle.plan_registry.proofs.Steps.{none-there, shared-same, found-made}
use Rattle.plan_registry.proofs.walks.find.Goals as goal

pub returns-in_default-clause-looked : goal.returns-in_default-clause-looked
returns-in_default-clause-looked g c = (refl, none-there c.args.walks.now c.args.plan c.in_default.ensures.value)

pub returns-in_default-another-clause-looked : goal.returns-in_default-another-clause-looked
returns-in_default-another-clause-looked g c = shared-same c.args.walks.now c.args.plan c.in-Some.walk.now _ c.in-Some.ensures.value c.another.ensures.same

pub returns-clause-looked : goal.returns-clause-looked
returns-clause-looked g c = found-made c.args.walks.now c.promote.new.self c.args.plan c.in-Some.walk.now _ c.in-Ok.cursor c.requires.by_plan c.in-Some.ensures.value c.another.ensures.same c.promote.ensures.entries c.in-Ok.ensures.cursor
