use Rattle.std.proofs.Common.{◌∙◌, ap, subst}
use Rattle.shared_pool.specs.Seen.{HasAsked, HasHit}
use Rattle.shared_pool.proofs.Passes.{pass-hit, pass-granted}
use Rattle.shared_pool.proofs.pass.PoolPass.pin.Goals as goal

pub invariant_of-self : goal.invariant_of-self
invariant_of-self g c =
    let s = c.ask.ensures.same in
    let old = c.self.inside.seat in
    let new = c.ask.new.seat in
    pass-hit old new _ c.self.inside.number c.self.inside.held c.self.invariant (ap (λ t. t.table) s) (ap (λ t. t.tag) s) (ap (λ t. t.out) s ∙ c.self.invariant.idle) g.R.Key.PartialEq.eq g.R.PoolRule.fits c.args.key c.in-Hit.frame c.in-Hit.value
    (subst (HasAsked g.R.Key.PartialEq.eq g.R.PoolRule.fits c.self.inside.number c.args.key old.tag old.note new.last new.gave new.note) c.in-Hit.is c.ask.ensures.answer)

pub invariant_of-self-in-Granted : goal.invariant_of-self-in-Granted
invariant_of-self-in-Granted g c =
    let s = c.ask.ensures.same in
    let old = c.self.inside.seat in
    let new = c.ask.new.seat in
    pass-granted old new _ c.self.inside.number c.self.inside.held c.self.invariant (ap (λ t. t.table) s) (ap (λ t. t.tag) s) (ap (λ t. t.out) s ∙ c.self.invariant.idle) g.R.Key.PartialEq.eq c.args.key c.in-Granted.frame
    (subst (HasAsked g.R.Key.PartialEq.eq g.R.PoolRule.fits c.self.inside.number c.args.key old.tag old.note new.last new.gave new.note) c.in-Granted.is c.ask.ensures.answer)

pub returns-in-Hit-clause-answer : goal.returns-in-Hit-clause-answer
returns-in-Hit-clause-answer g c =
    let v = c.self.view_is in
    let old = c.self.inside.seat in
    let new = c.ask.new.seat in
    let here = subst (HasAsked g.R.Key.PartialEq.eq g.R.PoolRule.fits c.self.inside.number c.args.key old.tag old.note new.last new.gave new.note) c.in-Hit.is c.ask.ensures.answer in
    (c.in-Hit.frame, coe 0 1 (k. HasHit g.R.Key.PartialEq.eq g.R.PoolRule.fits c.args.key (v k).tag (v k).note new.last new.gave new.note c.in-Hit.frame c.in-Hit.value) here)
