use Rattle.std.proofs.Common.{◌∙◌, ap, sym, subst, Some, None}
use Rattle.shared_pool.specs.Seen.{HasSettled, IsHeld}
use Rattle.shared_pool.proofs.Passes.{number-there, pass-filled, pass-failed}
use Rattle.shared_pool.proofs.pass.PoolPass.settle.Goals as goal

pub invariant_of-self : goal.invariant_of-self
invariant_of-self g c =
    let t = c.take-shared.ensures.taken in
    let s = c.fill.ensures.same in
    let old = c.self.inside.seat in
    let new = c.fill.new.seat in
    pass-filled old new _ c.self.inside.number c.self.inside.held c.self.invariant (ap (λ z. z.table) s ∙ ap (λ z. z.table) t) (ap (λ z. z.tag) s ∙ ap (λ z. z.tag) t) (ap (λ z. z.out) s) c.in-Loading.frame c.in-Loading.key c.in-Some.value
    (subst (λ h. IsHeld h old.note) c.in-Loading.is c.self.invariant.held)
    (coe 0 1 (k. HasSettled c.self.inside.number (t k).tag (t k).note (sym (ap (λ z. z.last) s) k) new.gave new.note (Some c.in-Some.value)) (c.fill.ensures.made c.self.inside.number))

pub fail-requires-clause-number : goal.fail-requires-clause-number
fail-requires-clause-number g c = let a = c.self.invariant.alone in number-there c.self.inside.number _ a.0 (ap (λ z. z.note.granted) c.take-shared.ensures.taken ∙ a.1)

pub invariant_of-self-in-None : goal.invariant_of-self-in-None
invariant_of-self-in-None g c =
    let t = c.take-shared.ensures.taken in
    let s = c.fail.ensures.same in
    let old = c.self.inside.seat in
    let new = c.fail.new.seat in
    pass-failed old new _ c.self.inside.number c.self.inside.held c.self.invariant (ap (λ z. z.table) s ∙ ap (λ z. z.table) t) (ap (λ z. z.tag) s ∙ ap (λ z. z.tag) t) (ap (λ z. z.out) s)
    (coe 0 1 (k. HasSettled c.self.inside.number (t k).tag (t k).note (sym (ap (λ z. z.last) s) k) new.gave new.note None) c.fail.ensures.made)

pub returns-in-Some-clause-settled : goal.returns-in-Some-clause-settled
returns-in-Some-clause-settled g c =
    let t = c.take-shared.ensures.taken in
    let s = c.fill.ensures.same in
    let v = c.self.view_is in
    let new = c.fill.new.seat in
    let here = coe 0 1 (k. HasSettled c.self.inside.number (t k).tag (t k).note (sym (ap (λ z. z.last) s) k) new.gave new.note (Some c.in-Some.value)) (c.fill.ensures.made c.self.inside.number) in
    coe 0 1 (k. HasSettled (v k).number (v k).tag (v k).note new.last new.gave new.note (sym c.in-Some.is k)) here

pub returns-in-None-clause-settled : goal.returns-in-None-clause-settled
returns-in-None-clause-settled g c =
    let t = c.take-shared.ensures.taken in
    let s = c.fail.ensures.same in
    let v = c.self.view_is in
    let new = c.fail.new.seat in
    let here = coe 0 1 (k. HasSettled c.self.inside.number (t k).tag (t k).note (sym (ap (λ z. z.last) s) k) new.gave new.note None) c.fail.ensures.made in
    coe 0 1 (k. HasSettled (v k).number (v k).tag (v k).note new.last new.gave new.note (sym c.in-None.is k)) here
