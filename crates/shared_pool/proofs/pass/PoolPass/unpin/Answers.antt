use Rattle.std.proofs.Common.{◌∙◌, ap, sym, subst}
use Rattle.shared_pool.specs.Seen.{HasFreed, IsHeld}
use Rattle.shared_pool.proofs.pass.PoolPass.unpin.Goals as goal

pub free-requires-clause-pins : goal.free-requires-clause-pins
free-requires-clause-pins g c =
    let p = subst (λ h. IsHeld h c.self.inside.seat.note) c.in-Pinned.is c.self.invariant.held in
    (p.0, ap (λ s. s.note.pin) c.take-shared.ensures.taken ∙ p.1, p.2)

pub returns-clause-freed : goal.returns-clause-freed
returns-clause-freed g c =
    let t = c.take-shared.ensures.taken in
    let s = c.free.ensures.same in
    let v = c.self.view_is in
    let new = c.free.new.seat in
    let here = coe 0 1 (k. HasFreed (t k).tag (t k).note (sym (ap (λ z. z.last) s) k) new.gave new.note) c.free.ensures.made in
    coe 0 1 (k. HasFreed (v k).tag (v k).note new.last new.gave new.note) here
