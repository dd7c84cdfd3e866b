use Rattle.std.proofs.Common.{◌≡◌, ◌∙◌, ◌+◌, sym, ap, length, List, [], ◌∷◌, ◌++◌}
use Rattle.std.specs.List.{slice_get}
use Rattle.std.specs.Option.{option_to_list}
use Rattle.std.specs.Vec.{vec_len}
use Rattle.shared_pool.specs.NotesKept.{at-front}
use Rattle.shared_pool.proofs.Passes.{at-end, host-left, pass-new}
use Rattle.shared_pool.proofs.host.Host.pass.Goals as goal

pub invariant_of-result : goal.invariant_of-result
invariant_of-result g c =
    let items = c.pop.ensures.items ∙ ap (λ o. c.pop.new.self.items ++ option_to_list o) c.in_ok-lock.was in
    let fewer = ap (λ o. vec_len c.pop.new.self + length (option_to_list o)) (sym c.in_ok-lock.was) ∙ c.pop.ensures.len in
    let same = c.self.invariant.1 (length c.pop.new.self.items) c.in_ok-lock.lock (ap (λ l. slice_get l (length c.pop.new.self.items)) items ∙ at-end c.pop.new.self.items c.in_ok-lock.lock) in
    pass-new c.self.inside.seat _ c.self.inside.next _ (vec_len c.pop.new.self) c.self.invariant.0 fewer c.cut-seat.result _ c.cut-seat.ensures.right same

pub invariant_of-self-2 : goal.invariant_of-self-2
invariant_of-self-2 g c =
    let items = c.pop.ensures.items ∙ ap (λ o. c.pop.new.self.items ++ option_to_list o) c.in_ok-lock.was in
    let fewer = ap (λ o. vec_len c.pop.new.self + length (option_to_list o)) (sym c.in_ok-lock.was) ∙ c.pop.ensures.len in (
      host-left c.self.inside.seat _ c.self.inside.next _ (vec_len c.pop.new.self) c.self.invariant.0 fewer c.cut-seat.new.seat c.cut-seat.ensures.left,
      λ j l e. c.self.invariant.1 j l (ap (λ z. slice_get z j) items ∙ at-front c.pop.new.self.items (c.in_ok-lock.lock ∷ []) j l e),
    )
