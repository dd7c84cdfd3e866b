use Rattle.std.proofs.Common.{sym, ap, ◌∙◌, arith}
use Rattle.published_prefix.specs.Prefixes.{fault_high_with}
use Rattle.published_prefix.proofs.Keeps.{high_put_allowed, low_put_allowed, put_turn}
use Rattle.published_prefix.proofs.writing.Prefix+C.write_fault.Goals as goal

pub store-requires : goal.store-requires
store-requires g c =
    let own = c.requires.own ∙ sym c.self.view_is in
    let words = ap (λ t. t.words) own in
    let size = c.requires.size in
    let t = c.requires.turn in
    (own, omega arith, high_put_allowed _ _ _ _ _ _ _ _ t.0 t.1 t.2 _ _ _ t.3)

pub store-requires-in-Fault : goal.store-requires-in-Fault
store-requires-in-Fault g c =
    let own = c.requires.own ∙ sym c.self.view_is in
    let words = ap (λ t. t.words) own in
    let size = c.requires.size in
    let t = c.requires.turn in
    let after = c.store.ensures.2 in
    (c.store.ensures.0 ∙ own, omega arith, low_put_allowed _ _ _ _ _ _ _ _ t.0 t.1 t.2 _ _ _ (put_turn fault_high_with after t.3))
