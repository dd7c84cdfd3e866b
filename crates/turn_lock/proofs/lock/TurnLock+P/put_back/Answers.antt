use Rattle.std.proofs.Common.{rules, sym, ◌∙◌}
use Rattle.turn_lock.proofs.Keeps.{put_allowed}
use Rattle.turn_lock.proofs.lock.TurnLock+P.put_back.Goals as goal

pub store-requires : goal.store-requires
store-requires g c =
    let e = c.exchange-empty.ensures in
    let s = c.requires.stands in (
      e.0 ∙ (c.requires.own ∙ sym c.self.view_is),
      search rules,
      put_allowed _ _ _ _ _ _ s.0 _ e.3 s.1 c.requires.live s.2 c.requires.carried,
    )
