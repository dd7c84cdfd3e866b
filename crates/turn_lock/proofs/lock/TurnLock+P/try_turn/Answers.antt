use Rattle.std.proofs.Common.{rules, sym, ap, ◌∙◌}
use Rattle.turn_lock.specs.Seats.{carried_by}
use Rattle.turn_lock.proofs.Keeps.{try_allowed, slot_taken}
use Rattle.turn_lock.proofs.lock.TurnLock+P.try_turn.Goals as goal

pub compare_exchange-requires : goal.compare_exchange-requires
compare_exchange-requires g c = (c.requires.own ∙ sym c.self.view_is, search rules, try_allowed _ _ _ _ _ c.requires.live (c.requires.carried ∙ ap carried_by c.requires.nothing_out))

pub returns-clause-slot : goal.returns-clause-slot
returns-clause-slot g c = slot_taken g.P.TurnRule.fits c.args.place.now.me.0.tag c.args.place.now.me _ _ c.compare_exchange.ensures.2
