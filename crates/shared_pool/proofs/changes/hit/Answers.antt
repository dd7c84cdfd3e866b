use Rattle.std.proofs.Common.{◌≡◌, ◌∙◌, sym, ap, refl, Global}
use Rattle.std.specs.declared.sync.Arc.{Arc}
use Rattle.frame_pool.specs.declared.frame.Asked.TheVariants.{Hit as hit}
use Rattle.frame_pool.specs.Moves.{after_ask}
use Rattle.shared_pool.proofs.Finds.{more-pins}
use Rattle.shared_pool.proofs.Made.{hit-permitted, hit-made}
use Rattle.shared_pool.proofs.changes.hit.Goals as goal

pub ask-asked-requires : goal.ask-asked-requires
ask-asked-requires g c = let f = c.requires.out.3 in more-pins g.R.Key.PartialEq.eq g.R.PoolRule.fits c.args.seat.now.tag f.0 c.args.shared f.3 c.requires.out.2

pub give_pinned-requires-clause-permitted : goal.give_pinned-requires-clause-permitted
give_pinned-requires-clause-permitted g c =
    let v = c.requires.value in
    let after : c.ask-asked.new.self ≡ after_ask c.args.key c.args.shared.pool (hit c.args.frame) = c.ask-asked.ensures.after ∙ ap (after_ask c.args.key c.args.shared.pool) (sym (c.ask-asked.ensures.only (hit c.args.frame) c.requires.answer)) in
    (c.args.shared, c.requires.out.0, hit-permitted g.R.Key.PartialEq.eq g.R.PoolRule.fits c.args.seat.now.tag c.args.seat.now.note c.args.shared (record { pool = c.ask-asked.new.self; log = c.args.shared.log }) c.args.key c.args.frame v.0 c.requires.idle.0 c.requires.idle.1 c.requires.answer v.1 after refl)

pub returns-clause-made : goal.returns-clause-made
returns-clause-made g c =
    let f = c.requires.out.3 in
    let v = c.requires.value in
    let after : c.ask-asked.new.self ≡ after_ask c.args.key c.args.shared.pool (hit c.args.frame) = c.ask-asked.ensures.after ∙ ap (after_ask c.args.key c.args.shared.pool) (sym (c.ask-asked.ensures.only (hit c.args.frame) c.requires.answer)) in
    hit-made g.R.Key.PartialEq.eq g.R.PoolRule.fits c.args.seat.now.tag c.args.seat.now.note c.args.shared (record { pool = c.ask-asked.new.self; log = c.args.shared.log }) c.args.key c.args.frame v.0 c.args.copy.now c.args.seat.now.last _ _ f.0 f.3 c.requires.out.1 c.requires.answer v.1 v.2
    after refl (ap (λ s. s.gave) c.give_pinned.ensures) (ap (λ s. s.note) c.give_pinned.ensures)
