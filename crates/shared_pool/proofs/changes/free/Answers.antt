use Rattle.std.proofs.Common.{◌∙◌, sym, ap, subst, refl}
use Rattle.frame_pool.specs.Frames.{IsPinnedAt}
use Rattle.frame_pool.specs.Moves.{after_unpin}
use Rattle.shared_pool.proofs.Finds.{finds-pin, finds-pinned}
use Rattle.shared_pool.proofs.Made.{free-permitted, free-made}
use Rattle.shared_pool.proofs.changes.free.Goals as goal

pub unpin-requires : goal.unpin-requires
unpin-requires g c =
    let f = c.requires.out.3 in let p = c.requires.pins in
    subst (IsPinnedAt c.args.shared.pool.census) p.2 (finds-pinned g.R.Key.PartialEq.eq g.R.PoolRule.fits c.args.seat.now.tag f.0 c.args.shared f.3 f.1 c.args.seat.now.note f.2 p.0 p.1)

pub give-requires-clause-permitted : goal.give-requires-clause-permitted
give-requires-clause-permitted g c =
    let p = c.requires.pins in
    (c.args.shared, c.requires.out.0, free-permitted g.R.Key.PartialEq.eq g.R.PoolRule.fits c.args.seat.now.tag c.args.seat.now.note c.args.shared (record { pool = c.unpin.new.self; log = c.args.shared.log }) p.0 p.1 (c.unpin.ensures.after ∙ ap (λ f. after_unpin f c.args.shared.pool) (sym p.2)) refl)

pub returns-clause-made : goal.returns-clause-made
returns-clause-made g c =
    let f = c.requires.out.3 in let p = c.requires.pins in
    free-made g.R.Key.PartialEq.eq g.R.PoolRule.fits c.args.seat.now.tag c.args.seat.now.note c.args.shared (record { pool = c.unpin.new.self; log = c.args.shared.log }) p.0 c.args.seat.now.last _ _ f.0 f.3 c.requires.out.1 p.1
    (finds-pin g.R.Key.PartialEq.eq g.R.PoolRule.fits c.args.seat.now.tag f.0 c.args.shared f.3 f.1 c.args.seat.now.note f.2 p.0 p.1)
    (c.unpin.ensures.after ∙ ap (λ k. after_unpin k c.args.shared.pool) (sym p.2)) refl (ap (λ s. s.gave) c.give.ensures) (ap (λ s. s.note) c.give.ensures)
