use Rattle.std.proofs.Common.{◌∙◌, sym, ap, refl}
use Rattle.shared_pool.proofs.Finds.{finds-load}
use Rattle.shared_pool.proofs.Made.{fill-permitted, fill-made}
use Rattle.shared_pool.proofs.changes.fill.Goals as goal

pub settle-requires : goal.settle-requires
settle-requires g c = let f = c.requires.out.3 in (c.args.key, finds-load g.R.Key.PartialEq.eq g.R.PoolRule.fits c.args.seat.now.tag f.0 c.args.shared f.3 f.1 c.args.seat.now.note f.2 (record { frame = c.args.frame; key = c.args.key }) c.requires.loads)

pub give_pinned-requires-clause-permitted : goal.give_pinned-requires-clause-permitted
give_pinned-requires-clause-permitted g c =
    let f = c.requires.out.3 in
    let at = finds-load g.R.Key.PartialEq.eq g.R.PoolRule.fits c.args.seat.now.tag f.0 c.args.shared f.3 f.1 c.args.seat.now.note f.2 (record { frame = c.args.frame; key = c.args.key }) c.requires.loads in
    (c.args.shared, c.requires.out.0, fill-permitted g.R.Key.PartialEq.eq g.R.PoolRule.fits c.args.seat.now.tag c.args.seat.now.note c.args.shared (record { pool = c.settle.new.self; log = c.args.shared.log }) c.args.key c.args.frame c.args.value f.0 f.3 c.requires.loads at c.requires.fits c.settle.ensures.after refl)

pub returns-clause-made : goal.returns-clause-made
returns-clause-made g c number =
    let f = c.requires.out.3 in
    let at = finds-load g.R.Key.PartialEq.eq g.R.PoolRule.fits c.args.seat.now.tag f.0 c.args.shared f.3 f.1 c.args.seat.now.note f.2 (record { frame = c.args.frame; key = c.args.key }) c.requires.loads in
    fill-made g.R.Key.PartialEq.eq g.R.PoolRule.fits c.args.seat.now.tag c.args.seat.now.note c.args.shared (record { pool = c.settle.new.self; log = c.args.shared.log }) number c.args.key c.args.frame c.args.value c.args.seat.now.last _ _ f.0 f.3 c.requires.out.1 c.requires.loads at
    c.settle.ensures.after refl (ap (λ s. s.gave) c.give_pinned.ensures) (ap (λ s. s.note) c.give_pinned.ensures)
