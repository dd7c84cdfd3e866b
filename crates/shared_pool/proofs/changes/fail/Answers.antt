use Rattle.std.proofs.Common.{◌∙◌, sym, ap, refl}
use Rattle.shared_pool.specs.Seen.{log_of_end}
use Rattle.shared_pool.proofs.Finds.{finds-load}
use Rattle.shared_pool.proofs.Made.{fail-permitted, fail-made}
use Rattle.shared_pool.proofs.changes.fail.Goals as goal

pub settle-requires : goal.settle-requires
settle-requires g c = let f = c.requires.out.3 in (c.args.key, finds-load g.R.Key.PartialEq.eq g.R.PoolRule.fits c.args.seat.now.tag f.0 c.args.shared f.3 f.1 c.args.seat.now.note f.2 (record { frame = c.args.frame; key = c.args.key }) c.requires.loads)

pub give_ended-requires-clause-permitted : goal.give_ended-requires-clause-permitted
give_ended-requires-clause-permitted g c =
    let log = c.log_with_end-log.ensures ∙ ap (log_of_end c.args.number c.args.key) c.requires.out.0 in
    (c.args.shared, c.requires.out.0, fail-permitted g.R.Key.PartialEq.eq g.R.PoolRule.fits c.args.seat.now.tag c.args.seat.now.note c.args.shared (record { pool = c.settle.new.self; log = c.log_with_end-log.result }) c.args.number c.args.key c.args.frame c.requires.loads c.requires.number c.settle.ensures.after log)

pub returns-clause-made : goal.returns-clause-made
returns-clause-made g c =
    let f = c.requires.out.3 in
    let at = finds-load g.R.Key.PartialEq.eq g.R.PoolRule.fits c.args.seat.now.tag f.0 c.args.shared f.3 f.1 c.args.seat.now.note f.2 (record { frame = c.args.frame; key = c.args.key }) c.requires.loads in
    let log = c.log_with_end-log.ensures ∙ ap (log_of_end c.args.number c.args.key) c.requires.out.0 in
    fail-made g.R.Key.PartialEq.eq g.R.PoolRule.fits c.args.seat.now.tag c.args.seat.now.note c.args.shared (record { pool = c.settle.new.self; log = c.log_with_end-log.result }) c.args.number c.args.key c.args.frame c.args.seat.now.last _ _ f.0 f.3 c.requires.out.1 c.requires.loads at
    c.settle.ensures.after log (ap (λ s. s.gave) c.give_ended.ensures) (ap (λ s. s.note) c.give_ended.ensures)
