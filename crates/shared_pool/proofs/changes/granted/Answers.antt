use Rattle.std.proofs.Common.{◌≡◌, ◌∙◌, sym, ap, refl}
use Rattle.frame_pool.specs.declared.frame.Asked.TheVariants.{Granted as grant}
use Rattle.frame_pool.specs.Moves.{after_ask}
use Rattle.shared_pool.specs.Fits.{Permits}
use Rattle.shared_pool.specs.Seen.{log_of_grant, note_of_grant}
use Rattle.shared_pool.proofs.Made.{grant-permitted, grant-made, note-given}
use Rattle.shared_pool.proofs.changes.granted.Goals as goal

pub give_granted-requires-clause-permitted : goal.give_granted-requires-clause-permitted
give_granted-requires-clause-permitted g c =
    let a = c.requires.asked in
    let log = c.log_with_grant-log.ensures ∙ ap (log_of_grant c.args.number c.args.key c.args.frame) a.1.0 in (
      a.0,
      a.1.0,
      note-given g.R.Key.PartialEq.eq g.R.PoolRule.fits c.args.seat.now.tag c.args.seat.now.note a.0 (record { pool = c.args.shared.pool; log = c.log_with_grant-log.result }) c.args.number c.args.key c.args.frame c.args.seat.now.out a.1.0
          (grant-permitted g.R.Key.PartialEq.eq g.R.PoolRule.fits c.args.seat.now.tag c.args.seat.now.note a.0 (record { pool = c.args.shared.pool; log = c.log_with_grant-log.result }) c.args.number c.args.key c.args.frame c.requires.idle.0 c.requires.idle.1 a.2 a.3 log),
    )

pub returns-clause-made : goal.returns-clause-made
returns-clause-made g c =
    let a = c.requires.asked in
    let f = a.1.3 in
    let log = c.log_with_grant-log.ensures ∙ ap (log_of_grant c.args.number c.args.key c.args.frame) a.1.0 in
    grant-made g.R.Key.PartialEq.eq g.R.PoolRule.fits c.args.seat.now.tag c.args.seat.now.note a.0 (record { pool = c.args.shared.pool; log = c.log_with_grant-log.result }) c.args.number c.args.key c.args.frame c.args.seat.now.last _ _ f.0 f.3 a.1.1 a.2
    a.3 log (ap (λ s. s.gave) c.give_granted.ensures) (ap (λ s. s.note) c.give_granted.ensures ∙ ap (note_of_grant c.args.seat.now.note c.args.number c.args.key c.args.frame) a.1.0)
