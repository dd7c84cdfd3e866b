use Rattle.shared_pool.specs.Fits.{with_pin}
use Rattle.shared_pool.specs.Seen.{pin_at}
use Rattle.shared_pool.proofs.changes.fill.Given as goal

abbrev pub ghosts-give_pinned : goal.ghosts-give_pinned
ghosts-give_pinned g a = record { note = with_pin a.seat.now.note (pin_at a.shared.pool a.frame) }
