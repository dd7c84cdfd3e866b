use Rattle.shared_pool.specs.Fits.{more_busy}
use Rattle.shared_pool.proofs.changes.miss.Given as goal

abbrev pub ghosts-give : goal.ghosts-give
ghosts-give g a = record { note = more_busy a.seat.now.note }
