use Rattle.std.proofs.Common.{None}
use Rattle.shared_pool.specs.Fits.{with_pin}
use Rattle.shared_pool.proofs.changes.free.Given as goal

abbrev pub ghosts-give : goal.ghosts-give
ghosts-give g a = record { note = with_pin a.seat.now.note None }
