use Rattle.std.proofs.Common.{None}
use Rattle.shared_pool.specs.declared.entry.Entry.TheVariants.{Ended}
use Rattle.shared_pool.specs.Fits.{with_load}
use Rattle.shared_pool.specs.Seen.{log_of_end}
use Rattle.shared_pool.proofs.changes.fail.Given as goal

abbrev pub ghosts-log_with_end : goal.ghosts-log_with_end
ghosts-log_with_end g a = record { told = log_of_end a.number a.key a.seat.now.out }

abbrev pub ghosts-give_ended : goal.ghosts-give_ended
ghosts-give_ended g a = record { note = with_load a.seat.now.note None (Ended a.number a.key) }
