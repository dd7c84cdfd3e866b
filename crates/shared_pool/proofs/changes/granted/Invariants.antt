use Rattle.shared_pool.specs.Seen.{log_of_grant, note_of_grant}
use Rattle.shared_pool.proofs.changes.granted.Given as goal

abbrev pub ghosts-log_with_grant : goal.ghosts-log_with_grant
ghosts-log_with_grant g a = record { told = log_of_grant a.number a.key a.frame a.seat.now.out }

abbrev pub ghosts-give_granted : goal.ghosts-give_granted
ghosts-give_granted g a = record { note = note_of_grant a.seat.now.note a.number a.key a.frame a.seat.now.out }
