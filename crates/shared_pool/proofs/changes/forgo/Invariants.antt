use Rattle.shared_pool.proofs.changes.forgo.Given as goal

abbrev pub ghosts-give : goal.ghosts-give
ghosts-give g a = record { note = a.seat.now.note }
