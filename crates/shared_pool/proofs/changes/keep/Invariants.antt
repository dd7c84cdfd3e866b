use Rattle.shared_pool.proofs.changes.keep.Given as goal

abbrev pub ghosts-give : goal.ghosts-give
ghosts-give g a = record { note = a.seat.now.note }
