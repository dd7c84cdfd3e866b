use Rattle.shared_pool.specs.Seen.{one_number, other_numbers}
use Rattle.shared_pool.proofs.host.cut.Given as goal

abbrev pub ghosts-split : goal.ghosts-split
ghosts-split g a = record { left = other_numbers a.seat.now.note; right = one_number a.seat.now.note }
