use Rattle.shared_pool.proofs.host.Host.start.Given as goal

abbrev pub ghosts-open : goal.ghosts-open
ghosts-open g a = record { passes = a.passes; frames = a.frames }
