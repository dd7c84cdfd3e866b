use Rattle.published_prefix.proofs.prefix.Prefix+C.new.Given as goal

abbrev pub ghosts-laid : goal.ghosts-laid
ghosts-laid g a = record { capacity = a.capacity }
