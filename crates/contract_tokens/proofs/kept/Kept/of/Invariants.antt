use Rattle.contract_tokens.proofs.kept.Kept.of.Given as goal

abbrev pub ghosts-stated : goal.ghosts-stated
ghosts-stated g a = record { told = a.value.now }
