use Rattle.contract_tokens.proofs.kept.Kept.again.Given as goal

abbrev pub ghosts-repeated : goal.ghosts-repeated
ghosts-repeated g a = record { told = a.other.now }
