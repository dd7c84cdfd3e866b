use Rattle.std.proofs.Common.{[], ◌∷◌, ◌++◌}
use Rattle.contract_tokens.proofs.log.Log.after.Given as goal

abbrev pub ghosts-extended : goal.ghosts-extended
ghosts-extended g a = record { told = a.before.now ++ a.entry.now ∷ [] }
