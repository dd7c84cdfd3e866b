use Rattle.std.proofs.Common.{ℕ, refl, sym, ap, ◌∙◌}
use Rattle.std.proofs.lemmas.Bool.{true≢false}
use Rattle.shared_pool.specs.declared.note.Note.{Note}
use Rattle.sharing_trials.proofs.pools.is_granted.Goals as goal
use Rattle.sharing_trials.proofs.pools.is_granted.Goals.{in-Granted, in_default}

pub returns-clause-granted : goal.returns-clause-granted
returns-clause-granted g c said = elim c.match-matches.branch [
  | in-Granted w ↦ let h = w.in-Granted.ensures.answer in (record { frame = h.0; key = c.args.key }, ap (λ (n : Note ℕ ℕ). n.loading) h.1.3.2, refl)
  | in_default w ↦ absurd (true≢false (sym said ∙ w.matches-is))
]
