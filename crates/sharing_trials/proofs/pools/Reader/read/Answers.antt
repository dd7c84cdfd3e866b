use Rattle.std.proofs.Common.{ℕ, refl, ap}
use Rattle.shared_pool.specs.declared.note.Note.{Note}
use Rattle.sharing_trials.proofs.pools.Reader.read.Goals as goal

pub unpin-requires : goal.unpin-requires
unpin-requires g c = (_, ap (λ (n : Note ℕ ℕ). n.pin) c.in-Hit.ensures.answer.1.3.2.4)

pub bring-requires-clause-loads : goal.bring-requires-clause-loads
bring-requires-clause-loads g c = let h = c.in-Granted.ensures.answer in (record { frame = h.0; key = c.args.key }, ap (λ (n : Note ℕ ℕ). n.loading) h.1.3.2, refl)
