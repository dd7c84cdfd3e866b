use Rattle.std.proofs.Common.{ℕ, ap}
use Rattle.shared_pool.specs.declared.note.Note.{Note}
use Rattle.sharing_trials.proofs.pools.found.Goals as goal

pub returns-in-Hit-clause-pins : goal.returns-in-Hit-clause-pins
returns-in-Hit-clause-pins g c = (_, ap (λ (n : Note ℕ ℕ). n.pin) c.in-Hit.ensures.answer.1.3.2.4)
