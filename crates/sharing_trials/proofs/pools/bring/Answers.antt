use Rattle.std.proofs.Common.{ℕ, ap}
use Rattle.shared_pool.specs.declared.note.Note.{Note}
use Rattle.sharing_trials.proofs.pools.bring.Goals as goal

pub returns-in-Ok-clause-pins : goal.returns-in-Ok-clause-pins
returns-in-Ok-clause-pins g c = (_, ap (λ (n : Note ℕ ℕ). n.pin) c.settle.ensures.settled.2.3.3)
