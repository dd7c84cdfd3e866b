use Rattle.std.proofs.Common.{refl, ap}
use Rattle.shared_pool.specs.Fits.Change.{Keeps}
use Rattle.shared_pool.proofs.changes.forgo.Goals as goal

pub give-requires-clause-permitted : goal.give-requires-clause-permitted
give-requires-clause-permitted g c = (c.args.shared, c.requires.out.0, (Keeps, (refl, refl)))

pub returns-clause-forgone : goal.returns-clause-forgone
returns-clause-forgone g c = (
  c.args.shared,
  c.requires.out.1,
  c.requires.out.3.3.framed.frames,
  ((c.args.frame, c.requires.answer), ap (λ z. z.gave) c.give.ensures, ap (λ z. z.note) c.give.ensures),
)
