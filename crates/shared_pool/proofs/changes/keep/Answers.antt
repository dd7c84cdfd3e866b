use Rattle.std.proofs.Common.{refl}
use Rattle.shared_pool.specs.Fits.Change.{Keeps}
use Rattle.shared_pool.proofs.changes.keep.Goals as goal

pub give-requires-clause-permitted : goal.give-requires-clause-permitted
give-requires-clause-permitted g c = (c.args.shared, c.requires.out.0, (Keeps, (refl, refl)))
