use Rattle.walk_laws.proofs.Pairs.{roots_of_inner_levels}
use Rattle.walk_laws.proofs.pair_laws.inner_levels_have_the_same_roots.Goals as goal

pub returns : goal.returns
returns c = roots_of_inner_levels
