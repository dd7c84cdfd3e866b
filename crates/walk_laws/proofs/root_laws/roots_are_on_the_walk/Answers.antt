use Rattle.walk_laws.proofs.WalkRoots.{roots_are_on_the_walk}
use Rattle.walk_laws.proofs.root_laws.roots_are_on_the_walk.Goals as goal

pub returns : goal.returns
returns c = roots_are_on_the_walk
