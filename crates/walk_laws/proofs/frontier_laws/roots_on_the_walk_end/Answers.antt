use Rattle.walk_laws.proofs.Frontiers.{roots_end}
use Rattle.walk_laws.proofs.frontier_laws.roots_on_the_walk_end.Goals as goal

pub returns : goal.returns
returns c = roots_end
