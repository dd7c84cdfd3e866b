use Rattle.walk_laws.proofs.Frontiers.{reached_are_all}
use Rattle.walk_laws.proofs.frontier_laws.reached_roots_are_all.Goals as goal

pub returns : goal.returns
returns c = reached_are_all
