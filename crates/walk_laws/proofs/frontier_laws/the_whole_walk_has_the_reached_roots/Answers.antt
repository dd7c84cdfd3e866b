use Rattle.walk_laws.proofs.Frontiers.{reached_is_on_the_whole_walk}
use Rattle.walk_laws.proofs.frontier_laws.the_whole_walk_has_the_reached_roots.Goals as goal

pub returns : goal.returns
returns c = reached_is_on_the_whole_walk
