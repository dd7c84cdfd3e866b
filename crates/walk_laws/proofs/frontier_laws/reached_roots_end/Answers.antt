use Rattle.walk_laws.proofs.Frontiers.{reached_end}
use Rattle.walk_laws.proofs.frontier_laws.reached_roots_end.Goals as goal

pub returns : goal.returns
returns c = reached_end
