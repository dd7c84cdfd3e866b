use Rattle.walk_laws.proofs.Frontiers.{reached_go_down}
use Rattle.walk_laws.proofs.frontier_laws.reached_roots_go_down.Goals as goal

pub returns : goal.returns
returns c = reached_go_down
