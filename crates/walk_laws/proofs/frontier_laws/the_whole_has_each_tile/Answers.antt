use Rattle.walk_laws.proofs.Whole.{whole_has_each_tile}
use Rattle.walk_laws.proofs.frontier_laws.the_whole_has_each_tile.Goals as goal

pub returns : goal.returns
returns c = whole_has_each_tile
