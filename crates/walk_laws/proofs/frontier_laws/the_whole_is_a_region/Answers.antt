use Rattle.walk_laws.proofs.Whole.{whole_is_a_region}
use Rattle.walk_laws.proofs.frontier_laws.the_whole_is_a_region.Goals as goal

pub returns : goal.returns
returns c = whole_is_a_region
