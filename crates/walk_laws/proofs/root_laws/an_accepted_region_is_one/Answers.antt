use Rattle.walk_laws.proofs.Regions.{accepted_is_a_region}
use Rattle.walk_laws.proofs.root_laws.an_accepted_region_is_one.Goals as goal

pub returns : goal.returns
returns c = accepted_is_a_region
