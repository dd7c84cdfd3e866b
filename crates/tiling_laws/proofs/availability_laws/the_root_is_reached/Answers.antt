use Rattle.tiling_laws.proofs.Available.{root_is_reached}
use Rattle.tiling_laws.proofs.availability_laws.the_root_is_reached.Goals as goal

pub returns : goal.returns
returns c = root_is_reached
