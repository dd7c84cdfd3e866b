use Rattle.tiling_laws.proofs.Available.{reached_as_written}
use Rattle.tiling_laws.proofs.availability_laws.a_subtree_is_reached_as_written.Goals as goal

pub returns : goal.returns
returns c = reached_as_written
