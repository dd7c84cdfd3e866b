use Rattle.tiling_laws.proofs.Available.{available_as_written}
use Rattle.tiling_laws.proofs.availability_laws.a_tile_is_available_as_written.Goals as goal

pub returns : goal.returns
returns c = available_as_written
