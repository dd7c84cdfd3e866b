use Rattle.tiling_laws.proofs.Available.{available_by_bits}
use Rattle.tiling_laws.proofs.availability_laws.a_tile_is_available_by_its_bits.Goals as goal

pub returns : goal.returns
returns c = available_by_bits
