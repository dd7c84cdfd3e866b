use Rattle.tiling_laws.proofs.Places.{tile_from_place}
use Rattle.tiling_laws.proofs.place_laws.one_place_is_one_tile.Goals as goal

pub returns : goal.returns
returns c = tile_from_place
