use Rattle.tiling_laws.proofs.TileAt.{tile_from_index}
use Rattle.tiling_laws.proofs.index_laws.one_index_is_one_tile.Goals as goal

pub returns : goal.returns
returns c = tile_from_index
