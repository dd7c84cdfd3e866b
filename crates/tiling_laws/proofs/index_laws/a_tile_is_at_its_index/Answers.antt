use Rattle.tiling_laws.proofs.TileAt.{tile_at_index}
use Rattle.tiling_laws.proofs.index_laws.a_tile_is_at_its_index.Goals as goal

pub returns : goal.returns
returns c = tile_at_index
