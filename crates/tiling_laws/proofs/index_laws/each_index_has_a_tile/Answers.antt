use Rattle.tiling_laws.proofs.TileAt.{each_index}
use Rattle.tiling_laws.proofs.index_laws.each_index_has_a_tile.Goals as goal

pub returns : goal.returns
returns c = each_index
