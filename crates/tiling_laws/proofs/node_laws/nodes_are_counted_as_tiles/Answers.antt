use Rattle.tiling_laws.proofs.Nodes.{nodes_are_tiles}
use Rattle.tiling_laws.proofs.node_laws.nodes_are_counted_as_tiles.Goals as goal

pub returns : goal.returns
returns c = nodes_are_tiles
