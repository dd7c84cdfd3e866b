use Rattle.region_scan.proofs.NodeTiles.{nodes_are_tiles}
use Rattle.region_scan.proofs.node_laws.nodes_are_tiles_below_the_root.Goals as goal

pub returns : goal.returns
returns c = nodes_are_tiles
