use Rattle.std.proofs.Common.{◌-◌, ◌^◌, ◌≤◌}
use Rattle.implicit_tiling.specs.Tile.{branching}
use Rattle.implicit_tiling.specs.Nodes.{is_tile_in}
use Rattle.bitstream.specs.Bits.{HasNoOne}
use Rattle.region_scan.proofs.search.next_tile.Given as goal

abbrev pub invariant-loop-index : goal.invariant-loop-index
invariant-loop-index l = (l.from ≤ l.at) × (l.at ≤ branching l.subtree.scheme ^ l.local) × HasNoOne (is_tile_in l.subtree l.region l.local) l.from l.at

abbrev pub decreases-loop-index : goal.decreases-loop-index
decreases-loop-index l = branching l.subtree.scheme ^ l.local - l.at
