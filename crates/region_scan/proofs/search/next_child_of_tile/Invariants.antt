use Rattle.std.proofs.Common.{◌-◌, ◌^◌, ◌≤◌}
use Rattle.implicit_tiling.specs.Tile.{branching}
use Rattle.bitstream.specs.Bits.{HasNoOne}
use Rattle.region_scan.specs.Found.{is_child}
use Rattle.region_scan.proofs.search.next_child_of_tile.Given as goal

abbrev pub invariant-loop-index : goal.invariant-loop-index
invariant-loop-index l = (l.from ≤ l.at) × (l.at ≤ branching l.subtree.scheme ^ l.subtree.levels) × HasNoOne (is_child l.subtree) l.from l.at

abbrev pub decreases-loop-index : goal.decreases-loop-index
decreases-loop-index l = branching l.subtree.scheme ^ l.subtree.levels - l.at
