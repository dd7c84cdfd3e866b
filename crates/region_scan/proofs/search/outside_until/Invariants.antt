use Rattle.std.proofs.Common.{ℕ, ◌^◌, ◌<◌, ◌≤◌}
use Rattle.implicit_tiling.specs.Tile.{branching}
use Rattle.implicit_tiling.specs.Region.{is_in}
use Rattle.implicit_tiling.specs.Nodes.{node_at}
use Rattle.bitstream.specs.Bits.{HasNoOne}
use Rattle.region_scan.proofs.search.outside_until.Given as goal

abbrev pub invariant-loop-up : goal.invariant-loop-up
invariant-loop-up l = (l.index < l.end) × (l.end ≤ branching l.subtree.scheme ^ l.local) × HasNoOne (λ (m : ℕ). is_in l.region (node_at l.subtree l.local m)) l.index l.end
