use Rattle.std.proofs.Common.{◌≡◌, ◌+◌, ◌-◌, ◌^◌, ◌≤◌, ◌++◌, length}
use Rattle.implicit_tiling.specs.Tile.{branching}
use Rattle.implicit_tiling.specs.Nodes.{is_tile_in, node_word}
use Rattle.region_scan.proofs.Scan.{hits}
use Rattle.region_scan.proofs.level.append_tiles.Given as goal

abbrev pub invariant-loop-index : goal.invariant-loop-index
invariant-loop-index l =
    let so_far = hits (is_tile_in l.subtree l.region l.local) (node_word l.subtree l.local) l.from in
    (l.out.items ≡ l.fn.out.items ++ so_far) × (length so_far + l.left ≡ l.limit) × (l.from ≤ branching l.subtree.scheme ^ l.local)

abbrev pub decreases-loop-index : goal.decreases-loop-index
decreases-loop-index l = branching l.subtree.scheme ^ l.local - l.from
