use Rattle.std.proofs.Common.{◌≡◌, ◌+◌, ◌++◌, length}
use Rattle.implicit_tiling.specs.Nodes.{is_tile_in, node_word}
use Rattle.region_scan.proofs.Scan.{hits}
use Rattle.reference_scan.proofs.level.append_tiles.Given as goal

abbrev pub invariant-loop-index : goal.invariant-loop-index
invariant-loop-index l =
    let so_far = hits (is_tile_in l.subtree l.region l.local) (node_word l.subtree l.local) l.index in
    (l.out.items ≡ l.fn.out.items ++ so_far) × (length so_far + l.left ≡ l.limit)
