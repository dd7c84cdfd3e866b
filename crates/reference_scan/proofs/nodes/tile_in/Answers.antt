-- The level of a node that is there is below the levels in all.
use Rattle.std.proofs.Common.{◌+◌, ◌∙◌, sym}
use Rattle.implicit_tiling.specs.Availability.{nodes_above}
use Rattle.implicit_tiling.specs.Bits.{bit_at}
use Rattle.region_scan.proofs.NodeTiles.{node_within, node_fits}
use Rattle.reference_scan.proofs.Scan.{level_kept}
use Rattle.reference_scan.proofs.nodes.tile_in.Goals as goal

pub word_of-requires-clause-within : goal.word_of-requires-clause-within
word_of-requires-clause-within c =
    let s = c.args.subtree.now in
    let kept = level_kept s c.args.local (bit_at s.tiles (nodes_above s.scheme c.args.local + c.args.index))
    (sym c.tile_at.ensures ∙ c.if-not-tile_at.false) in
    node_within _ _ c.args.local c.args.index _ c.subtree.view_is c.subtree.invariant kept c.node_at-tile.ensures

pub word_of-requires-clause-tile : goal.word_of-requires-clause-tile
word_of-requires-clause-tile c = node_fits _ _ c.args.local c.args.index _ c.subtree.view_is c.node_at-tile.ensures
