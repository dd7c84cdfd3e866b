-- The level of a child root that is there is below the levels in all.
use Rattle.std.proofs.Common.{◌∙◌, sym}
use Rattle.implicit_tiling.specs.Bits.{bit_at}
use Rattle.region_scan.proofs.NodeTiles.{child_within, node_fits}
use Rattle.reference_scan.proofs.Scan.{level_kept}
use Rattle.reference_scan.proofs.nodes.child_in.Goals as goal

pub word_of-requires-clause-within : goal.word_of-requires-clause-within
word_of-requires-clause-within c =
    let s = c.args.subtree.now in
    let kept = level_kept s s.levels (bit_at s.child c.args.index) (sym c.child_at.ensures ∙ c.if-not-child_at.false) in
    child_within _ _ c.args.index c.node_at-root.result c.subtree.view_is c.subtree.invariant kept c.node_at-root.ensures

pub word_of-requires-clause-tile : goal.word_of-requires-clause-tile
word_of-requires-clause-tile c = node_fits _ _ c.subtree.inside.levels c.args.index c.node_at-root.result c.subtree.view_is c.node_at-root.ensures
