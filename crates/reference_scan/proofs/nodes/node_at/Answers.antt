use Rattle.std.proofs.Common.{◌∙◌}
use Rattle.region_scan.proofs.NodeTiles.{node_place}
use Rattle.reference_scan.proofs.nodes.node_at.Goals as goal

pub overflow_add-first : goal.overflow_add-first
overflow_add-first c =
    record { fits = (node_place _ _ c.args.local c.args.index c.first_at-first.result c.level_of.result c.subtree.view_is c.subtree.invariant c.requires.kept c.requires.index c.first_at-first.ensures c.level_of.ensures).short }

pub tile_at-requires-clause-within : goal.tile_at-requires-clause-within
tile_at-requires-clause-within c =
    (node_place _ _ c.args.local c.args.index c.first_at-first.result c.level_of.result c.subtree.view_is c.subtree.invariant c.requires.kept c.requires.index c.first_at-first.ensures c.level_of.ensures).level_fits

pub tile_at-requires-clause-index : goal.tile_at-requires-clause-index
tile_at-requires-clause-index c =
    (node_place _ _ c.args.local c.args.index c.first_at-first.result c.level_of.result c.subtree.view_is c.subtree.invariant c.requires.kept c.requires.index c.first_at-first.ensures c.level_of.ensures).index_fits

pub returns : goal.returns
returns c =
    c.tile_at.ensures
    ∙ (node_place _ _ c.args.local c.args.index c.first_at-first.result c.level_of.result c.subtree.view_is c.subtree.invariant c.requires.kept c.requires.index c.first_at-first.ensures c.level_of.ensures).tile
