use Rattle.std.proofs.Common.{◌∙◌}
use Rattle.region_scan.proofs.NodeTiles.{node_place, word_of_node}
use Rattle.region_scan.proofs.nodes.word_with.Goals as goal

pub overflow_add-first : goal.overflow_add-first
overflow_add-first c =
    record { fits = (node_place _ _ c.args.local c.args.index c.args.first c.level_of.result c.subtree.view_is c.subtree.invariant c.requires.kept c.requires.index c.requires.first c.level_of.ensures).short }

pub returns : goal.returns
returns c =
    c.word_at.ensures
    ∙ word_of_node c.args.subtree.now c.args.local c.args.index c.args.first c.level_of.result c.args.mask c.requires.index c.requires.first c.level_of.ensures
