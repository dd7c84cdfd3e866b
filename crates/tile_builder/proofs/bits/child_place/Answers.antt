use Rattle.tile_builder.proofs.Nodes.{some_nodes}
use Rattle.tile_builder.proofs.bits.child_place.Goals as goal

pub nonzero_rem-result : goal.nonzero_rem-result
nonzero_rem-result c = some_nodes c.layout.inside.scheme c.layout.inside.subtree_levels c.nodes_at.result c.nodes_at.ensures
