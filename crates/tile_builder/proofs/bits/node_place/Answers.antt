use Rattle.std.proofs.Common.{arith}
use Rattle.std.proofs.lemmas.Nat.{mod_below}
use Rattle.tile_builder.proofs.Nodes.{some_nodes, place_is_short}
use Rattle.tile_builder.proofs.bits.node_place.Goals as goal

pub nonzero_rem-result : goal.nonzero_rem-result
nonzero_rem-result c = some_nodes c.layout.inside.scheme _ c.nodes_at.result c.nodes_at.ensures

pub overflow_add-result : goal.overflow_add-result
overflow_add-result c = record {
  fits = place_is_short c.layout.inside.scheme _ c.layout.inside.subtree_levels c.nodes_above.result c.index_of.result c.nodes_at.result
      (omega (arith, mod_below c.tile.inside.level c.layout.inside.subtree_levels c.layout.invariant.some_subtree_levels)) c.layout.invariant.few_subtree_levels
      c.nodes_above.ensures c.nodes_at.ensures;
}
