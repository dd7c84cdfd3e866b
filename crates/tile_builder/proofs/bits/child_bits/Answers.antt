use Rattle.std.proofs.Common.{◌^◌, ap, ◌∙◌}
use Rattle.implicit_tiling.specs.Scene.{Layout}
use Rattle.implicit_tiling.specs.Tile.{branching}
use Rattle.build_laws.specs.Made.{child_place}
use Rattle.tile_builder.proofs.Nodes.{places_are_children, all_made}
use Rattle.tile_builder.proofs.bits.child_bits.Goals as goal

pub of_places-requires : goal.of_places-requires
of_places-requires c =
    places_are_children c.args.layout.now c.args.roots.now c.deref.result.now c.nodes_at.result
    (all_made (child_place c.args.layout.now) c.args.roots.now c.loop-root.root-index c.deref.result.now c.loop-root.places.items c.deref.ensures.value
    c.loop-root.invariant c.loop-root-test.false)
    (c.nodes_at.ensures ∙ ap (λ (l : Layout). branching l.scheme ^ l.subtree_levels) c.layout.view_is)
