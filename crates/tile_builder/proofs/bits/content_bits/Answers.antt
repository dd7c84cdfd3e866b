use Rattle.std.proofs.Common.{refl, ap, ◌∙◌, arith}
use Rattle.std.specs.Prelude.{filter}
use Rattle.implicit_tiling.specs.Availability.{place}
use Rattle.implicit_tiling.specs.Scene.{Layout}
use Rattle.implicit_tiling.specs.Subtree.{node_count}
use Rattle.bitstream.specs.Bits.{bits_of_places}
use Rattle.build_laws.specs.Made.{tile_in, has_content, node_bits}
use Rattle.tile_builder.specs.Bits.{node_places}
use Rattle.tile_builder.proofs.Inner.{list_more}
use Rattle.tile_builder.proofs.Nodes.{places_are_nodes, appended_alone}
use Rattle.tile_builder.proofs.bits.content_bits.Goals as goal

pub node_bits-requires : goal.node_bits-requires
node_bits-requires c =
    let held = filter (has_content c.loop-content.content) c.args.words.now in
    places_are_nodes c.args.layout.now held c.deref.result.now (node_count c.args.layout.now.scheme c.args.layout.now.subtree_levels)
    (omega (arith, c.layout.invariant.some_subtree_levels, ap (λ (l : Layout). l.subtree_levels) c.layout.view_is))
    (appended_alone c.clear.new.self.items (node_places c.args.layout.now held) c.append_held.new.held.items c.deref.result.now c.deref.ensures.value
    (c.in_ok-append_held.ensures (λ w. place c.args.layout.now (tile_in c.args.layout.now w)) c.requires) c.clear.ensures.items)
    refl

pub loop-content-preserved : goal.loop-content-preserved
loop-content-preserved c =
    let held = filter (has_content c.loop-content.content) c.args.words.now in
    list_more (λ n. node_bits c.args.layout.now (filter (has_content n) c.args.words.now)) c.loop-content.content c.in_ok-node_bits.field-0 c.loop-content.contents.items c.push.new.self.items
    c.loop-content.invariant
    (c.in_ok-node_bits.ensures
    ∙ ap (bits_of_places (node_count c.args.layout.now.scheme c.args.layout.now.subtree_levels))
    (appended_alone c.clear.new.self.items (node_places c.args.layout.now held) c.append_held.new.held.items c.deref.result.now c.deref.ensures.value
    (c.in_ok-append_held.ensures (λ w. place c.args.layout.now (tile_in c.args.layout.now w)) c.requires) c.clear.ensures.items))
    c.in_ok-push.ensures.items
