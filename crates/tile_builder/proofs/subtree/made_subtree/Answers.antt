use Rattle.std.proofs.Common.{refl, sym, ap, ◌∙◌}
use Rattle.implicit_tiling.specs.Subtree.{node_count}
use Rattle.tile_builder.specs.Bits.{node_places}
use Rattle.tile_builder.proofs.Nodes.{places_are_nodes}
use Rattle.tile_builder.proofs.Made.{parts_of, made_is, made_is_subtree, inner_are_words, below_are_words}
use Rattle.tile_builder.proofs.subtree.made_subtree.Goals as goal

pub node_places-requires : goal.node_places-requires
node_places-requires c =
    inner_are_words c.args.layout.now c.args.words.now c.deref.result.now c.args.root c.requires.words (c.deref.ensures.value ∙ c.in_ok-inner.ensures)

pub node_bits-requires : goal.node_bits-requires
node_bits-requires c =
    places_are_nodes c.args.layout.now c.deref.result.now c.deref-2.result.now (node_count c.args.layout.now.scheme c.args.layout.now.subtree_levels)
    c.requires.words.limits.some_subtree_levels (c.deref-2.ensures.value ∙ c.in_ok-places.ensures) refl

pub content_bits-requires : goal.content_bits-requires
content_bits-requires c =
    c.deref-4.ensures.value ∙ c.in_ok-places.ensures ∙ ap (node_places c.args.layout.now) (c.deref.ensures.value ∙ sym c.deref-3.ensures.value)

pub child_bits-requires : goal.child_bits-requires
child_bits-requires c =
    below_are_words c.args.layout.now c.args.words.now c.words_below-roots.result.now c.args.root c.layout.inside.subtree_levels c.requires.words c.words_below-roots.ensures

pub invariant_of-result : goal.invariant_of-result
invariant_of-result c =
    made_is_subtree c.args.layout.now c.args.words.now c.args.root _ c.requires.words c.requires.root
    (parts_of c.args.layout.now _ c.args.words.now c.deref-2.result.now c.deref-3.result.now c.words_below-roots.result.now c.args.root c.in_ok-node_bits.field-0
    c.in_ok-child_bits.field-0 c.in_ok-content_bits.field-0.items c.layout.view_is (c.deref-2.ensures.value ∙ c.in_ok-places.ensures ∙ ap (node_places c.args.layout.now) (c.deref.ensures.value ∙ c.in_ok-inner.ensures)) (c.deref-3.ensures.value ∙ c.in_ok-inner.ensures)
    c.words_below-roots.ensures c.in_ok-node_bits.ensures c.in_ok-content_bits.ensures c.in_ok-child_bits.ensures)

pub returns : goal.returns
returns c =
    made_is c.args.layout.now c.args.words.now c.args.root _ c.requires.words c.requires.root
    (parts_of c.args.layout.now _ c.args.words.now c.deref-2.result.now c.deref-3.result.now c.words_below-roots.result.now c.args.root c.in_ok-node_bits.field-0
    c.in_ok-child_bits.field-0 c.in_ok-content_bits.field-0.items c.layout.view_is (c.deref-2.ensures.value ∙ c.in_ok-places.ensures ∙ ap (node_places c.args.layout.now) (c.deref.ensures.value ∙ c.in_ok-inner.ensures)) (c.deref-3.ensures.value ∙ c.in_ok-inner.ensures)
    c.words_below-roots.ensures c.in_ok-node_bits.ensures c.in_ok-content_bits.ensures c.in_ok-child_bits.ensures)
