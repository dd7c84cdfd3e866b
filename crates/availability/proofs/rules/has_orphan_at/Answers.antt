-- A word of nodes has none without its parent, or one.
use Rattle.std.proofs.Common.{◌≡◌, ◌∙◌, ◌-◌, ◌*◌, ◌%◌, ◌^◌, ◌<◌, bit_and, ap, sym, subst, arith, w64}
use Rattle.std.proofs.Math.Nat.{pos_of_ne-zero}
use Rattle.std.specs.Int.{bit_not}
use Rattle.implicit_tiling.specs.Tile.{branching}
use Rattle.availability.proofs.Places.{nodes_fit, level_fits}
use Rattle.availability.proofs.Orphans.{are_words, none_in_word, one_in_word}
use Rattle.availability.proofs.rules.has_orphan_at.Goals as goal

pub overflow_add-first : goal.overflow_add-first
overflow_add-first c = record {
  fits =
      omega (arith, c.nodes_above-first.ensures, c.nodes_at-nodes.ensures, nodes_fit c.args.scheme c.args.local c.requires.few, level_fits c.args.scheme c.args.local c.requires.few);
}

pub returns-then-low_bits-ne0 : goal.returns-then-low_bits-ne0
returns-then-low_bits-ne0 c =
    let alone = bit_and c.word_from.result (bit_not w64 c.for_each_child.result) in
    let is : c.low_bits.result ≡ alone % 2 ^ (branching c.args.scheme ^ c.args.local - 64 * c.loop-word.word) =
    c.low_bits.ensures ∙ ap (λ n. alone % 2 ^ (n - 64 * c.loop-word.word)) c.nodes_at-nodes.ensures in
    one_in_word c.args.scheme c.args.tiles.now c.args.local c.loop-word.word c.word_from.result c.word_from-above.result c.for_each_child.result
    (are_words c.args.scheme c.args.tiles.now c.args.local c.loop-word.word c.nodes_above-first.result c.nodes_above-parents.result c.axes.result c.word_from.result c.word_from-above.result c.for_each_child.result
    c.nodes_above-first.ensures c.nodes_above-parents.ensures c.axes.ensures c.word_from.ensures c.word_from-above.ensures c.for_each_child.ensures c.for_each_child.type_inv)
    (subst (λ n. n < 2 ^ 64) is c.low_bits.type_inv) (subst (λ n. 0 < n) is (pos_of_ne-zero c.if-low_bits-ne0.true))

pub loop-word-preserved : goal.loop-word-preserved
loop-word-preserved c =
    let alone = bit_and c.word_from.result (bit_not w64 c.for_each_child.result) in
    let is : c.low_bits.result ≡ alone % 2 ^ (branching c.args.scheme ^ c.args.local - 64 * c.loop-word.word) =
    c.low_bits.ensures ∙ ap (λ n. alone % 2 ^ (n - 64 * c.loop-word.word)) c.nodes_at-nodes.ensures in
    none_in_word c.args.scheme c.args.tiles.now c.args.local c.loop-word.word c.word_from.result c.word_from-above.result c.for_each_child.result
    (are_words c.args.scheme c.args.tiles.now c.args.local c.loop-word.word c.nodes_above-first.result c.nodes_above-parents.result c.axes.result c.word_from.result c.word_from-above.result c.for_each_child.result
    c.nodes_above-first.ensures c.nodes_above-parents.ensures c.axes.ensures c.word_from.ensures c.word_from-above.ensures c.for_each_child.ensures c.for_each_child.type_inv)
    (sym is ∙ c.if-low_bits-ne0.false) c.loop-word.invariant
