use Rattle.std.proofs.Common.{refl, arith, sym, ap, ◌∙◌}
use Rattle.std.proofs.lemmas.Grind.{get_or_default_zero}
use Rattle.implicit_tiling.specs.Code.{word_tile}
use Rattle.tile_occupancy.proofs.Keys.{apart, decides_no}
use Rattle.tile_occupancy.proofs.Parents.{parents_from, no_parent}
use Rattle.tile_occupancy.proofs.checks.have_parents.Goals as goal

pub returns-then-not-has_tile : goal.returns-then-not-has_tile
returns-then-not-has_tile c =
    let at = c.word-item.is ∙ get_or_default_zero c.args.words.now c.loop-word.word-index c.word-item.result c.loop-word-test.true in
    decides_no (no_parent c.args.scheme c.args.words.now c.loop-word.word-index c.word_tile.result c.in-Some.parent c.loop-word-test.true
    (c.word_tile.ensures.tile ∙ ap (word_tile c.args.scheme) at)
    (λ zero. apart (sym (c.in-Some.ensures.none.1 zero))) c.in-Some.ensures.parent (λ there. apart (sym c.if-not-has_tile.true ∙ c.has_tile.ensures.1 there)))

pub returns : goal.returns
returns c = (λ e. parents_from c.args.scheme c.args.words.now (λ i h. c.loop-word.invariant i (omega (arith, h, c.loop-word-test.false))), λ e. refl)
