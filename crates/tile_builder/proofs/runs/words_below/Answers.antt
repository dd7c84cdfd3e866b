use Rattle.std.proofs.Common.{◌+◌, ◌<◌, sym, ap, arith}
use Rattle.implicit_tiling.specs.Limits.{most_levels}
use Rattle.implicit_tiling.specs.Tile.{Tile}
use Rattle.implicit_tiling.specs.Scene.{Layout}
use Rattle.implicit_tiling.specs.Code.{IsWord}
use Rattle.std.proofs.lemmas.List.Elements.{All-weaker}
use Rattle.tile_occupancy.specs.Occupied.{IsWordBelow}
use Rattle.tile_occupancy.proofs.Keys.{never_fall, rising_below}
use Rattle.tile_builder.proofs.Below.{none_below, few_levels, below_is_run, run_ends}
use Rattle.tile_builder.proofs.runs.words_below.Goals as goal

pub returns-then-levels-layout : goal.returns-then-levels-layout
returns-then-levels-layout c =
    sym (none_below c.args.layout.now c.args.root.now c.args.levels c.args.words.now c.requires.whole.are_words
    (omega (arith, c.if-levels-layout.true, ap (λ (l : Layout). l.levels) c.layout.view_is, ap (λ (t : Tile). t.level) c.root.view_is)))

pub words_from-requires-clause-index : goal.words_from-requires-clause-index
words_from-requires-clause-index c =
    let few : c.args.root.now.level + c.args.levels < most_levels c.layout.inside.scheme =
    few_levels c.layout.inside.scheme (c.args.root.now.level + c.args.levels) c.layout.inside.levels
    (omega (arith, c.if-levels-layout.false, ap (λ (t : Tile). t.level) c.root.view_is)) c.layout.invariant.few_levels in
    run_ends c.layout.inside.scheme c.args.root.now c.args.levels c.first_key-first.result c.nodes_at.result few c.first_key-first.ensures c.nodes_at.ensures

pub returns : goal.returns
returns c =
    let few : c.args.root.now.level + c.args.levels < most_levels c.layout.inside.scheme =
    few_levels c.layout.inside.scheme (c.args.root.now.level + c.args.levels) c.layout.inside.levels
    (omega (arith, c.if-levels-layout.false, ap (λ (t : Tile). t.level) c.root.view_is)) c.layout.invariant.few_levels in
    below_is_run c.args.layout.now c.layout.inside.scheme c.args.root.now c.args.levels c.first_key-first.result c.nodes_at.result c.args.words.now c.words_from.result.now
    (ap (λ (l : Layout). l.scheme) c.layout.view_is) c.requires.root few c.requires.whole.are_words c.first_key-first.ensures c.nodes_at.ensures c.words_from.ensures

pub words_from-requires-clause-sorted : goal.words_from-requires-clause-sorted
words_from-requires-clause-sorted c =
    never_fall c.args.words.now
    (rising_below c.args.layout.now.scheme c.args.words.now
    (All-weaker (IsWordBelow c.args.layout.now.scheme c.args.layout.now.levels) (IsWord c.args.layout.now.scheme) (λ w is. is.is_word) c.args.words.now c.requires.whole.are_words)
    c.requires.whole.rise)
