use Rattle.tile_builder.specs.Runs.{words_below}
use Rattle.tile_builder.proofs.Inner.{levels_more}
use Rattle.tile_builder.proofs.subtree.inner_words.Goals as goal

pub loop-level-preserved : goal.loop-level-preserved
loop-level-preserved c =
    levels_more (words_below c.args.layout.now c.args.words.now c.args.root.now) c.loop-level.level c.loop-level.inner.items c.words_below.result.now c.extend_from_slice.new.self.items
    c.loop-level.invariant c.words_below.ensures c.in_ok-extend_from_slice.ensures.items
