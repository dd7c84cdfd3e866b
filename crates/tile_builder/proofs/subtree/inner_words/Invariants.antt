use Rattle.std.proofs.Common.{◌≡◌}
use Rattle.std.specs.List.{flat_map, range_with_len}
use Rattle.tile_builder.specs.Runs.{words_below}
use Rattle.tile_builder.proofs.subtree.inner_words.Given as goal

abbrev pub invariant-loop-level : goal.invariant-loop-level
invariant-loop-level l = l.inner.items ≡ flat_map (words_below l.layout l.words l.root) (range_with_len 0 l.level)
