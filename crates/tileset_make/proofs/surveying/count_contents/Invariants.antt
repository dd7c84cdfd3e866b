use Rattle.std.proofs.Common.{◌≡◌, ◌*◌, ◌≤◌, take, count_ones}
use Rattle.std.specs.Prelude.{sum_by}
use Rattle.implicit_tiling.specs.Code.{word_mask}
use Rattle.implicit_tiling.specs.Limits.{most_contents}
use Rattle.tileset_make.proofs.surveying.count_contents.Given as goal

abbrev pub invariant-loop-word : goal.invariant-loop-word
invariant-loop-word l = record {
  counted : l.contents ≡ sum_by (λ w. count_ones (word_mask w)) (take l.word-index l.words);
  few : l.contents ≤ most_contents * l.word-index;
}
