use Rattle.std.proofs.Common.{rules, nat_lt}
use Rattle.std.proofs.lemmas.List.Sorted.{answers_always}
use Rattle.tile_word.specs.Words.{word_key}
use Rattle.tile_occupancy.proofs.Keys.{rising_is_decided}
use Rattle.tile_occupancy.proofs.checks.keys_rise.Goals as goal

pub returns : goal.returns
returns c =
    rising_is_decided c.args.scheme c.args.words.now c.is_sorted_by.result c.requires
    (c.is_sorted_by.ensures.cases (λ v w. nat_lt (word_key v) (word_key w)) (answers_always _ _ _ (λ f a r g called. search rules)))
