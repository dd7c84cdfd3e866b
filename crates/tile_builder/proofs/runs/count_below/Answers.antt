use Rattle.std.proofs.Common.{◌≡◌, true, rules}
use Rattle.std.specs.Prelude.{false, nat_lt}
use Rattle.std.specs.List.Sorted.{IsPartitionPoint}
use Rattle.std.proofs.lemmas.List.Sorted.{IsPartitionPoint-from_clause, IsPartitionedBy-ltb}
use Rattle.tile_word.specs.Words.{word_key}
use Rattle.tile_builder.proofs.Cuts.{all_lower, none_lower}
use Rattle.tile_builder.proofs.runs.count_below.Goals as goal

-- the place at which the test of the keys ends
cut : (c : goal.After-partition_point) → IsPartitionPoint (λ w. nat_lt (word_key w) c.args.key ≡ true) (λ w. nat_lt (word_key w) c.args.key ≡ false) c.args.words.now c.partition_point.result
cut c =
    IsPartitionPoint-from_clause (λ w. nat_lt (word_key w) c.args.key) c.args.words.now c.partition_point.result c.partition_point.ensures.partitioned
    (IsPartitionedBy-ltb word_key c.args.words.now c.args.key c.requires) (λ a r f called. search rules)

pub returns-clause-below : goal.returns-clause-below
returns-clause-below c = all_lower c.args.words.now c.partition_point.result c.args.key c.partition_point.ensures.bound (cut c)

pub returns-clause-others : goal.returns-clause-others
returns-clause-others c = none_lower c.args.words.now c.partition_point.result c.args.key (cut c)
