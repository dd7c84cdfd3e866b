use Rattle.walk_laws.proofs.PairLevels.{pairs_at_a_root}
use Rattle.walk_laws.proofs.pair_laws.a_root_is_in_the_midst_of_pairs.Goals as goal

pub returns : goal.returns
returns c = pairs_at_a_root
