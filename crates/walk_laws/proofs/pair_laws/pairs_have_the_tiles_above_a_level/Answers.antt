use Rattle.walk_laws.proofs.PairLevels.{tiles_above_a_level}
use Rattle.walk_laws.proofs.pair_laws.pairs_have_the_tiles_above_a_level.Goals as goal

pub returns : goal.returns
returns c = tiles_above_a_level
