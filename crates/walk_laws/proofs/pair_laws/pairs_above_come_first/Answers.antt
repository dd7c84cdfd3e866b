use Rattle.walk_laws.proofs.Pairs.{pairs_above_come_first}
use Rattle.walk_laws.proofs.pair_laws.pairs_above_come_first.Goals as goal

pub returns : goal.returns
returns c = pairs_above_come_first
