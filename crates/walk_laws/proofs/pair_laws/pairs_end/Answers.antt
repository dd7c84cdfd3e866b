use Rattle.walk_laws.proofs.Pairs.{pairs_end}
use Rattle.walk_laws.proofs.pair_laws.pairs_end.Goals as goal

pub returns : goal.returns
returns c = pairs_end
