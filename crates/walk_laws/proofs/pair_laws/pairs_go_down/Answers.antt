use Rattle.walk_laws.proofs.Pairs.{pairs_go_down}
use Rattle.walk_laws.proofs.pair_laws.pairs_go_down.Goals as goal

pub returns : goal.returns
returns c = pairs_go_down
