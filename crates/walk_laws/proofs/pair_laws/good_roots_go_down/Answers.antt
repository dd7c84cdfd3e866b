use Rattle.walk_laws.proofs.PairLevels.{no_faults_go_down}
use Rattle.walk_laws.proofs.pair_laws.good_roots_go_down.Goals as goal

pub returns : goal.returns
returns c = no_faults_go_down
