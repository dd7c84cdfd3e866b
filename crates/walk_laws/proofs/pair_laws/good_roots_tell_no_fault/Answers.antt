use Rattle.walk_laws.proofs.PairLevels.{no_faults_above_tell_none}
use Rattle.walk_laws.proofs.pair_laws.good_roots_tell_no_fault.Goals as goal

pub returns : goal.returns
returns c = no_faults_above_tell_none
