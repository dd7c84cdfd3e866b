use Rattle.walk_laws.proofs.Faults.{no_fault_is_first}
use Rattle.walk_laws.proofs.step_laws.a_walk_without_faults_has_no_first_one.Goals as goal

pub returns : goal.returns
returns c = no_fault_is_first
