use Rattle.walk_laws.proofs.Faults.{first_fault_is_the_first}
use Rattle.walk_laws.proofs.step_laws.the_first_root_with_a_fault_gives_the_first_fault.Goals as goal

pub returns : goal.returns
returns c = first_fault_is_the_first
