use Rattle.walk_laws.proofs.Children.{no_root_below_a_fault}
use Rattle.walk_laws.proofs.root_laws.no_root_is_below_a_fault.Goals as goal

pub returns : goal.returns
returns c = no_root_below_a_fault
