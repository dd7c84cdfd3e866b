use Rattle.walk_laws.proofs.Checked.{checked_is_cut}
use Rattle.walk_laws.proofs.frontier_laws.a_check_is_cut.Goals as goal

pub returns : goal.returns
returns c = checked_is_cut
