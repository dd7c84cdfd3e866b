use Rattle.walk_laws.proofs.Checked.{checked_is_all}
use Rattle.walk_laws.proofs.frontier_laws.a_check_looks_at_all_roots.Goals as goal

pub returns : goal.returns
returns c = checked_is_all
