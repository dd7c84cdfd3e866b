use Rattle.walk_laws.proofs.Checked.{reached_at_a_root}
use Rattle.walk_laws.proofs.frontier_laws.a_root_is_in_the_midst_of_reached_roots.Goals as goal

pub returns : goal.returns
returns c = reached_at_a_root
