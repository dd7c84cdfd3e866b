use Rattle.walk_laws.proofs.Regions.{roots_begin_at_the_root}
use Rattle.walk_laws.proofs.root_laws.a_walk_begins_at_the_root.Goals as goal

pub returns : goal.returns
returns c = roots_begin_at_the_root
