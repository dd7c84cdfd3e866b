use Rattle.walk_laws.proofs.Children.{roots_go_down}
use Rattle.walk_laws.proofs.root_laws.roots_on_the_walk_go_down.Goals as goal

pub returns : goal.returns
returns c = roots_go_down
