use Rattle.walk_laws.proofs.Children.{children_are_the_roots_below}
use Rattle.walk_laws.proofs.root_laws.children_are_the_roots_below.Goals as goal

pub returns : goal.returns
returns c = children_are_the_roots_below
