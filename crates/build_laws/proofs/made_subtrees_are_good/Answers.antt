use Rattle.build_laws.proofs.Good.{made_subtrees_are_good}
use Rattle.build_laws.proofs.made_subtrees_are_good.Goals as goal

pub returns : goal.returns
returns c = made_subtrees_are_good
