use Rattle.walk_laws.proofs.PairAnswers.{steps_follow_the_pairs}
use Rattle.walk_laws.proofs.pair_laws.steps_follow_the_pairs.Goals as goal

pub returns : goal.returns
returns c = steps_follow_the_pairs
