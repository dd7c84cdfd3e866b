use Rattle.walk_laws.proofs.PairAnswers.{answer_is_cut}
use Rattle.walk_laws.proofs.pair_laws.an_answer_is_cut.Goals as goal

pub returns : goal.returns
returns c = answer_is_cut
