use Rattle.walk_laws.proofs.PairAnswers.{answer_stops_at_a_fault}
use Rattle.walk_laws.proofs.pair_laws.an_answer_stops_at_a_fault.Goals as goal

pub returns : goal.returns
returns c = answer_stops_at_a_fault
