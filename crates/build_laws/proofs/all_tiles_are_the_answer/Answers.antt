use Rattle.build_laws.proofs.Answer.{all_tiles_are_the_answer}
use Rattle.build_laws.proofs.all_tiles_are_the_answer.Goals as goal

pub returns : goal.returns
returns c = all_tiles_are_the_answer
