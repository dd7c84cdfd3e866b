use Rattle.walk_laws.proofs.StepLaw.{steps_end_as_the_answer}
use Rattle.walk_laws.proofs.step_laws.steps_end_as_the_answer.Goals as goal

pub returns : goal.returns
returns c = steps_end_as_the_answer
