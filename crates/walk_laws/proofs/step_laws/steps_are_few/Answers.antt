use Rattle.walk_laws.proofs.StepLaw.{steps_are_few}
use Rattle.walk_laws.proofs.step_laws.steps_are_few.Goals as goal

pub returns : goal.returns
returns c = steps_are_few
