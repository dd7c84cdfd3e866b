use Rattle.walk_laws.proofs.StepLaw.{earlier_steps_are_partial}
use Rattle.walk_laws.proofs.step_laws.earlier_steps_are_partial.Goals as goal

pub returns : goal.returns
returns c = earlier_steps_are_partial
