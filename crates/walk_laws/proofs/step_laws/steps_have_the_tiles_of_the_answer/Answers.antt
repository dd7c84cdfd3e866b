use Rattle.walk_laws.proofs.StepLaw.{steps_have_the_tiles}
use Rattle.walk_laws.proofs.step_laws.steps_have_the_tiles_of_the_answer.Goals as goal

pub returns : goal.returns
returns c = steps_have_the_tiles
