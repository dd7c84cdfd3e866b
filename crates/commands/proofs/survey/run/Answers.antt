use Rattle.std.proofs.Common.{◌∙◌}
use Rattle.commands.proofs.Making.{survey_front}
use Rattle.commands.proofs.survey.run.Goals as goal

pub returns-in-Err-WriteFault-clause-replies : goal.returns-in-Err-WriteFault-clause-replies
returns-in-Err-WriteFault-clause-replies g c = survey_front c.args.recipe.now _ _ _ (c.found.view_is ∙ c.in-Ok.ensures) c.write_survey.ensures.front

pub returns-in-Err-Memory-clause-replies : goal.returns-in-Err-Memory-clause-replies
returns-in-Err-Memory-clause-replies g c = survey_front c.args.recipe.now _ _ _ (c.found.view_is ∙ c.in-Ok.ensures) c.write_survey.ensures.front
