use Rattle.replay_machine.proofs.Pages.{pages_are_of_the_answer as pages}
use Rattle.replay_machine.proofs.turn_laws.pages_are_of_the_answer.Goals as goal

pub returns : goal.returns
returns c = pages
