use Rattle.replay_machine.proofs.Pages.{shown_tiles_are_of_the_answer as shown}
use Rattle.replay_machine.proofs.turn_laws.shown_tiles_are_of_the_answer.Goals as goal

pub returns : goal.returns
returns c = shown
