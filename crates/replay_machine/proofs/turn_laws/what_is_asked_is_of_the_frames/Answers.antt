use Rattle.replay_machine.proofs.Asked.{asked_is_of_the_frames}
use Rattle.replay_machine.proofs.turn_laws.what_is_asked_is_of_the_frames.Goals as goal

pub returns : goal.returns
returns g c = asked_is_of_the_frames
