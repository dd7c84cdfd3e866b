use Rattle.replay_machine.proofs.Uses.{turns_keep_use}
use Rattle.replay_machine.proofs.use_laws.frames_are_used_as_their_states_say.Goals as goal

pub returns : goal.returns
returns g c = turns_keep_use
