use Rattle.replay_machine.proofs.Stays.{frames_and_passes_stay as stay}
use Rattle.replay_machine.proofs.turn_laws.frames_and_passes_stay.Goals as goal

pub returns : goal.returns
returns g c = stay
