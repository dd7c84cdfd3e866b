use Rattle.replay_machine.proofs.Uses.{opening_is_used}
use Rattle.replay_machine.proofs.use_laws.a_replay_begins_with_frames_unused.Goals as goal

pub returns : goal.returns
returns c = opening_is_used
