use Rattle.replay_machine.proofs.Quiet.{no_change}
use Rattle.replay_machine.proofs.turn_laws.a_quiet_reply_changes_nothing.Goals as goal

pub returns : goal.returns
returns g c = no_change
