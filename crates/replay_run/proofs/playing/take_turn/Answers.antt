use Rattle.replay_run.proofs.Replied.{taken}
use Rattle.replay_run.proofs.playing.take_turn.Goals as goal

pub returns-clause-taken : goal.returns-clause-taken
returns-clause-taken g c =
    taken c.args.layout.now (g.S.FileSource.told c.args.files.now) c.args.event _ _ c.args.core.now c.step.new.self c.in_ok-read.read c.step.result c.read_wanted.ensures.later c.requires.core c.in_ok-read.ensures.read
    (rw c.with_read.ensures at c.step.ensures.scene)
