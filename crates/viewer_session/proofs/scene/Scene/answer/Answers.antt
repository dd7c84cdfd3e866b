use Rattle.std.proofs.Common.{rules}
use Rattle.viewer_session.specs.Sessions.{tag_in}
use Rattle.viewer_session.proofs.Readings.{reads_no_more}
use Rattle.viewer_session.proofs.scene.Scene.answer.Goals as goal

pub returns-in_default-read_all-clause-read_before : goal.returns-in_default-read_all-clause-read_before
returns-in_default-read_all-clause-read_before g c =
    reads_no_more (tag_in c.args.self.now c.args.plan) c.args.pass.now.frames c.walk_to_end.new.pass.frames (g.S.FileSource.fetches c.args.files.now)
    (g.S.FileSource.fetches c.walk_to_end.new.files) (search rules)
