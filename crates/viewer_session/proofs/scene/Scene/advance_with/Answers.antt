use Rattle.viewer_session.specs.Sessions.{tag_in}
use Rattle.viewer_session.proofs.Readings.{reads_one, reads_at_most_one, on_course, if_err}
use Rattle.viewer_session.proofs.scene.Scene.advance_with.Goals as goal

pub returns-in_err-make_step-in-Step-clause-read_before : goal.returns-in_err-make_step-in-Step-clause-read_before
returns-in_err-make_step-in-Step-clause-read_before g c =
    let tag = tag_in c.args.self.now c.args.cursor.now.plan in
    if_err c.from_residual.result _
    (reads_at_most_one tag c.in-Step.key c.args.pass.now.frames c.make_step.new.pass.frames (g.S.FileSource.fetches c.args.files.now) (g.S.FileSource.fetches c.make_step.new.files)
    (on_course tag c.args.cursor.now.seat c.next_step.new.cursor.seat c.in-Step.key c.requires.cursor.of_scene c.in-Step.ensures.looked c.in-Step.ensures.next.1.root)
    c.in_err-make_step-in-Step.ensures.read_before)

pub returns-in_ok-make_step-in-Step-clause-read : goal.returns-in_ok-make_step-in-Step-clause-read
returns-in_ok-make_step-in-Step-clause-read g c =
    let tag = tag_in c.args.self.now c.args.cursor.now.plan in
    reads_one tag c.in-Step.key c.args.pass.now.frames c.make_step.new.pass.frames (g.S.FileSource.fetches c.args.files.now) (g.S.FileSource.fetches c.make_step.new.files)
    (on_course tag c.args.cursor.now.seat c.next_step.new.cursor.seat c.in-Step.key c.requires.cursor.of_scene c.in-Step.ensures.looked c.in-Step.ensures.next.1.root)
    c.in_ok-make_step-in-Step.ensures.read
