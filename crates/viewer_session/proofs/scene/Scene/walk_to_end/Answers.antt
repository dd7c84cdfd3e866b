use Rattle.std.proofs.Common.{rules, subst}
use Rattle.implicit_tiling.specs.Region.{Plan}
use Rattle.walk_course.specs.Course.{IsNextRoot}
use Rattle.viewer_session.specs.Sessions.{tag_in}
use Rattle.viewer_session.specs.Advances.{IsStuck, HasRead, HasReadUpTo}
use Rattle.viewer_session.proofs.Readings.{reads_on, reads_up_to, stuck_on, if_err}
use Rattle.viewer_session.proofs.scene.Scene.walk_to_end.Goals as goal

pub returns-in_err-advance_with-clause-busy : goal.returns-in_err-advance_with-clause-busy
returns-in_err-advance_with-clause-busy g c = λ is.
    let steps = c.advance_with.new.cursor.seat.steps in
    stuck_on (tag_in c.args.self.now c.args.cursor.now.plan) steps c.args.pass.now.frames c.loop.pass.frames c.advance_with.new.pass.frames c.loop.invariant.busies
    (subst (λ (p : Plan). IsStuck (IsNextRoot (tag_in c.args.self.now p) steps) c.loop.pass.frames c.advance_with.new.pass.frames) c.loop.invariant.walk.0
    (c.in_err-advance_with.ensures.busy (search rules)))

pub returns-in_err-advance_with-clause-read_before : goal.returns-in_err-advance_with-clause-read_before
returns-in_err-advance_with-clause-read_before g c =
    let before = g.S.FileSource.fetches c.args.files.now in
    let between = g.S.FileSource.fetches c.loop.files in
    let after = g.S.FileSource.fetches c.advance_with.new.files in
    if_err c.from_residual.result _
    (reads_up_to (tag_in c.args.self.now c.args.cursor.now.plan) c.args.pass.now.frames c.loop.pass.frames c.advance_with.new.pass.frames before between after c.loop.invariant.number
    c.loop.invariant.read
    (subst (λ (p : Plan). HasReadUpTo (tag_in c.args.self.now p) c.loop.pass.frames c.advance_with.new.pass.frames between after) c.loop.invariant.walk.0
    c.in_err-advance_with.ensures.read_before))

pub loop-preserved : goal.loop-preserved
loop-preserved g c =
    let before = g.S.FileSource.fetches c.args.files.now in
    let between = g.S.FileSource.fetches c.loop.files in
    let after = g.S.FileSource.fetches c.advance_with.new.files in
    record {
      cursor = search rules;
      walk = search rules;
      pass = search rules;
      same = search rules;
      number = search rules;
      busies = search rules;
      sure = search rules;
      read =
          reads_on (tag_in c.args.self.now c.args.cursor.now.plan) c.args.pass.now.frames c.loop.pass.frames c.advance_with.new.pass.frames before between after c.loop.invariant.number
          c.loop.invariant.read
          (subst (λ (p : Plan). HasRead (tag_in c.args.self.now p) c.loop.pass.frames c.advance_with.new.pass.frames between after) c.loop.invariant.walk.0
          c.in_ok-advance_with.ensures.read);
      told = search rules;
    }

pub returns-in-AtEnd-clause-read : goal.returns-in-AtEnd-clause-read
returns-in-AtEnd-clause-read g c =
    let before = g.S.FileSource.fetches c.args.files.now in
    let between = g.S.FileSource.fetches c.loop.files in
    let after = g.S.FileSource.fetches c.advance_with.new.files in
    reads_on (tag_in c.args.self.now c.args.cursor.now.plan) c.args.pass.now.frames c.loop.pass.frames c.advance_with.new.pass.frames before between after c.loop.invariant.number
    c.loop.invariant.read
    (subst (λ (p : Plan). HasRead (tag_in c.args.self.now p) c.loop.pass.frames c.advance_with.new.pass.frames between after) c.loop.invariant.walk.0
    c.in_ok-advance_with.ensures.read)
