use Rattle.replay_core.specs.declared.state.Core.{Core}
use Rattle.replay_core.proofs.Stepped.{opened_sound, opened_shown}
use Rattle.replay_core.proofs.state.Core.new.Goals as goal

pub returns-clause-core : goal.returns-clause-core
returns-clause-core c = λ layout.
    let core : Core = record { frames = c.in_ok-new.field-0; cursors = c.new-2.result; passes = c.in_ok-new-2.field-0 } in
    opened_sound layout core c.args.frames c.args.passes c.requires.passes c.in_ok-new.ensures c.new-2.ensures c.in_ok-new-2.ensures

pub returns-clause-scene : goal.returns-clause-scene
returns-clause-scene c = λ s.
    let core : Core = record { frames = c.in_ok-new.field-0; cursors = c.new-2.result; passes = c.in_ok-new-2.field-0 } in
    opened_shown s core c.args.frames c.args.passes c.in_ok-new.ensures c.new-2.ensures c.in_ok-new-2.ensures
