use Rattle.std.proofs.Common.{◌≡◌, set, Some}
use Rattle.replay_core.specs.Leaving.{IsAtStage}
use Rattle.replay_core.specs.declared.shared_cursor.SharedCursor.{SharedCursor}
use Rattle.replay_core.specs.declared.claiming.Stage.TheVariants.{Ended, Out, Free}
use Rattle.replay_core.proofs.Numbered.{some_holds}
use Rattle.replay_core.proofs.Sound.{claimed_sound}
use Rattle.replay_core.proofs.Scenes.{claim_end, claim_out, claim_free}
use Rattle.replay_core.proofs.claiming.claim.Goals as goal

pub returns-in-Ended-clause-scene : goal.returns-in-Ended-clause-scene
returns-in-Ended-clause-scene c =
    let r = c.in-Some.ensures.some in
    let stage = some_holds c.args.core.now.cursors c.in-Some.number r.0 (λ (d : SharedCursor). IsAtStage d.walk.end d.holder Ended) r.1.at c.in-Ended.ensures in
    claim_end c.args.layout.now c.args.core.now c.args.pass c.in-Some.field-0-0 c.in-Some.number r.0 r.1 stage

pub returns-in-Out-clause-scene : goal.returns-in-Out-clause-scene
returns-in-Out-clause-scene c =
    let r = c.in-Some.ensures.some in
    let stage = some_holds c.args.core.now.cursors c.in-Some.number r.0 (λ (d : SharedCursor). IsAtStage d.walk.end d.holder Out) r.1.at c.in-Out.ensures in
    claim_out c.args.layout.now c.args.core.now c.args.pass c.in-Some.field-0-0 c.in-Some.number stage.1.0 r.0 r.1 stage.0 stage.1.1

pub returns-in-Free-clause-core : goal.returns-in-Free-clause-core
returns-in-Free-clause-core c =
    let r = c.in-Some.ensures.some in
    let old = c.args.core.now in
    let stage = some_holds old.cursors c.in-Some.number r.0 (λ (d : SharedCursor). IsAtStage d.walk.end d.holder Free) r.1.at c.in-Free.ensures in
    let is = some_holds old.cursors c.in-Some.number r.0 (λ (d : SharedCursor). c.set_holder.new.self ≡ set old.cursors c.in-Some.number (record d { holder = Some c.args.pass })) r.1.at c.set_holder.ensures in
    claimed_sound c.args.layout.now old c.args.pass c.in-Some.field-0-0 c.in-Some.number r.0 c.set_holder.new.self r.1 stage.0 stage.1 is c.requires

pub returns-in-Free-clause-scene : goal.returns-in-Free-clause-scene
returns-in-Free-clause-scene c =
    let r = c.in-Some.ensures.some in
    let old = c.args.core.now in
    let stage = some_holds old.cursors c.in-Some.number r.0 (λ (d : SharedCursor). IsAtStage d.walk.end d.holder Free) r.1.at c.in-Free.ensures in
    let is = some_holds old.cursors c.in-Some.number r.0 (λ (d : SharedCursor). c.set_holder.new.self ≡ set old.cursors c.in-Some.number (record d { holder = Some c.args.pass })) r.1.at c.set_holder.ensures in
    claim_free c.args.layout.now old c.args.pass c.in-Some.field-0-0 c.in-Some.number r.0 c.set_holder.new.self r.1 stage.0 stage.1 is
