use Rattle.std.proofs.Common.{◌≡◌, refl, set, None}
use Rattle.std.proofs.lemmas.Option.{slice_get_within}
use Rattle.replay_core.specs.declared.shared_cursor.SharedCursor.{SharedCursor}
use Rattle.replay_core.proofs.Numbered.{some_holds}
use Rattle.replay_core.proofs.Sound.{may_give_up, dropped_sound}
use Rattle.replay_core.proofs.Scenes.{drop_done}
use Rattle.replay_core.proofs.claiming.drop_work.Goals as goal

pub give_up-requires : goal.give_up-requires
give_up-requires c = let w = c.in-Some.ensures.some in may_give_up c.args.layout.now c.args.core.now c.args.pass c.in-Some.found.0 c.in-Some.found.0.frame w.1.there refl c.requires

pub set-requires : goal.set-requires
set-requires c = let w = c.in-Some.ensures.some in slice_get_within c.args.core.now.passes c.args.pass c.in-Some.found.0 w.1.there

pub set_holder-requires : goal.set_holder-requires
set_holder-requires c = let w = c.in-Some.ensures.some in slice_get_within c.args.core.now.cursors c.in-Some.found.1 w.0 w.1.at

pub returns-clause-core : goal.returns-clause-core
returns-clause-core c =
    let w = c.in-Some.ensures.some in
    let old = c.args.core.now in
    let is = some_holds old.cursors c.in-Some.found.1 w.0 (λ (d : SharedCursor). c.set_holder.new.self ≡ set old.cursors c.in-Some.found.1 (record d { holder = None })) w.1.at c.set_holder.ensures in
    dropped_sound c.args.layout.now old c.args.pass c.in-Some.found.0 c.in-Some.found.1 w.0 c.give_up.new.frames c.set_holder.new.self c.set.new.self w.1 c.give_up.ensures is c.set.ensures c.requires

pub returns-clause-scene : goal.returns-clause-scene
returns-clause-scene c =
    let w = c.in-Some.ensures.some in
    let old = c.args.core.now in
    let is = some_holds old.cursors c.in-Some.found.1 w.0 (λ (d : SharedCursor). c.set_holder.new.self ≡ set old.cursors c.in-Some.found.1 (record d { holder = None })) w.1.at c.set_holder.ensures in
    drop_done c.args.layout.now old c.args.pass c.in-Some.found.0 c.in-Some.found.1 w.0 c.give_up.new.frames c.set_holder.new.self c.set.new.self w.1 c.give_up.ensures is c.set.ensures c.requires
