use Rattle.std.proofs.Common.{◌≡◌, refl, sym, subst}
use Rattle.std.specs.Prelude.{IsSome}
use Rattle.std.proofs.lemmas.Option.{slice_get_within}
use Rattle.tile_coords.specs.declared.walk_end.WalkEnd.TheVariants.{Partial}
use Rattle.region_cursor.specs.Cursor.{cursor_key, Fits}
use Rattle.replay_core.specs.Core.{bare_machine}
use Rattle.replay_core.specs.Leaving.{IsNextOf}
use Rattle.replay_core.specs.declared.shared_cursor.SharedCursor.{SharedCursor}
use Rattle.replay_core.proofs.Frames.{pins_at}
use Rattle.replay_core.proofs.Numbered.{some_and, some_holds}
use Rattle.replay_core.proofs.Sound.{committed_sound}
use Rattle.replay_core.proofs.Scenes.{commit_done, pinned_key, root_fits}
use Rattle.replay_core.proofs.moving.commit.Goals as goal

pub key_of-requires : goal.key_of-requires
key_of-requires c =
    let w = c.in-Some.ensures.some in
    let old = c.args.core.now in
    some_and _ w.0 (λ (d : SharedCursor). d.walk.end ≡ Partial) w.1.at (c.requires.core.going c.in-Some.found.1 w.0 c.args.pass w.1.at w.1.held)

pub look-requires : goal.look-requires
look-requires c =
    let w = c.in-Some.ensures.some in
    let at = pins_at (bare_machine c.args.core.now) c.args.pass c.in-Pins.frame c.in-Some.found.0 c.requires.core.used w.1.there c.in-Pins.is in
    (at.0, at.1, at.2)

pub advance-requires : goal.advance-requires
advance-requires c =
    let w = c.in-Some.ensures.some in
    let old = c.args.core.now in
    let key = pinned_key c.args.layout.now old c.args.pass c.in-Pins.frame c.in-Some.found.0 c.in-Some.found.1 w.0 w.1 c.in-Pins.is c.requires.core in
    let next = some_holds old.cursors c.in-Some.found.1 w.0 (IsNextOf c.key_of.result) w.1.at c.key_of.ensures.next in
    let cursor = w.0.walk.cursor in
    let read = c.requires.core.values c.in-Pins.frame key.0 key.1 c.look.result.now key.2 c.look.ensures in
    some_and _ w.0 (λ (d : SharedCursor). IsSome (cursor_key d.walk.cursor) × Fits d.walk.cursor c.look.result.now) w.1.at
    (subst IsSome (sym key.3) refl, root_fits c.args.layout.now w.0.plan.region cursor key.0 c.key_of.result c.look.result.now (c.requires.core.walks c.in-Some.found.1 w.0 w.1.at) key.3 next.is next.root read)

pub unpin-requires : goal.unpin-requires
unpin-requires c =
    let w = c.in-Some.ensures.some in
    pins_at (bare_machine c.args.core.now) c.args.pass c.in-Pins.frame c.in-Some.found.0 c.requires.core.used w.1.there c.in-Pins.is

pub set-requires : goal.set-requires
set-requires c = let w = c.in-Some.ensures.some in slice_get_within c.args.core.now.passes c.args.pass c.in-Some.found.0 w.1.there

pub returns-clause-core : goal.returns-clause-core
returns-clause-core c =
    let w = c.in-Some.ensures.some in
    committed_sound c.args.layout.now c.args.core.now c.args.pass c.in-Pins.frame c.in_ok-tiles.tiles c.in-Some.found.0 c.in-Some.found.1 w.0 c.look.result.now c.unpin.new.self c.advance.new.self c.set.new.self w.1 c.in-Pins.is
    c.in_ok-tiles.ensures.stepped c.unpin.ensures.after c.set.ensures c.requires.core

pub returns-clause-scene : goal.returns-clause-scene
returns-clause-scene c =
    let w = c.in-Some.ensures.some in
    commit_done c.args.layout.now c.args.core.now c.args.pass c.in-Pins.frame c.in_ok-tiles.tiles c.in-Some.found.0 c.in-Some.found.1 w.0 c.look.result.now c.unpin.new.self c.advance.new.self c.set.new.self w.1 c.in-Pins.is
    c.look.ensures c.in_ok-tiles.ensures.stepped c.unpin.ensures.after c.set.ensures c.requires.core
