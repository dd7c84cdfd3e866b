use Rattle.std.proofs.lemmas.Option.{slice_get_within}
use Rattle.replay_core.specs.Core.{bare_machine}
use Rattle.replay_core.specs.Leaving.{IsNextOf}
use Rattle.replay_core.proofs.Frames.{few_pins}
use Rattle.replay_core.proofs.Numbered.{some_holds}
use Rattle.replay_core.proofs.Sound.{hit_sound, granted_sound}
use Rattle.replay_core.proofs.Scenes.{pin_hit, pin_granted, pin_waits, pin_busy}
use Rattle.replay_core.proofs.pinning.pin.Goals as goal

pub ask-requires : goal.ask-requires
ask-requires c = few_pins (bare_machine c.args.core.now) 4294967295 c.requires.used c.requires.few

pub set-requires : goal.set-requires
set-requires c = let w = c.in-Some.ensures.some in slice_get_within c.args.core.now.passes c.args.pass c.in-Some.found.0 w.1.there

pub set-requires-in-Granted : goal.set-requires-in-Granted
set-requires-in-Granted c = let w = c.in-Some.ensures.some in slice_get_within c.args.core.now.passes c.args.pass c.in-Some.found.0 w.1.there

pub returns-in-Hit-clause-core : goal.returns-in-Hit-clause-core
returns-in-Hit-clause-core c =
    let old = c.args.core.now in
    let w = c.in-Some.ensures.some in
    let key = c.key_of-key.result in
    let next = some_holds old.cursors c.in-Some.found.1 w.0 (IsNextOf key) w.1.at c.key_of-key.ensures.next in
    hit_sound c.args.layout.now old c.args.pass c.in-Some.found.0 c.in-Some.found.1 w.0 key c.in-Hit.frame c.ask.new.self c.set.new.self w.1 c.in-Nothing.is next.is
    c.in-Hit.ensures.answer c.in-Hit.ensures.pinned c.in-Hit.ensures.after c.set.ensures c.requires

pub returns-in-Hit-clause-scene : goal.returns-in-Hit-clause-scene
returns-in-Hit-clause-scene c =
    let old = c.args.core.now in
    let w = c.in-Some.ensures.some in
    let key = c.key_of-key.result in
    let next = some_holds old.cursors c.in-Some.found.1 w.0 (IsNextOf key) w.1.at c.key_of-key.ensures.next in
    pin_hit c.args.layout.now old c.args.pass key c.in-Hit.frame c.in-Some.found.0 c.in-Some.found.1 w.0 c.ask.new.self c.set.new.self w.1 c.in-Nothing.is next
    c.in-Hit.ensures.answer c.in-Hit.ensures.only c.key_of-key.ensures.numbers c.in-Hit.ensures.after c.set.ensures

pub returns-in-Granted-clause-core : goal.returns-in-Granted-clause-core
returns-in-Granted-clause-core c =
    let old = c.args.core.now in
    let w = c.in-Some.ensures.some in
    let key = c.key_of-key.result in
    let next = some_holds old.cursors c.in-Some.found.1 w.0 (IsNextOf key) w.1.at c.key_of-key.ensures.next in
    granted_sound c.args.layout.now old c.args.pass c.in-Some.found.0 c.in-Some.found.1 w.0 key c.in-Granted.frame c.ask.new.self c.set-in-Granted.new.self w.1 c.in-Nothing.is next.is
    c.in-Granted.ensures.answer c.in-Granted.ensures.pinned c.in-Granted.ensures.after c.set-in-Granted.ensures c.requires

pub returns-in-Granted-clause-scene : goal.returns-in-Granted-clause-scene
returns-in-Granted-clause-scene c =
    let old = c.args.core.now in
    let w = c.in-Some.ensures.some in
    let key = c.key_of-key.result in
    let next = some_holds old.cursors c.in-Some.found.1 w.0 (IsNextOf key) w.1.at c.key_of-key.ensures.next in
    pin_granted c.args.layout.now old c.args.pass key c.in-Granted.frame c.in-Some.found.0 c.in-Some.found.1 w.0 c.ask.new.self c.set-in-Granted.new.self w.1 c.in-Nothing.is next
    c.in-Granted.ensures.answer c.in-Granted.ensures.only c.key_of-key.ensures.numbers c.in-Granted.ensures.after c.set-in-Granted.ensures

pub returns-in-Loading-clause-scene : goal.returns-in-Loading-clause-scene
returns-in-Loading-clause-scene c =
    let old = c.args.core.now in
    let w = c.in-Some.ensures.some in
    let key = c.key_of-key.result in
    let next = some_holds old.cursors c.in-Some.found.1 w.0 (IsNextOf key) w.1.at c.key_of-key.ensures.next in
    pin_waits c.args.layout.now old c.args.pass key c.in-Some.found.0 c.in-Some.found.1 w.0 c.ask.new.self w.1 c.in-Nothing.is next c.in-Loading.ensures.only c.key_of-key.ensures.numbers c.in-Loading.ensures.after

pub returns-in-Busy-clause-scene : goal.returns-in-Busy-clause-scene
returns-in-Busy-clause-scene c =
    let old = c.args.core.now in
    let w = c.in-Some.ensures.some in
    let key = c.key_of-key.result in
    let next = some_holds old.cursors c.in-Some.found.1 w.0 (IsNextOf key) w.1.at c.key_of-key.ensures.next in
    pin_busy c.args.layout.now old c.args.pass key c.in-Some.found.0 c.in-Some.found.1 w.0 c.ask.new.self w.1 c.in-Nothing.is next c.in-Busy.ensures.only c.key_of-key.ensures.numbers c.in-Busy.ensures.after
