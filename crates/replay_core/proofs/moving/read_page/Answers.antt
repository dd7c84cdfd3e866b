use Rattle.std.proofs.Common.{◌≡◌, ◌+◌, ◌∙◌, sym, subst, ap, length, take, drop, slice_get, List}
use Rattle.std.specs.List.{All}
use Rattle.implicit_tiling.specs.Code.{IsWord}
use Rattle.tile_coords.specs.Ends.{EndsAtRoot}
use Rattle.replay_machine.specs.Machine.{standing}
use Rattle.replay_machine.specs.Turns.{page_on}
use Rattle.replay_core.specs.Core.{IsCoreOf}
use Rattle.replay_core.specs.Events.{Answers}
use Rattle.replay_script.specs.declared.reply.Reply.TheVariants.{Page}
use Rattle.replay_core.specs.declared.shared_cursor.SharedCursor.{SharedCursor}
use Rattle.replay_core.proofs.Numbered.{some_holds}
use Rattle.replay_core.proofs.Sound.{placed_sound}
use Rattle.replay_core.proofs.Scenes.{cursor_there, page_done}
use Rattle.replay_core.proofs.moving.read_page.Goals as goal

pub returns-clause-core : goal.returns-clause-core
returns-clause-core c =
    let old = c.args.core.now in
    let h = c.in-Some.ensures.some in
    let there = cursor_there c.args.layout.now old c.args.pass c.in-Some.found.0 c.in-Some.found.1 h.0 h.1 in
    subst (λ (cs : List SharedCursor). IsCoreOf c.args.layout.now (record { frames = old.frames; cursors = cs; passes = c.set.new.self })) (sym c.in_ok-words.ensures.same)
    (placed_sound c.args.layout.now old c.args.pass c.in-Some.found.0 (c.in-Some.found.0.place + c.count_of.result) c.set.new.self there.0 c.set.ensures c.requires.core)

pub returns-clause-scene : goal.returns-clause-scene
returns-clause-scene c =
    let old = c.args.core.now in
    let h = c.in-Some.ensures.some in
    let pass = c.in-Some.found.0 in
    let number = c.in-Some.found.1 in
    let there = cursor_there c.args.layout.now old c.args.pass pass number h.0 h.1 in
    let words = some_holds old.cursors number h.0 (λ (d : SharedCursor). (c.in_ok-words.words.items ≡ take c.args.count (drop pass.place d.walk.words)) × All (IsWord d.walk.cursor.scheme) c.in_ok-words.words.items) there.1 c.in_ok-words.ensures.words in
    let end = some_holds c.page.new.self number h.0 (λ (d : SharedCursor). (c.end_of-end.result ≡ d.walk.end) × EndsAtRoot d.walk.cursor.scheme c.end_of-end.result)
    (ap (λ (cs : List SharedCursor). slice_get cs number) c.in_ok-words.ensures.same ∙ there.1) c.end_of-end.ensures in
    subst (λ (cs : List SharedCursor). Answers c.args.layout.now (λ s m. page_on s c.args.pass c.args.count m (standing m c.args.pass)) old (Page pass.place c.in_ok-words.words c.end_of-end.result) (record { frames = old.frames; cursors = cs; passes = c.set.new.self })) (sym c.in_ok-words.ensures.same)
    (page_done c.args.layout.now old c.args.pass c.args.count pass number h.0 c.in_ok-words.words (pass.place + c.count_of.result) c.end_of-end.result c.set.new.self h.1
    words.0 end.0 end.1 (ap (λ k. pass.place + k) (c.count_of.ensures ∙ ap length c.deref.ensures.value)) c.set.ensures c.requires.core)
