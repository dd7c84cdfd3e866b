use Rattle.std.proofs.Common.{ap, subst}
use Rattle.std.specs.List.{All}
use Rattle.implicit_tiling.specs.Code.{IsWord}
use Rattle.replay_core.specs.Shown.{Shown}
use Rattle.replay_core.proofs.Steps.{words_of_page, page_shows, page_of_words}
use Rattle.replay_core.proofs.shown_walk.ShownWalk.page.Goals as goal

pub returns-clause-scene : goal.returns-clause-scene
returns-clause-scene c = λ s walk some is.
    let old = c.args.self.now in
    let read = words_of_page c.extend_from_slice-2.new.self.items c.new-page.result.items c.part.result.now c.deref-2.result.now c.extend_from_slice.new.self.items c.self.inside.words.items
    c.deref.result.now c.self.inside.fresh.items old.words c.args.from c.args.most c.in_ok-extend_from_slice-2.ensures.items c.new-page.ensures.items c.part.ensures
    c.deref-2.ensures.value c.in_ok-extend_from_slice.ensures.items c.deref.ensures.value (ap (λ (w : Shown). w.words) c.self.view_is) in
    page_shows s walk old c.extend_from_slice-2.new.self.items c.args.from c.args.most some read is

pub returns-clause-are_words : goal.returns-clause-are_words
returns-clause-are_words c =
    let old = c.args.self.now in
    let read = words_of_page c.extend_from_slice-2.new.self.items c.new-page.result.items c.part.result.now c.deref-2.result.now c.extend_from_slice.new.self.items c.self.inside.words.items
    c.deref.result.now c.self.inside.fresh.items old.words c.args.from c.args.most c.in_ok-extend_from_slice-2.ensures.items c.new-page.ensures.items c.part.ensures
    c.deref-2.ensures.value c.in_ok-extend_from_slice.ensures.items c.deref.ensures.value (ap (λ (w : Shown). w.words) c.self.view_is) in
    page_of_words old.cursor.scheme c.extend_from_slice-2.new.self.items old.words c.args.from c.args.most read (subst (λ (w : Shown). All (IsWord w.cursor.scheme) w.words) c.self.view_is c.self.invariant.are_words)
