use Rattle.std.proofs.Common.{◌≡◌, ◌∙◌, List, ℕ, ◌++◌, ap, sym, subst}
use Rattle.region_cursor.specs.Cursor.{next_root}
use Rattle.replay_core.specs.Shown.{Shown, Shows}
use Rattle.replay_core.proofs.Steps.{shows_one_more}
use Rattle.replay_core.proofs.shown_walk.ShownWalk.step.Goals as goal

pub returns-clause-scene : goal.returns-clause-scene
returns-clause-scene c = λ s walk whole is told.
    let inside = c.self.inside in
    let step = c.in_ok-self-inside.ensures in
    let more = c.step.new.words.items in
    let all = c.extend_from_slice.new.self.items in
    let old : Shown = record { cursor = inside.state; words = inside.words.items ++ inside.fresh.items; end = inside.end } in
    let new : Shown = record { cursor = c.step.new.self; words = all ++ more; end = c.in_ok-self-inside.field-0 } in
    let joined = subst (λ (ws : List ℕ). all ≡ inside.words.items ++ ws) c.deref.ensures.value c.in_ok-extend_from_slice.ensures.items in
    let root = told ∙ ap (λ (w : Shown). s.outcome (next_root w.cursor)) (sym c.self.view_is) in
    shows_one_more s walk old new more step.same.same_region (λ k at. step.scene s k whole at root) (ap (λ (ws : List ℕ). ws ++ more) joined)
    (subst (λ (w : Shown). Shows s walk w) (sym c.self.view_is) is)
