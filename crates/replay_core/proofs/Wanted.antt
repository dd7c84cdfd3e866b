-- The root that a pass is loading is that of the next step of its work.
use Rattle.std.proofs.Common.{◌≡◌, ◌∙◌, ℕ, ◌⊎◌, inl, inr, List, map, Option, Some, None, refl, sym, ap, subst, ⊎_elim}
use Rattle.std.specs.Prelude.{slice_get, option_map, IsSomeAnd}
use Rattle.std.proofs.lemmas.Option.{none-some, same_Some, slice_get-map}
use Rattle.implicit_tiling.specs.Scene.{Layout}
use Rattle.implicit_tiling.specs.Code.{word_level}
use Rattle.tile_word.specs.Roots.{IsRootWord}
use Rattle.tile_coords.specs.declared.walk_end.WalkEnd.TheVariants.{Partial}
use Rattle.frame_pool.specs.declared.frame.FrameState.TheVariants.{Loading}
use Rattle.frame_pool.specs.States.{state_key}
use Rattle.region_cursor.specs.Cursor.{cursor_key}
use Rattle.region_cursor.proofs.Callers.{key_is}
use Rattle.replay_machine.specs.Machine.{Walk}
use Rattle.replay_machine.specs.declared.pass.Pass.{Pass}
use Rattle.replay_machine.specs.declared.pass.Held.TheVariants.{Nothing as no_frame, Loads as loads}
use Rattle.replay_machine.specs.Used.{IsHolder}
use Rattle.replay_core.specs.Core.{bare, bare_machine, IsWorking, HasKeyAt, FrameHasKey, IsCoreOf, wanted}
use Rattle.replay_core.specs.Leaving.{IsNextOf}
use Rattle.replay_core.specs.declared.state.Core.{Core}
use Rattle.replay_core.specs.declared.shared_cursor.SharedCursor.{SharedCursor}
use Rattle.replay_core.proofs.Numbered.{some_and, some_holds}
use Rattle.replay_core.proofs.Sound.{wanted_is}

unmapped : (o : Option SharedCursor) (walk : Walk) → option_map bare o ≡ Some walk → (cursor : SharedCursor) × (o ≡ Some cursor) × (bare cursor ≡ walk)
unmapped None walk is = absurd (none-some walk is)
unmapped (Some cursor) walk is = (cursor, refl, same_Some (bare cursor) walk is)

holder_works : (core : Core) (p : ℕ) (pass : Pass) → slice_get core.passes p ≡ Some pass → IsHolder (map bare core.cursors) p pass → (c : ℕ) × (cursor : SharedCursor) × IsWorking core p pass c cursor
holder_works core p pass there h =
    let found = unmapped (slice_get core.cursors h.number) h.walk (sym (slice_get-map bare core.cursors h.number) ∙ h.at) in
    (h.number, found.0, record { there = there; number = h.cursor; at = found.1; held = ap (λ (w : Walk). w.holder) found.2 ∙ h.held })

no_clash : (f : ℕ) → no_frame ≡ loads f → ⊥
no_clash f e = cc

-- a pass that loads holds its work
pub loader_works : (layout : Layout) (core : Core) (p f : ℕ) (pass : Pass) → IsCoreOf layout core → slice_get core.passes p ≡ Some pass → pass.frame ≡ loads f → (c : ℕ) × (cursor : SharedCursor) × IsWorking core p pass c cursor
loader_works layout core p f pass sound there is = ⊎_elim
    (λ (none : pass.frame ≡ no_frame). absurd (no_clash f (sym none ∙ is)))
    (λ (h : IsHolder (map bare core.cursors) p pass). holder_works core p pass there h)
    (sound.used.working p pass there)

pub loader_has_cursor : (layout : Layout) (core : Core) (p f : ℕ) (pass : Pass) → IsCoreOf layout core → slice_get core.passes p ≡ Some pass → pass.frame ≡ loads f → pass.cursor ≡ None → ⊥
loader_has_cursor layout core p f pass sound there is none =
    let w = loader_works layout core p f pass sound there is in none-some w.0 (sym none ∙ w.2.number)

-- the cursor of a number that a pass that loads has goes on
pub loader_goes : (layout : Layout) (core : Core) (p f number : ℕ) (pass : Pass) → IsCoreOf layout core → slice_get core.passes p ≡ Some pass → pass.frame ≡ loads f → pass.cursor ≡ Some number
    → IsSomeAnd (slice_get core.cursors number) (λ (d : SharedCursor). d.walk.end ≡ Partial)
loader_goes layout core p f number pass sound there is at =
    let w = loader_works layout core p f pass sound there is in
    let same : w.0 ≡ number = same_Some w.0 number (sym w.2.number ∙ at) in
    subst (λ n. IsSomeAnd (slice_get core.cursors n) (λ (d : SharedCursor). d.walk.end ≡ Partial)) same
    (some_and (slice_get core.cursors w.0) w.1 (λ (d : SharedCursor). d.walk.end ≡ Partial) w.2.at (sound.going w.0 w.1 p w.2.at w.2.held))

next_of : (layout : Layout) (core : Core) (p f number key : ℕ) (pass : Pass) → IsCoreOf layout core → slice_get core.passes p ≡ Some pass → pass.frame ≡ loads f → pass.cursor ≡ Some number
    → IsSomeAnd (slice_get core.cursors number) (IsNextOf key) → (c : ℕ) × (cursor : SharedCursor) × IsWorking core p pass c cursor × IsNextOf key cursor
next_of layout core p f number key pass sound there is at next =
    let w = loader_works layout core p f pass sound there is in
    let same : w.0 ≡ number = same_Some w.0 number (sym w.2.number ∙ at) in
    (w.0, w.1, w.2, some_holds core.cursors number w.1 (IsNextOf key) (ap (slice_get core.cursors) (sym same) ∙ w.2.at) next)

pub wanted_key : (layout : Layout) (core : Core) (p f number key : ℕ) (pass : Pass) → IsCoreOf layout core → slice_get core.passes p ≡ Some pass → pass.frame ≡ loads f → pass.cursor ≡ Some number
    → IsSomeAnd (slice_get core.cursors number) (IsNextOf key) → Some key ≡ wanted core p
wanted_key layout core p f number key pass sound there is at next =
    let w = next_of layout core p f number key pass sound there is at next in
    let want = wanted_is layout core p f pass there is sound in
    let has : HasKeyAt core.frames.census f (cursor_key w.1.walk.cursor) = subst (λ h. FrameHasKey core.frames.census h (cursor_key w.1.walk.cursor)) is (sound.keyed p pass w.0 w.1 w.2) in
    let state = same_Some (Loading want.0) has.0 (sym want.1 ∙ has.2) in
    sym w.3.is ∙ has.4 ∙ sym has.3 ∙ ap state_key (sym state) ∙ sym want.2

pub wanted_root : (layout : Layout) (core : Core) (p f number key : ℕ) (pass : Pass) → IsCoreOf layout core → slice_get core.passes p ≡ Some pass → pass.frame ≡ loads f → pass.cursor ≡ Some number
    → IsSomeAnd (slice_get core.cursors number) (IsNextOf key) → IsRootWord layout (word_level key) key
wanted_root layout core p f number key pass sound there is at next =
    let w = next_of layout core p f number key pass sound there is at next in
    key_is layout w.1.plan.region w.1.walk.cursor key (sound.walks w.0 w.1 w.2.at) w.3.root
