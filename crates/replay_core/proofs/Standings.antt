-- Where a pass stands in the machine's state that a core shows.
use Rattle.std.proofs.Common.{◌≡◌, ◌∙◌, ℕ, zero, suc, ◌+◌, Bool, true, false, not, cond, List, [], ◌∷◌, ◌++◌, length, position, set, Option, Some, None, refl, sym, ap, subst, ⊎_elim}
use Rattle.std.specs.Prelude.{slice_get, nat_lt}
use Rattle.std.specs.List.{prefix_len}
use Rattle.std.proofs.lemmas.Bool.{eq-eqb, ne_eqb}
use Rattle.std.proofs.lemmas.Option.{none-some, same_Some}
use Rattle.implicit_tiling.specs.Region.{Plan}
use Rattle.implicit_tiling.specs.Scene.{Scene}
use Rattle.replay_machine.specs.Machine.{Walk, Standing, absent, idle, reads, works, standing, is_held_by, by_holding, by_walk, by_cursor, by_pass, is_same_plan}
use Rattle.replay_machine.specs.declared.pass.Pass.{Pass}
use Rattle.replay_core.specs.Core.{machine_of, ShowsWalk, AreShown, IsWorking}
use Rattle.replay_core.specs.Events.{IsReading, IsIdle}
use Rattle.replay_core.specs.declared.state.Core.{Core}
use Rattle.replay_core.specs.declared.shared_cursor.SharedCursor.{SharedCursor}

-- the walk that a cursor shows
pub shown_at : (s : Scene) (walks : List Walk) (cursors : List SharedCursor) (c : ℕ) (cursor : SharedCursor) → AreShown s walks cursors → slice_get cursors c ≡ Some cursor
    → (walk : Walk) × (slice_get walks c ≡ Some walk) × ShowsWalk s walk cursor
shown_at s [] [] c cursor shown at = absurd (none-some cursor at)
shown_at s [] (d ∷ ds) c cursor shown at = absurd shown
shown_at s (w ∷ ws) [] c cursor shown at = absurd shown
shown_at s (w ∷ ws) (d ∷ ds) zero cursor shown at = (w, refl, subst (ShowsWalk s w) (same_Some d cursor at) shown.0)
shown_at s (w ∷ ws) (d ∷ ds) (suc c) cursor shown at = shown_at s ws ds c cursor shown.1 at

pub shown_none : (s : Scene) (walks : List Walk) (cursors : List SharedCursor) (c : ℕ) → AreShown s walks cursors → slice_get cursors c ≡ None → slice_get walks c ≡ None
shown_none s [] [] c shown at = refl
shown_none s [] (d ∷ ds) c shown at = absurd shown
shown_none s (w ∷ ws) [] c shown at = absurd shown
shown_none s (w ∷ ws) (d ∷ ds) zero shown at = absurd (none-some d (sym at))
shown_none s (w ∷ ws) (d ∷ ds) (suc c) shown at = shown_none s ws ds c shown.1 at

pub shown_set : (s : Scene) (walks : List Walk) (cursors : List SharedCursor) (c : ℕ) (walk : Walk) (cursor : SharedCursor) → AreShown s walks cursors → ShowsWalk s walk cursor
    → AreShown s (set walks c walk) (set cursors c cursor)
shown_set s [] [] c walk cursor shown shows = shown
shown_set s [] (d ∷ ds) c walk cursor shown shows = absurd shown
shown_set s (w ∷ ws) [] c walk cursor shown shows = absurd shown
shown_set s (w ∷ ws) (d ∷ ds) zero walk cursor shown shows = (shows, shown.1)
shown_set s (w ∷ ws) (d ∷ ds) (suc c) walk cursor shown shows = (shown.0, shown_set s ws ds c walk cursor shown.1 shows)

pub shown_more : (s : Scene) (walks : List Walk) (cursors : List SharedCursor) (walk : Walk) (cursor : SharedCursor) → AreShown s walks cursors → ShowsWalk s walk cursor
    → AreShown s (walks ++ walk ∷ []) (cursors ++ cursor ∷ [])
shown_more s [] [] walk cursor shown shows = (shows, tt)
shown_more s [] (d ∷ ds) walk cursor shown shows = absurd shown
shown_more s (w ∷ ws) [] walk cursor shown shows = absurd shown
shown_more s (w ∷ ws) (d ∷ ds) walk cursor shown shows = (shown.0, shown_more s ws ds walk cursor shown.1 shows)

pub shown_count : (s : Scene) (walks : List Walk) (cursors : List SharedCursor) → AreShown s walks cursors → length walks ≡ length cursors
shown_count s [] [] shown = refl
shown_count s [] (d ∷ ds) shown = absurd shown
shown_count s (w ∷ ws) [] shown = absurd shown
shown_count s (w ∷ ws) (d ∷ ds) shown = ap suc (shown_count s ws ds shown.1)

same_front : (s : Scene) (plan : Plan) (walks : List Walk) (cursors : List SharedCursor) → AreShown s walks cursors
    → prefix_len (λ (w : Walk). not (is_same_plan plan w.plan)) walks ≡ prefix_len (λ (d : SharedCursor). not (is_same_plan plan d.plan)) cursors
same_front s plan [] [] shown = refl
same_front s plan [] (d ∷ ds) shown = absurd shown
same_front s plan (w ∷ ws) [] shown = absurd shown
same_front s plan (w ∷ ws) (d ∷ ds) shown =
    ap (λ q. cond (not (is_same_plan plan q)) (1 + prefix_len (λ (v : Walk). not (is_same_plan plan v.plan)) ws) 0) (sym shown.0.same_plan)
    ∙ ap (λ n. cond (not (is_same_plan plan d.plan)) (1 + n) 0) (same_front s plan ws ds shown.1)

-- the place of a plan is the same in both
pub shown_position : (s : Scene) (plan : Plan) (walks : List Walk) (cursors : List SharedCursor) → AreShown s walks cursors
    → position (λ (w : Walk). is_same_plan plan w.plan) walks ≡ position (λ (d : SharedCursor). is_same_plan plan d.plan) cursors
shown_position s plan walks cursors shown =
    ap (λ n. cond (nat_lt n (length walks)) (Some n) None) (same_front s plan walks cursors shown)
    ∙ ap (λ k. cond (nat_lt (prefix_len (λ (d : SharedCursor). not (is_same_plan plan d.plan)) cursors) k) (Some (prefix_len (λ (d : SharedCursor). not (is_same_plan plan d.plan)) cursors)) None) (shown_count s walks cursors shown)

-- ---- where a pass stands

held_by_own : (p : ℕ) (holder : Option ℕ) → holder ≡ Some p → is_held_by p holder ≡ true
held_by_own p holder is = ap (is_held_by p) is ∙ eq-eqb p p refl

held_by_other : (p : ℕ) (holder : Option ℕ) → (holder ≡ Some p → ⊥) → is_held_by p holder ≡ false
held_by_other p None free = refl
held_by_other p (Some q) free = ne_eqb p q (λ e. free (ap {B = Option ℕ} (λ r. Some r) (sym e)))

-- in the machine's state with these cursors, it has this walk
pub record StandsAt (s : Scene) (walks : List Walk) (core : Core) (p c : ℕ) (cursor : SharedCursor) (stands : Walk → Standing) : Type 0 where
  pub walk : Walk
  pub is : standing (machine_of core walks) p ≡ stands walk
  pub at : slice_get walks c ≡ Some walk
  pub shows : ShowsWalk s walk cursor

with_walk : (walks : List Walk) (core : Core) (p : ℕ) (pass : Pass) (c : ℕ) (walk : Walk) (b : Bool) → slice_get core.passes p ≡ Some pass → pass.cursor ≡ Some c → slice_get walks c ≡ Some walk
    → is_held_by p walk.holder ≡ b → standing (machine_of core walks) p ≡ by_holding b pass c walk
with_walk walks core p pass c walk b there number at held =
    ap (by_pass walks p) there ∙ ap (by_cursor walks p pass) number ∙ ap (by_walk p pass c) at ∙ ap (λ h. by_holding h pass c walk) held

pub works_at : (s : Scene) (walks : List Walk) (core : Core) (p : ℕ) (pass : Pass) (c : ℕ) (cursor : SharedCursor) → AreShown s walks core.cursors → IsWorking core p pass c cursor
    → StandsAt s walks core p c cursor (works pass c)
works_at s walks core p pass c cursor shown w =
    let found = shown_at s walks core.cursors c cursor shown w.at in
    record {
      walk = found.0;
      is = with_walk walks core p pass c found.0 true w.there w.number found.1 (held_by_own p found.0.holder (sym found.2.same_holder ∙ w.held));
      at = found.1;
      shows = found.2;
    }

pub reads_at : (s : Scene) (walks : List Walk) (core : Core) (p : ℕ) (pass : Pass) (c : ℕ) (cursor : SharedCursor) → AreShown s walks core.cursors → IsReading core p pass c cursor
    → StandsAt s walks core p c cursor (reads pass c)
reads_at s walks core p pass c cursor shown r =
    let found = shown_at s walks core.cursors c cursor shown r.at in
    record {
      walk = found.0;
      is = with_walk walks core p pass c found.0 false r.there r.number found.1 (held_by_other p found.0.holder (λ e. r.free (found.2.same_holder ∙ e)));
      at = found.1;
      shows = found.2;
    }

pub idle_at : (s : Scene) (walks : List Walk) (core : Core) (p : ℕ) (pass : Pass) → AreShown s walks core.cursors → IsIdle core p pass → standing (machine_of core walks) p ≡ idle pass
idle_at s walks core p pass shown i = ap (by_pass walks p) i.there ∙ ⊎_elim
    (λ (none : pass.cursor ≡ None). ap (by_cursor walks p pass) none)
    (λ (t : (c : ℕ) × (pass.cursor ≡ Some c) × (slice_get core.cursors c ≡ None)). ap (by_cursor walks p pass) t.1 ∙ ap (by_walk p pass t.0) (shown_none s walks core.cursors t.0 shown t.2))
    i.none

pub absent_at : (walks : List Walk) (core : Core) (p : ℕ) → slice_get core.passes p ≡ None → standing (machine_of core walks) p ≡ absent
absent_at walks core p none = ap (by_pass walks p) none
