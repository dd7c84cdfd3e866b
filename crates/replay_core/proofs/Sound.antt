-- What holds of each core still holds after an event, whatever is read.
use Rattle.std.proofs.Common.{◌≡◌, ◌≢◌, ◌∙◌, ℕ, zero, suc, ◌+◌, ◌-◌, ◌^◌, ◌<◌, ◌⊎◌, inl, inr, List, [], ◌∷◌, ◌++◌, map, position, set, Option, Some, None, refl, sym, ap, subst, ⊎_elim}
use Rattle.std.specs.Prelude.{slice_get, eqb, IfSome, option_map}
use Rattle.std.proofs.lemmas.Bool.{eqb-true}
use Rattle.std.proofs.lemmas.List.{map-append, length-set}
use Rattle.std.proofs.lemmas.Option.{none-some, same_Some, slice_get-map, slice_get_within}
use Rattle.implicit_tiling.specs.Scene.{Layout}
use Rattle.implicit_tiling.specs.Region.{Plan}
use Rattle.implicit_tiling.specs.Steps.{partial}
use Rattle.tile_coords.specs.declared.walk_end.WalkEnd.TheVariants.{Partial}
use Rattle.frame_pool.specs.declared.frame.FrameState.{FrameState}
use Rattle.frame_pool.specs.declared.frame.FrameState.TheVariants.{Empty, Loading, Ready}
use Rattle.frame_pool.specs.declared.frame.Asked.TheVariants.{Hit, Granted}
use Rattle.frame_pool.specs.Frames.{Frames, KeepsPinned}
use Rattle.frame_pool.specs.Moves.{IsAskAnswer, after_ask, after_settle, after_unpin, settled, unpinned, pinned}
use Rattle.frame_pool.proofs.Places.{at-set, get-set_other, get-set_same}
use Rattle.frame_pool.proofs.Pools.{changed-at}
use Rattle.frame_pool.proofs.Victims.{victim-unpinned}
use Rattle.subtree_outcome.specs.declared.outcome.Outcome.{Outcome}
use Rattle.region_cursor.specs.Cursor.{cursor_key, IsWalkOf}
use Rattle.region_cursor.proofs.Callers.{walk_stays}
use Rattle.replay_machine.specs.Machine.{Walk, is_same_plan}
use Rattle.replay_machine.specs.declared.pass.Pass.{Pass}
use Rattle.replay_machine.specs.declared.pass.Held.{Held}
use Rattle.replay_machine.specs.declared.pass.Held.TheVariants.{Nothing as no_frame, Loads as loads, Pins as pins}
use Rattle.replay_machine.specs.Used.{IsUsed, IsHolder}
use Rattle.replay_machine.proofs.Stands.{AtWork}
use Rattle.replay_machine.proofs.Counts.{holders_stay}
use Rattle.replay_machine.proofs.Uses.{frameless, attached_used, claim_walk_used, pin_asked_used, load_frame_used, given_back_used, given_up_used, placed_used}
use Rattle.replay_core.specs.Core.{bare, bare_machine, IsWorking, FrameHasKey, IsCoreOf, HoldsValues, IsReadAt, wanted, pass_wanted, frame_wanted, state_wanted}
use Rattle.replay_core.specs.Cursors.{HasStarted, HasStepped, IsOfPlan}
use Rattle.replay_core.specs.Events.{IsReading, IsIdle, IsFree}
use Rattle.replay_core.specs.Leaving.{MayGiveUp, given_up_frames}
use Rattle.replay_core.specs.declared.state.Core.{Core}
use Rattle.replay_core.specs.declared.shared_cursor.SharedCursor.{SharedCursor}
use Rattle.replay_core.proofs.Frames.{values_asked, values_settled, values_unpinned, frame_asked, frame_changed, frame_emptied, unpinned_key, settled_key, loads_at, pins_at}

-- ---- the machine without steps

bare_at : (cursors : List SharedCursor) (c : ℕ) (cursor : SharedCursor) → slice_get cursors c ≡ Some cursor → slice_get (map bare cursors) c ≡ Some (bare cursor)
bare_at cursors c cursor at = slice_get-map bare cursors c ∙ ap (option_map bare) at

bare_set : (cursors : List SharedCursor) (c : ℕ) (cursor : SharedCursor) → set (map bare cursors) c (bare cursor) ≡ map bare (set cursors c cursor)
bare_set [] c cursor = refl
bare_set (d ∷ ds) zero cursor = refl
bare_set (d ∷ ds) (suc c) cursor = ap (λ ws. bare d ∷ ws) (bare_set ds c cursor)

pub bare_working : (core : Core) (p : ℕ) (pass : Pass) (c : ℕ) (cursor : SharedCursor) → IsWorking core p pass c cursor → AtWork (bare_machine core) p pass c (bare cursor)
bare_working core p pass c cursor w = record { there = w.there; cursor = w.number; at = bare_at core.cursors c cursor w.at; held = w.held }

-- a pass that reads holds no work
not_holding : (core : Core) (p : ℕ) (pass : Pass) (c : ℕ) (cursor : SharedCursor) → IsReading core p pass c cursor → IsHolder (map bare core.cursors) p pass → ⊥
not_holding core p pass c cursor r h =
    let same : c ≡ h.number = same_Some c h.number (sym r.number ∙ h.cursor) in
    let walk : bare cursor ≡ h.walk = same_Some (bare cursor) h.walk (sym (bare_at core.cursors c cursor r.at) ∙ ap (slice_get (map bare core.cursors)) same ∙ h.at) in
    r.free (ap (λ (w : Walk). w.holder) walk ∙ h.held)

not_holding_idle : (core : Core) (p : ℕ) (pass : Pass) → IsIdle core p pass → IsHolder (map bare core.cursors) p pass → ⊥
not_holding_idle core p pass i h = ⊎_elim
    (λ (none : pass.cursor ≡ None). none-some h.number (sym none ∙ h.cursor))
    (λ (t : (c : ℕ) × (pass.cursor ≡ Some c) × (slice_get core.cursors c ≡ None)).
    none-some h.walk (sym (slice_get-map bare core.cursors t.0 ∙ ap (option_map bare) t.2) ∙ ap (slice_get (map bare core.cursors)) (same_Some t.0 h.number (sym t.1 ∙ h.cursor)) ∙ h.at))
    i.none

without_frame : (census : List (FrameState ℕ)) (held : Held) (key : Option ℕ) → held ≡ no_frame → FrameHasKey census held key
without_frame census held key is = subst (λ h. FrameHasKey census h key) (sym is) tt

module _ (layout : Layout) (old : Core) where
  -- a pass that reads has no frame
  reader_frame : (p : ℕ) (pass : Pass) (c : ℕ) (cursor : SharedCursor) → IsReading old p pass c cursor → IsCoreOf layout old → pass.frame ≡ no_frame
  reader_frame p pass c cursor r core = frameless (bare_machine old) p pass core.used r.there (not_holding old p pass c cursor r)

  -- ---- claim

  pub claimed_sound : (p : ℕ) (pass : Pass) (c : ℕ) (cursor : SharedCursor) (cursors : List SharedCursor) → IsReading old p pass c cursor → cursor.walk.end ≡ Partial → cursor.holder ≡ None
      → cursors ≡ set old.cursors c (record cursor { holder = Some p }) → IsCoreOf layout old → IsCoreOf layout (record { frames = old.frames; cursors = cursors; passes = old.passes })
  claimed_sound p pass c cursor cursors r end none is core =
      let now : SharedCursor = record cursor { holder = Some p } in
      subst (λ (cs : List SharedCursor). IsCoreOf layout (record { frames = old.frames; cursors = cs; passes = old.passes })) (sym is) (record {
        used = subst (λ (ws : List Walk). IsUsed (record { census = old.frames.census; order = old.frames.order; cursors = ws; passes = old.passes })) (bare_set old.cursors c now)
            (claim_walk_used p (bare_machine old) c (bare cursor) partial None none (bare_at old.cursors c cursor r.at) core.used);
        keyed = λ q other d found w. ⊎_elim
            (λ (t : (d ≡ c) × (now ≡ found)).
            let same : p ≡ q = same_Some p q (ap (λ (x : SharedCursor). x.holder) t.1 ∙ w.held) in
            let is_pass : pass ≡ other = same_Some pass other (sym r.there ∙ ap (slice_get old.passes) same ∙ w.there) in
            without_frame old.frames.census other.frame (cursor_key found.walk.cursor) (ap (λ (x : Pass). x.frame) (sym is_pass) ∙ reader_frame p pass c cursor r core))
            (λ (t : (d ≢ c) × (slice_get old.cursors d ≡ Some found)). core.keyed q other d found (record { there = w.there; number = w.number; at = t.1; held = w.held }))
            (at-set old.cursors c d now found w.at);
        going = λ d found q at held. ⊎_elim
            (λ (t : (d ≡ c) × (now ≡ found)). subst (λ (x : SharedCursor). x.walk.end ≡ Partial) t.1 end)
            (λ (t : (d ≢ c) × (slice_get old.cursors d ≡ Some found)). core.going d found q t.1 held)
            (at-set old.cursors c d now found at);
        walks = λ d found at. ⊎_elim
            (λ (t : (d ≡ c) × (now ≡ found)). subst (λ (x : SharedCursor). IsWalkOf layout x.plan.region x.walk.cursor) t.1 (core.walks c cursor r.at))
            (λ (t : (d ≢ c) × (slice_get old.cursors d ≡ Some found)). core.walks d found t.1)
            (at-set old.cursors c d now found at);
        values = core.values;
        few = core.few;
      })

  -- ---- a pass changes its frame or its place, and the cursors stay

  keyed_after : (frames : Frames ℕ Outcome) (p : ℕ) (pass after : Pass) → slice_get old.passes p ≡ Some pass → after.cursor ≡ pass.cursor → IsCoreOf layout old
      → ((c : ℕ) (cursor : SharedCursor) → IsWorking old p pass c cursor → FrameHasKey frames.census after.frame (cursor_key cursor.walk.cursor))
      → ((q : ℕ) (other : Pass) (key : Option ℕ) → slice_get old.passes q ≡ Some other → q ≢ p → FrameHasKey old.frames.census other.frame key → FrameHasKey frames.census other.frame key)
      → (q : ℕ) (other : Pass) (d : ℕ) (found : SharedCursor) → IsWorking (record { frames = frames; cursors = old.cursors; passes = set old.passes p after }) q other d found
      → FrameHasKey frames.census other.frame (cursor_key found.walk.cursor)
  keyed_after frames p pass after there same core own others q other d found w = ⊎_elim
      (λ (t : (q ≡ p) × (after ≡ other)). subst (λ (x : Pass). FrameHasKey frames.census x.frame (cursor_key found.walk.cursor)) t.1
      (own d found (record { there = there; number = sym same ∙ ap (λ (x : Pass). x.cursor) t.1 ∙ w.number; at = w.at; held = w.held ∙ ap (λ k. Some k) t.0 })))
      (λ (t : (q ≢ p) × (slice_get old.passes q ≡ Some other)).
      others q other (cursor_key found.walk.cursor) t.1 t.0 (core.keyed q other d found (record { there = t.1; number = w.number; at = w.at; held = w.held })))
      (at-set old.passes p q after other w.there)

  pass_sound : (frames : Frames ℕ Outcome) (p : ℕ) (pass after : Pass) → slice_get old.passes p ≡ Some pass → after.cursor ≡ pass.cursor → IsCoreOf layout old
      → IsUsed (record { census = frames.census; order = frames.order; cursors = map bare old.cursors; passes = set old.passes p after })
      → ((c : ℕ) (cursor : SharedCursor) → IsWorking old p pass c cursor → FrameHasKey frames.census after.frame (cursor_key cursor.walk.cursor))
      → ((q : ℕ) (other : Pass) (key : Option ℕ) → slice_get old.passes q ≡ Some other → q ≢ p → FrameHasKey old.frames.census other.frame key → FrameHasKey frames.census other.frame key)
      → HoldsValues (IsReadAt layout) frames
      → IsCoreOf layout (record { frames = frames; cursors = old.cursors; passes = set old.passes p after })
  pass_sound frames p pass after there same core used own others values = record {
    used = used;
    keyed = keyed_after frames p pass after there same core own others;
    going = core.going;
    walks = core.walks;
    values = values;
    few = subst (λ n. n < 2 ^ 32 - 1) (sym (length-set old.passes p after)) core.few;
  }

  -- the cursor of a pass at work is one
  same_cursor : (p : ℕ) (pass : Pass) (c d : ℕ) (cursor found : SharedCursor) → IsWorking old p pass c cursor → IsWorking old p pass d found → cursor ≡ found
  same_cursor p pass c d cursor found w v =
      same_Some cursor found (sym w.at ∙ ap (slice_get old.cursors) (same_Some c d (sym w.number ∙ v.number)) ∙ v.at)

  -- ---- pin

  pub hit_sound : (p : ℕ) (pass : Pass) (c : ℕ) (cursor : SharedCursor) (key f : ℕ) (frames : Frames ℕ Outcome) (passes : List Pass) → IsWorking old p pass c cursor → pass.frame ≡ no_frame → cursor_key cursor.walk.cursor ≡ Some key
      → IsAskAnswer eqb key old.frames (Hit f) → KeepsPinned old.frames frames → frames ≡ after_ask key old.frames (Hit f) → passes ≡ set old.passes p (record pass { frame = pins f }) → IsCoreOf layout old
      → IsCoreOf layout (record { frames = frames; cursors = old.cursors; passes = passes })
  hit_sound p pass c cursor key f frames passes w none next a keeps is_frames is_passes core =
      let after : Pass = record pass { frame = pins f } in
      let now = after_ask key old.frames (Hit f) in
      let here : slice_get now.census f ≡ Some (Ready a.0 (a.1 + 1)) =
      ap (λ xs. slice_get xs f) (changed-at old.frames.census f (Ready a.0 a.1) pinned a.2) ∙ get-set_same old.frames.census f (Ready a.0 (a.1 + 1)) (slice_get_within old.frames.census f (Ready a.0 a.1) a.2) in
      subst (λ (fs : Frames ℕ Outcome). IsCoreOf layout (record { frames = fs; cursors = old.cursors; passes = passes })) (sym is_frames)
      (subst (λ (ps : List Pass). IsCoreOf layout (record { frames = now; cursors = old.cursors; passes = ps })) (sym is_passes)
      (pass_sound now p pass after w.there refl core
      (pin_asked_used p key pass c (bare cursor) (bare_machine old) (Hit f) (bare_working old p pass c cursor w) none (a.0, a.1, a.2) core.used)
      (λ d found v. (Ready a.0 (a.1 + 1), key, here, ap (λ k. Some k) (eqb-true a.0 key a.3), ap (λ (x : SharedCursor). cursor_key x.walk.cursor) (sym (same_cursor p pass c d cursor found w v)) ∙ next))
      (λ q other k at apart has. frame_asked (bare_machine old) q other other.frame k old.frames now refl refl core.used at (subst (KeepsPinned old.frames) is_frames keeps) has)
      (values_asked (IsReadAt layout) key old.frames (Hit f) a core.values)))

  pub granted_sound : (p : ℕ) (pass : Pass) (c : ℕ) (cursor : SharedCursor) (key f : ℕ) (frames : Frames ℕ Outcome) (passes : List Pass) → IsWorking old p pass c cursor → pass.frame ≡ no_frame → cursor_key cursor.walk.cursor ≡ Some key
      → IsAskAnswer eqb key old.frames (Granted f) → KeepsPinned old.frames frames → frames ≡ after_ask key old.frames (Granted f) → passes ≡ set old.passes p (record pass { frame = loads f }) → IsCoreOf layout old
      → IsCoreOf layout (record { frames = frames; cursors = old.cursors; passes = passes })
  granted_sound p pass c cursor key f frames passes w none next a keeps is_frames is_passes core =
      let after : Pass = record pass { frame = loads f } in
      let now = after_ask key old.frames (Granted f) in
      let free = victim-unpinned old.frames.census old.frames.order f a.1 in
      let here : slice_get now.census f ≡ Some (Loading key) = get-set_same old.frames.census f (Loading key) (slice_get_within old.frames.census f free.0 free.1) in
      subst (λ (fs : Frames ℕ Outcome). IsCoreOf layout (record { frames = fs; cursors = old.cursors; passes = passes })) (sym is_frames)
      (subst (λ (ps : List Pass). IsCoreOf layout (record { frames = now; cursors = old.cursors; passes = ps })) (sym is_passes)
      (pass_sound now p pass after w.there refl core
      (pin_asked_used p key pass c (bare cursor) (bare_machine old) (Granted f) (bare_working old p pass c cursor w) none free core.used)
      (λ d found v. (Loading key, key, here, refl, ap (λ (x : SharedCursor). cursor_key x.walk.cursor) (sym (same_cursor p pass c d cursor found w v)) ∙ next))
      (λ q other k at apart has. frame_asked (bare_machine old) q other other.frame k old.frames now refl refl core.used at (subst (KeepsPinned old.frames) is_frames keeps) has)
      (values_asked (IsReadAt layout) key old.frames (Granted f) a core.values)))

  -- ---- load

  pub wanted_is : (p f : ℕ) (pass : Pass) → slice_get old.passes p ≡ Some pass → pass.frame ≡ loads f → IsCoreOf layout old → (key : ℕ) × (slice_get old.frames.census f ≡ Some (Loading key)) × (wanted old p ≡ Some key)
  wanted_is p f pass there is core =
      let at = loads_at (bare_machine old) p f pass core.used there is in
      (at.0, at.1, ap (pass_wanted old.frames.census) there ∙ ap (frame_wanted old.frames.census) is ∙ ap state_wanted at.1)

  pub loaded_sound : (p f : ℕ) (pass : Pass) (found : Outcome) (frames : Frames ℕ Outcome) (passes : List Pass) → slice_get old.passes p ≡ Some pass → pass.frame ≡ loads f
      → IfSome (wanted old p) (λ key. IsReadAt layout key found) → frames ≡ after_settle f (Some found) old.frames → passes ≡ set old.passes p (record pass { frame = pins f }) → IsCoreOf layout old
      → IsCoreOf layout (record { frames = frames; cursors = old.cursors; passes = passes })
  loaded_sound p f pass found frames passes there is read is_frames is_passes core =
      let after : Pass = record pass { frame = pins f } in
      let now = after_settle f (Some found) old.frames in
      let at = wanted_is p f pass there is core in
      subst (λ (fs : Frames ℕ Outcome). IsCoreOf layout (record { frames = fs; cursors = old.cursors; passes = passes })) (sym is_frames)
      (subst (λ (ps : List Pass). IsCoreOf layout (record { frames = now; cursors = old.cursors; passes = ps })) (sym is_passes)
      (pass_sound now p pass after there refl core
      (load_frame_used p (Some found) pass (bare_machine old) (loads f) is there core.used)
      (λ d cursor v. frame_changed (settled (Some found)) (settled_key found) old.frames.census f (Loading at.0) (pins f) (cursor_key cursor.walk.cursor) at.1
      (subst (λ h. FrameHasKey old.frames.census h (cursor_key cursor.walk.cursor)) is (core.keyed p pass d cursor v)))
      (λ q other k there apart has. frame_changed (settled (Some found)) (settled_key found) old.frames.census f (Loading at.0) other.frame k at.1 has)
      (values_settled (IsReadAt layout) f at.0 old.frames (Some found) at.1 (subst (λ o. IfSome o (λ key. IsReadAt layout key found)) at.2 read) core.values)))

  emptied : (f key : ℕ) → slice_get old.frames.census f ≡ Some (Loading key) → (after_settle f None old.frames).census ≡ set old.frames.census f Empty
  emptied f key at = let nothing : Option Outcome = None in changed-at old.frames.census f (Loading key) (settled nothing) at

  pub failed_sound : (p f : ℕ) (pass : Pass) (frames : Frames ℕ Outcome) (passes : List Pass) → slice_get old.passes p ≡ Some pass → pass.frame ≡ loads f
      → frames ≡ after_settle f None old.frames → passes ≡ set old.passes p (record pass { frame = no_frame }) → IsCoreOf layout old
      → IsCoreOf layout (record { frames = frames; cursors = old.cursors; passes = passes })
  failed_sound p f pass frames passes there is is_frames is_passes core =
      let after : Pass = record pass { frame = no_frame } in
      let nothing : Option Outcome = None in
      let now = after_settle f nothing old.frames in
      let at = wanted_is p f pass there is core in
      let used = load_frame_used p nothing pass (bare_machine old) (loads f) is there core.used in
      subst (λ (fs : Frames ℕ Outcome). IsCoreOf layout (record { frames = fs; cursors = old.cursors; passes = passes })) (sym is_frames)
      (subst (λ (ps : List Pass). IsCoreOf layout (record { frames = now; cursors = old.cursors; passes = ps })) (sym is_passes)
      (pass_sound now p pass after there refl core used
      (λ d cursor v. tt)
      (λ q other k here apart has. frame_emptied (record { census = now.census; order = now.order; cursors = map bare old.cursors; passes = set old.passes p after }) q other other.frame k old.frames.census f refl
      (emptied f at.0 at.1) used (get-set_other old.passes p q after apart ∙ here) has)
      (values_settled (IsReadAt layout) f at.0 old.frames nothing at.1 tt core.values)))

  -- ---- page

  pub placed_sound : (p : ℕ) (pass : Pass) (place : ℕ) (passes : List Pass) → slice_get old.passes p ≡ Some pass → passes ≡ set old.passes p (record pass { place = place }) → IsCoreOf layout old
      → IsCoreOf layout (record { frames = old.frames; cursors = old.cursors; passes = passes })
  placed_sound p pass place passes there is core =
      subst (λ (ps : List Pass). IsCoreOf layout (record { frames = old.frames; cursors = old.cursors; passes = ps })) (sym is)
      (pass_sound old.frames p pass (record pass { place = place }) there refl core
      (placed_used p pass place (bare_machine old) there core.used)
      (λ d cursor v. core.keyed p pass d cursor v)
      (λ q other k here apart has. has)
      core.values)

  -- ---- commit and drop

  given_back_sound : (p : ℕ) (pass : Pass) (c : ℕ) (cursor now : SharedCursor) (frames : Frames ℕ Outcome) → IsWorking old p pass c cursor → now.holder ≡ None → IsWalkOf layout now.plan.region now.walk.cursor
      → HoldsValues (IsReadAt layout) frames
      → IsUsed (record { census = frames.census; order = frames.order; cursors = set (map bare old.cursors) c (bare now); passes = set old.passes p (record pass { frame = no_frame }) })
      → ((q : ℕ) (other : Pass) (key : Option ℕ) → slice_get old.passes q ≡ Some other → q ≢ p → FrameHasKey old.frames.census other.frame key → FrameHasKey frames.census other.frame key)
      → IsCoreOf layout old → IsCoreOf layout (record { frames = frames; cursors = set old.cursors c now; passes = set old.passes p (record pass { frame = no_frame }) })
  given_back_sound p pass c cursor now frames w free of_layout values used others core =
      let after : Pass = record pass { frame = no_frame } in
      record {
        used = subst (λ (ws : List Walk). IsUsed (record { census = frames.census; order = frames.order; cursors = ws; passes = set old.passes p after })) (bare_set old.cursors c now) used;
        keyed = λ q other d found v. ⊎_elim
            (λ (t : (q ≡ p) × (after ≡ other)). without_frame frames.census other.frame (cursor_key found.walk.cursor) (ap (λ (x : Pass). x.frame) (sym t.1)))
            (λ (t : (q ≢ p) × (slice_get old.passes q ≡ Some other)). ⊎_elim
            (λ (u : (d ≡ c) × (now ≡ found)). absurd (none-some q (sym free ∙ ap (λ (x : SharedCursor). x.holder) u.1 ∙ v.held)))
            (λ (u : (d ≢ c) × (slice_get old.cursors d ≡ Some found)).
            others q other (cursor_key found.walk.cursor) t.1 t.0 (core.keyed q other d found (record { there = t.1; number = v.number; at = u.1; held = v.held })))
            (at-set old.cursors c d now found v.at))
            (at-set old.passes p q after other v.there);
        going = λ d found q at held. ⊎_elim
            (λ (u : (d ≡ c) × (now ≡ found)). absurd (none-some q (sym free ∙ ap (λ (x : SharedCursor). x.holder) u.1 ∙ held)))
            (λ (u : (d ≢ c) × (slice_get old.cursors d ≡ Some found)). core.going d found q u.1 held)
            (at-set old.cursors c d now found at);
        walks = λ d found at. ⊎_elim
            (λ (u : (d ≡ c) × (now ≡ found)). subst (λ (x : SharedCursor). IsWalkOf layout x.plan.region x.walk.cursor) u.1 of_layout)
            (λ (u : (d ≢ c) × (slice_get old.cursors d ≡ Some found)). core.walks d found u.1)
            (at-set old.cursors c d now found at);
        values = values;
        few = subst (λ n. n < 2 ^ 32 - 1) (sym (length-set old.passes p after)) core.few;
      }

  unpinned_others : (f key n : ℕ) → slice_get old.frames.census f ≡ Some (Ready key n) → (q : ℕ) (other : Pass) (k : Option ℕ) → FrameHasKey old.frames.census other.frame k
      → FrameHasKey (after_unpin f old.frames).census other.frame k
  unpinned_others f key n at q other k has = frame_changed unpinned unpinned_key old.frames.census f (Ready key n) other.frame k at has

  pub committed_sound : (p f tiles : ℕ) (pass : Pass) (c : ℕ) (cursor : SharedCursor) (outcome : Outcome) (frames : Frames ℕ Outcome) (cursors : List SharedCursor) (passes : List Pass) → IsWorking old p pass c cursor → pass.frame ≡ pins f
      → HasStepped c outcome tiles old.cursors cursors → frames ≡ after_unpin f old.frames → passes ≡ set old.passes p (record pass { frame = no_frame }) → IsCoreOf layout old
      → IsCoreOf layout (record { frames = frames; cursors = cursors; passes = passes })
  committed_sound p f tiles pass c cursor outcome frames cursors passes w is h is_frames is_passes core =
      let at = pins_at (bare_machine old) p f pass core.used w.there is in
      let walk = walk_stays layout h.was.plan.region h.was.walk.cursor h.now.walk.cursor (core.walks c h.was h.at) h.same_walk in
      subst (λ (fs : Frames ℕ Outcome). IsCoreOf layout (record { frames = fs; cursors = cursors; passes = passes })) (sym is_frames)
      (subst (λ (cs : List SharedCursor). IsCoreOf layout (record { frames = after_unpin f old.frames; cursors = cs; passes = passes })) (sym h.after)
      (subst (λ (ps : List Pass). IsCoreOf layout (record { frames = after_unpin f old.frames; cursors = set old.cursors c h.now; passes = ps })) (sym is_passes)
      (given_back_sound p pass c cursor h.now (after_unpin f old.frames) w h.free
      (subst (λ (plan : Plan). IsWalkOf layout plan.region h.now.walk.cursor) (sym h.same_plan) walk)
      (values_unpinned (IsReadAt layout) f at.0 at.1 old.frames at.2 core.values)
      (given_back_used (bare_machine old) p f pass c (bare cursor) (bare h.now) (bare_working old p pass c cursor w) is core.used)
      (λ q other k there apart has. unpinned_others f at.0 at.1 at.2 q other k has)
      core)))

  pub may_give_up : (p : ℕ) (pass : Pass) (held : Held) → slice_get old.passes p ≡ Some pass → pass.frame ≡ held → IsCoreOf layout old → MayGiveUp held old.frames.census
  may_give_up p pass no_frame there is core = tt
  may_give_up p pass (loads f) there is core = loads_at (bare_machine old) p f pass core.used there is
  may_give_up p pass (pins f) there is core = pins_at (bare_machine old) p f pass core.used there is

  dropped_by : (p : ℕ) (pass : Pass) (c : ℕ) (cursor : SharedCursor) (held : Held) → IsWorking old p pass c cursor → pass.frame ≡ held → IsCoreOf layout old
      → IsCoreOf layout (record { frames = given_up_frames held old.frames; cursors = set old.cursors c (record cursor { holder = None }); passes = set old.passes p (record pass { frame = no_frame }) })
  dropped_by p pass c cursor no_frame w is core =
      let now : SharedCursor = record cursor { holder = None } in
      given_back_sound p pass c cursor now old.frames w refl (core.walks c cursor w.at) core.values
      (given_up_used (bare_machine old) p pass c (bare cursor) (bare now) no_frame (bare_working old p pass c cursor w) is core.used)
      (λ q other k there apart has. has) core
  dropped_by p pass c cursor (loads f) w is core =
      let now : SharedCursor = record cursor { holder = None } in
      let nothing : Option Outcome = None in
      let after : Pass = record pass { frame = no_frame } in
      let frames = after_settle f nothing old.frames in
      let at = wanted_is p f pass w.there is core in
      let used = given_up_used (bare_machine old) p pass c (bare cursor) (bare now) (loads f) (bare_working old p pass c cursor w) is core.used in
      given_back_sound p pass c cursor now frames w refl (core.walks c cursor w.at) (values_settled (IsReadAt layout) f at.0 old.frames nothing at.1 tt core.values) used
      (λ q other k here apart has. frame_emptied (record { census = frames.census; order = frames.order; cursors = set (map bare old.cursors) c (bare now); passes = set old.passes p after }) q other other.frame k old.frames.census f refl
      (emptied f at.0 at.1) used (get-set_other old.passes p q after apart ∙ here) has)
      core
  dropped_by p pass c cursor (pins f) w is core =
      let now : SharedCursor = record cursor { holder = None } in
      let at = pins_at (bare_machine old) p f pass core.used w.there is in
      given_back_sound p pass c cursor now (after_unpin f old.frames) w refl (core.walks c cursor w.at) (values_unpinned (IsReadAt layout) f at.0 at.1 old.frames at.2 core.values)
      (given_up_used (bare_machine old) p pass c (bare cursor) (bare now) (pins f) (bare_working old p pass c cursor w) is core.used)
      (λ q other k there apart has. unpinned_others f at.0 at.1 at.2 q other k has) core

  pub dropped_sound : (p : ℕ) (pass : Pass) (c : ℕ) (cursor : SharedCursor) (frames : Frames ℕ Outcome) (cursors : List SharedCursor) (passes : List Pass) → IsWorking old p pass c cursor
      → frames ≡ given_up_frames pass.frame old.frames → cursors ≡ set old.cursors c (record cursor { holder = None }) → passes ≡ set old.passes p (record pass { frame = no_frame }) → IsCoreOf layout old
      → IsCoreOf layout (record { frames = frames; cursors = cursors; passes = passes })
  dropped_sound p pass c cursor frames cursors passes w is_frames is_cursors is_passes core =
      let now : SharedCursor = record cursor { holder = None } in
      subst (λ (fs : Frames ℕ Outcome). IsCoreOf layout (record { frames = fs; cursors = cursors; passes = passes })) (sym is_frames)
      (subst (λ (cs : List SharedCursor). IsCoreOf layout (record { frames = given_up_frames pass.frame old.frames; cursors = cs; passes = passes })) (sym is_cursors)
      (subst (λ (ps : List Pass). IsCoreOf layout (record { frames = given_up_frames pass.frame old.frames; cursors = set old.cursors c now; passes = ps })) (sym is_passes)
      (dropped_by p pass c cursor pass.frame w refl core)))

  -- ---- attach

  -- what stands behind the others, or stood before
  at_last : {X : Type 0} (xs : List X) (x y : X) (c : ℕ) → slice_get (xs ++ x ∷ []) c ≡ Some y → (slice_get xs c ≡ Some y) ⊎ (x ≡ y)
  at_last [] x y zero at = inr (same_Some x y at)
  at_last [] x y (suc c) at = absurd (none-some y at)
  at_last (z ∷ zs) x y zero at = inl at
  at_last (z ∷ zs) x y (suc c) at = at_last zs x y c at

  pub free_frame : (p : ℕ) → IsCoreOf layout old → (f : IsFree old p) → (slice_get old.passes p ≡ Some f.0) × (f.0.frame ≡ no_frame)
  free_frame p core f = ⊎_elim
      (λ (i : IsIdle old p f.0). (i.there, frameless (bare_machine old) p f.0 core.used i.there (not_holding_idle old p f.0 i)))
      (λ (r : (c : ℕ) × (cursor : SharedCursor) × IsReading old p f.0 c cursor). (r.2.there, reader_frame p f.0 r.0 r.1 r.2 core))
      f.1

  attached_to : (p n : ℕ) (cursors : List SharedCursor) (f : IsFree old p) → IsCoreOf layout old
      → IsUsed (record { census = old.frames.census; order = old.frames.order; cursors = map bare cursors; passes = set old.passes p (record { cursor = Some n; place = 0; frame = no_frame }) })
      → ((d : ℕ) (found : SharedCursor) (q : ℕ) → slice_get cursors d ≡ Some found → found.holder ≡ Some q → slice_get old.cursors d ≡ Some found)
      → ((d : ℕ) (found : SharedCursor) → slice_get cursors d ≡ Some found → IsWalkOf layout found.plan.region found.walk.cursor)
      → IsCoreOf layout (record { frames = old.frames; cursors = cursors; passes = set old.passes p (record { cursor = Some n; place = 0; frame = no_frame }) })
  attached_to p n cursors f core used were walks =
      let after : Pass = record { cursor = Some n; place = 0; frame = no_frame } in
      record {
        used = used;
        keyed = λ q other d found v. ⊎_elim
            (λ (t : (q ≡ p) × (after ≡ other)). without_frame old.frames.census other.frame (cursor_key found.walk.cursor) (ap (λ (x : Pass). x.frame) (sym t.1)))
            (λ (t : (q ≢ p) × (slice_get old.passes q ≡ Some other)). core.keyed q other d found (record { there = t.1; number = v.number; at = were d found q v.at v.held; held = v.held }))
            (at-set old.passes p q after other v.there);
        going = λ d found q at held. core.going d found q (were d found q at held) held;
        walks = walks;
        values = core.values;
        few = subst (λ n. n < 2 ^ 32 - 1) (sym (length-set old.passes p after)) core.few;
      }

  pub attached_sound : (p n : ℕ) (plan : Plan) (cursors : List SharedCursor) (passes : List Pass) → IsFree old p → IsOfPlan layout plan n old.cursors cursors
      → passes ≡ set old.passes p (record { cursor = Some n; place = 0; frame = no_frame }) → IsCoreOf layout old → IsCoreOf layout (record { frames = old.frames; cursors = cursors; passes = passes })
  attached_sound p n plan cursors passes f of_plan is_passes core =
      let frame = free_frame p core f in
      let after : Pass = record { cursor = Some n; place = 0; frame = no_frame } in
      subst (λ (ps : List Pass). IsCoreOf layout (record { frames = old.frames; cursors = cursors; passes = ps })) (sym is_passes) (⊎_elim
      (λ (t : (position (λ (d : SharedCursor). is_same_plan plan d.plan) old.cursors ≡ Some n) × (cursors ≡ old.cursors)).
      subst (λ (cs : List SharedCursor). IsCoreOf layout (record { frames = old.frames; cursors = cs; passes = set old.passes p after })) (sym t.1)
      (attached_to p n old.cursors f core (attached_used (bare_machine old) (map bare old.cursors) p n f.0 core.used frame.0 frame.1 (λ q other apart h. h)) (λ d found q at held. at) core.walks))
      (λ (h : HasStarted layout plan n old.cursors cursors).
      let fresh : SharedCursor = record { plan = plan; walk = h.walk; holder = None } in
      subst (λ (cs : List SharedCursor). IsCoreOf layout (record { frames = old.frames; cursors = cs; passes = set old.passes p after })) (sym h.after)
      (attached_to p n (old.cursors ++ fresh ∷ []) f core
      (subst (λ (ws : List Walk). IsUsed (record { census = old.frames.census; order = old.frames.order; cursors = ws; passes = set old.passes p after })) (sym (map-append bare old.cursors (fresh ∷ [])))
      (attached_used (bare_machine old) (map bare old.cursors ++ bare fresh ∷ []) p n f.0 core.used frame.0 frame.1 (λ q other apart h. holders_stay (map bare old.cursors) (bare fresh ∷ []) q other h)))
      (λ d found q at held. ⊎_elim
      (λ (was : slice_get old.cursors d ≡ Some found). was)
      (λ (is : fresh ≡ found). absurd (none-some q (ap (λ (x : SharedCursor). x.holder) is ∙ held)))
      (at_last old.cursors fresh found d at))
      (λ d found at. ⊎_elim
      (λ (was : slice_get old.cursors d ≡ Some found). core.walks d found was)
      (λ (is : fresh ≡ found). subst (λ (x : SharedCursor). IsWalkOf layout x.plan.region x.walk.cursor) is h.of_layout)
      (at_last old.cursors fresh found d at))))
      of_plan)
