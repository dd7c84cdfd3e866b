-- The reply to an event is that of the machine, over each scene that the core shows.
use Rattle.std.proofs.Common.{◌≡◌, ◌≢◌, ◌∙◌, ℕ, ◌+◌, ◌≤◌, ◌⊎◌, inl, inr, List, [], ◌∷◌, ◌++◌, length, map, take, drop, position, set, Option, Some, None, Result, Ok, Err, refl, sym, ap, subst, ⊎_elim}
use Rattle.std.specs.Prelude.{slice_get, eqb, nat_eq, IfSome, IsSomeAnd, Vec}
use Rattle.std.specs.declared.alloc.Global.{Global}
use Rattle.std.specs.List.{range_with_len}
use Rattle.std.specs.List.Sorted.{IsPermutation}
use Rattle.std.proofs.lemmas.List.{length-map}
use Rattle.std.proofs.lemmas.Option.{same_Some}
use Rattle.implicit_tiling.specs.Scene.{Layout, Scene}
use Rattle.implicit_tiling.specs.declared.Scheme.{Scheme}
use Rattle.implicit_tiling.specs.Region.{Plan, Region}
use Rattle.implicit_tiling.specs.Code.{word, tile_word, word_tile}
use Rattle.implicit_tiling.specs.Steps.{Pair, partial}
use Rattle.tile_coords.specs.Ends.{end_seen, EndsAtRoot}
use Rattle.tile_coords.specs.declared.walk_end.WalkEnd.{WalkEnd}
use Rattle.tile_coords.specs.declared.walk_end.WalkEnd.TheVariants.{Partial, Complete, TooMany, Fault}
use Rattle.frame_pool.specs.declared.frame.FrameState.{FrameState}
use Rattle.frame_pool.specs.declared.frame.FrameState.TheVariants.{Ready}
use Rattle.frame_pool.specs.declared.frame.Asked.{Asked}
use Rattle.frame_pool.specs.declared.frame.Asked.TheVariants.{Hit, Granted, Loading as Waiting, Busy}
use Rattle.frame_pool.specs.Frames.{Frames}
use Rattle.frame_pool.specs.States.{state_key}
use Rattle.frame_pool.specs.Moves.{IsAskAnswer, after_ask, after_settle, after_unpin}
use Rattle.subtree_outcome.specs.declared.outcome.Outcome.{Outcome}
use Rattle.subtree_outcome.specs.Outcomes.{outcome_seen, IsOutcomeAt}
use Rattle.region_cursor.specs.Cursor.{Cursor, cursor_key, next_root, IsWalkOf, IsRootKey, Fits}
use Rattle.region_cursor.proofs.Callers.{next_root_of_key, outcome_fits}
use Rattle.replay_script.specs.declared.reply.Reply.{Reply}
use Rattle.replay_script.specs.declared.reply.Reply.TheVariants as reply
use Rattle.replay_machine.specs.Machine.{Walk, Machine, is_same_plan, Standing, absent, idle, reads, works, standing}
use Rattle.replay_machine.specs.declared.pass.Pass.{Pass}
use Rattle.replay_machine.specs.declared.pass.Held.{Held}
use Rattle.replay_machine.specs.declared.pass.Held.TheVariants.{Nothing as no_frame, Loads as loads, Pins as pins}
use Rattle.replay_machine.specs.Asking.{asked}
use Rattle.replay_machine.specs.Said.{Said, Says, not_now, refused, at_end, out, loading, busy}
use Rattle.replay_machine.specs.Turns.{Turn, stays, claim_walk, claim, pin_asked, pin_pair, pin_walk, pin, load_frame, load, commit_frame, commit, drop_work, given_up, paged, page_on, page_tiles, attach, attach_plan, attach_at, next_pair, shown_tiles, shown_end}
use Rattle.replay_machine.proofs.Asked.{asked_is_of_the_frames}
use Rattle.replay_core.specs.Shown.{Shows, stepped}
use Rattle.replay_core.specs.Core.{machine_of, ShowsWalk, AreShown, HoldsValues, IsOfScene, IsShown, IsReplied, IsWorking, IsCoreOf, wanted, HasKeyAt, FrameHasKey}
use Rattle.replay_core.specs.Cursors.{HasStarted, HasStepped, IsOfPlan}
use Rattle.replay_core.specs.Events.{IsReading, IsIdle, IsFree, Answers, AnswersWith, HasNoWork, HasNoRest, HasNoCursor, IsNotFree}
use Rattle.replay_core.specs.Leaving.{IsNextOf, given_up_frames}
use Rattle.replay_core.specs.declared.state.Core.{Core}
use Rattle.replay_core.specs.declared.shared_cursor.SharedCursor.{SharedCursor}
use Rattle.replay_core.proofs.Steps.{page_shows}
use Rattle.replay_core.proofs.Standings.{shown_set, shown_more, shown_count, shown_position, works_at, reads_at, idle_at}
use Rattle.replay_core.proofs.Frames.{values_asked, values_settled, values_unpinned, pins_at}
use Rattle.replay_core.proofs.Sound.{wanted_is}
use Rattle.replay_core.specs.Core.{bare_machine}

-- ---- turns that change nothing

quiet : (s : Scene) (m : Machine) (turn : Turn) (said : Said) (r : Reply) (core : Core) → turn ≡ stays said m → Says s said r → IsShown s m core → IsReplied s turn r core
quiet s m turn said r core is says shown = subst (λ t. IsReplied s t r core) (sym is) (says, shown)

no_claim : (s : Scene) (p : ℕ) (m : Machine) (st : Standing) → HasNoRest st → claim s p m st ≡ stays not_now m
no_claim s p m absent none = refl
no_claim s p m (idle pass) none = refl
no_claim s p m (reads pass c walk) none = absurd none
no_claim s p m (works pass c walk) none = refl

no_pin : (s : Scene) (p : ℕ) (m : Machine) (st : Standing) → HasNoWork st → pin s p m st ≡ stays not_now m
no_pin s p m absent none = refl
no_pin s p m (idle pass) none = refl
no_pin s p m (reads pass c walk) none = refl
no_pin s p m (works pass c walk) none = absurd none

no_commit : (s : Scene) (p : ℕ) (m : Machine) (st : Standing) → HasNoWork st → commit s p m st ≡ stays not_now m
no_commit s p m absent none = refl
no_commit s p m (idle pass) none = refl
no_commit s p m (reads pass c walk) none = refl
no_commit s p m (works pass c walk) none = absurd none

no_drop : (p : ℕ) (m : Machine) (st : Standing) → HasNoWork st → drop_work p m st ≡ stays not_now m
no_drop p m absent none = refl
no_drop p m (idle pass) none = refl
no_drop p m (reads pass c walk) none = refl
no_drop p m (works pass c walk) none = absurd none

no_page : (s : Scene) (p n : ℕ) (m : Machine) (st : Standing) → HasNoCursor st → page_on s p n m st ≡ stays not_now m
no_page s p n m absent none = refl
no_page s p n m (idle pass) none = refl
no_page s p n m (reads pass c walk) none = absurd none
no_page s p n m (works pass c walk) none = absurd none

no_attach : (p : ℕ) (wish : Result Plan ℕ) (m : Machine) (st : Standing) → IsNotFree st → attach p wish m st ≡ stays not_now m
no_attach p wish m absent none = refl
no_attach p wish m (idle pass) none = absurd none
no_attach p wish m (reads pass c walk) none = absurd none
no_attach p wish m (works pass c walk) none = refl

-- ---- cursors

-- the holder is another one
held_shows : (s : Scene) (walk : Walk) (cursor : SharedCursor) (holder : Option ℕ) → ShowsWalk s walk cursor → ShowsWalk s (record walk { holder = holder }) (record cursor { holder = holder })
held_shows s walk cursor holder is = record {
  same_plan = is.same_plan;
  same_holder = refl;
  shows = record { same_region = is.shows.same_region; at = is.shows.at; words_are = is.shows.words_are; end_is = is.shows.end_is };
}

ended_claim : (scheme : Scheme) (p : ℕ) (m : Machine) (c : ℕ) (walk : Walk) (end : WalkEnd) (holder : Option ℕ) → end ≢ Partial → claim_walk p m c walk (end_seen scheme end) holder ≡ stays at_end m
ended_claim scheme p m c walk Partial holder is = absurd (is refl)
ended_claim scheme p m c walk Complete holder is = refl
ended_claim scheme p m c walk TooMany holder is = refl
ended_claim scheme p m c walk (Fault root number) holder is = refl

module _ (layout : Layout) (old : Core) where
  -- ---- claim

  pub claim_no : (p : ℕ) → ((s : Scene) (walks : List Walk) → AreShown s walks old.cursors → HasNoRest (standing (machine_of old walks) p)) → Answers layout (λ s m. claim s p m (standing m p)) old reply.No old
  claim_no p none s walks is whole shown = let m = machine_of old walks in
      quiet s m (claim s p m (standing m p)) not_now reply.No old (no_claim s p m (standing m p) (none s walks shown.shown)) refl shown

  pub claim_end : (p : ℕ) (pass : Pass) (c : ℕ) (cursor : SharedCursor) → IsReading old p pass c cursor → cursor.walk.end ≢ Partial → Answers layout (λ s m. claim s p m (standing m p)) old reply.End old
  claim_end p pass c cursor r end s walks is whole shown =
      let m = machine_of old walks in
      let st = reads_at s walks old p pass c cursor shown.shown r in
      quiet s m (claim s p m (standing m p)) at_end reply.End old
      (ap (claim s p m) st.is ∙ ap (λ e. claim_walk p m c st.walk e st.walk.holder) (sym st.shows.shows.end_is) ∙ ended_claim s.layout.scheme p m c st.walk cursor.walk.end st.walk.holder end) refl shown

  going_end : (s : Scene) (walk : Walk) (cursor : SharedCursor) → cursor.walk.end ≡ Partial → ShowsWalk s walk cursor → shown_end s walk ≡ partial
  going_end s walk cursor end is = sym is.shows.end_is ∙ ap (end_seen s.layout.scheme) end

  pub claim_out : (p : ℕ) (pass : Pass) (c q : ℕ) (cursor : SharedCursor) → IsReading old p pass c cursor → cursor.walk.end ≡ Partial → cursor.holder ≡ Some q → Answers layout (λ s m. claim s p m (standing m p)) old reply.Out old
  claim_out p pass c q cursor r end held s walks is whole shown =
      let m = machine_of old walks in
      let st = reads_at s walks old p pass c cursor shown.shown r in
      quiet s m (claim s p m (standing m p)) out reply.Out old
      (ap (claim s p m) st.is ∙ ap (λ e. claim_walk p m c st.walk e st.walk.holder) (going_end s st.walk cursor end st.shows) ∙ ap (claim_walk p m c st.walk partial) (sym st.shows.same_holder ∙ held)) refl shown

  pub claim_free : (p : ℕ) (pass : Pass) (c : ℕ) (cursor : SharedCursor) (cursors : List SharedCursor) → IsReading old p pass c cursor → cursor.walk.end ≡ Partial → cursor.holder ≡ None → cursors ≡ set old.cursors c (record cursor { holder = Some p })
      → Answers layout (λ s m. claim s p m (standing m p)) old reply.Claimed (record { frames = old.frames; cursors = cursors; passes = old.passes })
  claim_free p pass c cursor cursors r end none is_cursors s walks is whole shown =
      let m = machine_of old walks in
      let new : Core = record { frames = old.frames; cursors = cursors; passes = old.passes } in
      let st = reads_at s walks old p pass c cursor shown.shown r in
      let turn : claim s p m (standing m p) ≡ claim_walk p m c st.walk partial None =
      ap (claim s p m) st.is ∙ ap (λ e. claim_walk p m c st.walk e st.walk.holder) (going_end s st.walk cursor end st.shows) ∙ ap (claim_walk p m c st.walk partial) (sym st.shows.same_holder ∙ none) in
      subst (λ t. IsReplied s t reply.Claimed new) (sym turn) (
        refl,
        record {
          same = refl;
          shown = subst (AreShown s (set walks c (record st.walk { holder = Some p }))) (sym is_cursors)
              (shown_set s walks old.cursors c (record st.walk { holder = Some p }) (record cursor { holder = Some p }) shown.shown (held_shows s st.walk cursor (Some p) st.shows));
          values = shown.values;
        },
      )

  -- ---- pin

  pub pin_no : (p : ℕ) → ((s : Scene) (walks : List Walk) → AreShown s walks old.cursors → HasNoWork (standing (machine_of old walks) p)) → Answers layout (λ s m. pin s p m (standing m p)) old reply.No old
  pin_no p none s walks is whole shown = let m = machine_of old walks in
      quiet s m (pin s p m (standing m p)) not_now reply.No old (no_pin s p m (standing m p) (none s walks shown.shown)) refl shown

  pub pin_held : (p f : ℕ) (pass : Pass) (c : ℕ) (cursor : SharedCursor) → IsWorking old p pass c cursor → (pass.frame ≡ loads f) ⊎ (pass.frame ≡ pins f) → Answers layout (λ s m. pin s p m (standing m p)) old reply.No old
  pin_held p f pass c cursor w held s walks is whole shown =
      let m = machine_of old walks in
      let st = works_at s walks old p pass c cursor shown.shown w in
      quiet s m (pin s p m (standing m p)) not_now reply.No old
      (ap (pin s p m) st.is ∙ ⊎_elim (λ (e : pass.frame ≡ loads f). ap (pin_walk s p pass st.walk m) e) (λ (e : pass.frame ≡ pins f). ap (pin_walk s p pass st.walk m) e) held) refl shown

  pair_asked : (s : Scene) (p key : ℕ) (pass : Pass) (m : Machine) (o : Option Pair) → IsSomeAnd o (λ pair. key ≡ word s.layout.scheme pair.root 0) → pin_pair s p pass m o ≡ pin_asked p key pass m (asked nat_eq key m.census m.order)
  pair_asked s p key pass m None is = absurd is
  pair_asked s p key pass m (Some pair) is = ap (λ k. pin_asked p k pass m (asked nat_eq k m.census m.order)) (sym is)

  -- the turn of one who asks is that of the answer
  pin_turn : (p key : ℕ) (pass : Pass) (c : ℕ) (cursor : SharedCursor) (answer : Asked) → IsWorking old p pass c cursor → pass.frame ≡ no_frame → IsNextOf key cursor
      → ((other : Asked) → IsAskAnswer eqb key old.frames other → other ≡ answer) → IsPermutation (range_with_len 0 (length old.frames.census)) old.frames.order
      → (s : Scene) (walks : List Walk) → AreShown s walks old.cursors → pin s p (machine_of old walks) (standing (machine_of old walks) p) ≡ pin_asked p key pass (machine_of old walks) answer
  pin_turn p key pass c cursor answer w none next only numbers s walks shown =
      let m = machine_of old walks in
      let st = works_at s walks old p pass c cursor shown w in
      ap (pin s p m) st.is ∙ ap (pin_walk s p pass st.walk m) none ∙ pair_asked s p key pass m (next_pair s st.walk) (next.scene s st.walk st.shows.shows)
      ∙ ap (pin_asked p key pass m) (only (asked nat_eq key old.frames.census old.frames.order) (asked_is_of_the_frames nat_eq key old.frames numbers))

  pub pin_hit : (p key f : ℕ) (pass : Pass) (c : ℕ) (cursor : SharedCursor) (frames : Frames ℕ Outcome) (passes : List Pass) → IsWorking old p pass c cursor → pass.frame ≡ no_frame → IsNextOf key cursor
      → IsAskAnswer eqb key old.frames (Hit f) → ((other : Asked) → IsAskAnswer eqb key old.frames other → other ≡ Hit f) → IsPermutation (range_with_len 0 (length old.frames.census)) old.frames.order
      → frames ≡ after_ask key old.frames (Hit f) → passes ≡ set old.passes p (record pass { frame = pins f })
      → Answers layout (λ s m. pin s p m (standing m p)) old (reply.Hit f) (record { frames = frames; cursors = old.cursors; passes = passes })
  pin_hit p key f pass c cursor frames passes w none next a only numbers is_frames is_passes s walks is whole shown =
      let m = machine_of old walks in
      subst (λ t. IsReplied s t (reply.Hit f) (record { frames = frames; cursors = old.cursors; passes = passes })) (sym (pin_turn p key pass c cursor (Hit f) w none next only numbers s walks shown.shown))
      (subst (λ (fs : Frames ℕ Outcome). IsReplied s (pin_asked p key pass m (Hit f)) (reply.Hit f) (record { frames = fs; cursors = old.cursors; passes = passes })) (sym is_frames)
      (subst (λ (ps : List Pass). IsReplied s (pin_asked p key pass m (Hit f)) (reply.Hit f) (record { frames = after_ask key old.frames (Hit f); cursors = old.cursors; passes = ps })) (sym is_passes)
      (refl, record { same = refl; shown = shown.shown; values = values_asked (IsOfScene s) key old.frames (Hit f) a shown.values })))

  pub pin_granted : (p key f : ℕ) (pass : Pass) (c : ℕ) (cursor : SharedCursor) (frames : Frames ℕ Outcome) (passes : List Pass) → IsWorking old p pass c cursor → pass.frame ≡ no_frame → IsNextOf key cursor
      → IsAskAnswer eqb key old.frames (Granted f) → ((other : Asked) → IsAskAnswer eqb key old.frames other → other ≡ Granted f) → IsPermutation (range_with_len 0 (length old.frames.census)) old.frames.order
      → frames ≡ after_ask key old.frames (Granted f) → passes ≡ set old.passes p (record pass { frame = loads f })
      → Answers layout (λ s m. pin s p m (standing m p)) old (reply.Granted f) (record { frames = frames; cursors = old.cursors; passes = passes })
  pin_granted p key f pass c cursor frames passes w none next a only numbers is_frames is_passes s walks is whole shown =
      let m = machine_of old walks in
      subst (λ t. IsReplied s t (reply.Granted f) (record { frames = frames; cursors = old.cursors; passes = passes })) (sym (pin_turn p key pass c cursor (Granted f) w none next only numbers s walks shown.shown))
      (subst (λ (fs : Frames ℕ Outcome). IsReplied s (pin_asked p key pass m (Granted f)) (reply.Granted f) (record { frames = fs; cursors = old.cursors; passes = passes })) (sym is_frames)
      (subst (λ (ps : List Pass). IsReplied s (pin_asked p key pass m (Granted f)) (reply.Granted f) (record { frames = after_ask key old.frames (Granted f); cursors = old.cursors; passes = ps })) (sym is_passes)
      (refl, record { same = refl; shown = shown.shown; values = values_asked (IsOfScene s) key old.frames (Granted f) a shown.values })))

  pub pin_waits : (p key : ℕ) (pass : Pass) (c : ℕ) (cursor : SharedCursor) (frames : Frames ℕ Outcome) → IsWorking old p pass c cursor → pass.frame ≡ no_frame → IsNextOf key cursor
      → ((other : Asked) → IsAskAnswer eqb key old.frames other → other ≡ Waiting) → IsPermutation (range_with_len 0 (length old.frames.census)) old.frames.order → frames ≡ old.frames
      → Answers layout (λ s m. pin s p m (standing m p)) old reply.Loading (record { frames = frames; cursors = old.cursors; passes = old.passes })
  pin_waits p key pass c cursor frames w none next only numbers is_frames s walks is whole shown =
      let m = machine_of old walks in
      subst (λ (fs : Frames ℕ Outcome). IsReplied s (pin s p m (standing m p)) reply.Loading (record { frames = fs; cursors = old.cursors; passes = old.passes })) (sym is_frames)
      (quiet s m (pin s p m (standing m p)) loading reply.Loading old (pin_turn p key pass c cursor Waiting w none next only numbers s walks shown.shown) refl shown)

  pub pin_busy : (p key : ℕ) (pass : Pass) (c : ℕ) (cursor : SharedCursor) (frames : Frames ℕ Outcome) → IsWorking old p pass c cursor → pass.frame ≡ no_frame → IsNextOf key cursor
      → ((other : Asked) → IsAskAnswer eqb key old.frames other → other ≡ Busy) → IsPermutation (range_with_len 0 (length old.frames.census)) old.frames.order → frames ≡ old.frames
      → Answers layout (λ s m. pin s p m (standing m p)) old reply.Busy (record { frames = frames; cursors = old.cursors; passes = old.passes })
  pin_busy p key pass c cursor frames w none next only numbers is_frames s walks is whole shown =
      let m = machine_of old walks in
      subst (λ (fs : Frames ℕ Outcome). IsReplied s (pin s p m (standing m p)) reply.Busy (record { frames = fs; cursors = old.cursors; passes = old.passes })) (sym is_frames)
      (quiet s m (pin s p m (standing m p)) busy reply.Busy old (pin_turn p key pass c cursor Busy w none next only numbers s walks shown.shown) refl shown)

  -- ---- load

  pub load_no : (p : ℕ) (read : Option Outcome) (P : Scene → Type 0) → slice_get old.passes p ≡ None → AnswersWith layout P (λ s m. load p read m (slice_get m.passes p)) old reply.No old
  load_no p read P none s walks is brings shown = let m = machine_of old walks in
      quiet s m (load p read m (slice_get m.passes p)) not_now reply.No old (ap (load p read m) none) refl shown

  pub load_other : (p f : ℕ) (read : Option Outcome) (P : Scene → Type 0) (pass : Pass) → slice_get old.passes p ≡ Some pass → (pass.frame ≡ no_frame) ⊎ (pass.frame ≡ pins f)
      → AnswersWith layout P (λ s m. load p read m (slice_get m.passes p)) old reply.No old
  load_other p f read P pass there held s walks is brings shown = let m = machine_of old walks in
      quiet s m (load p read m (slice_get m.passes p)) not_now reply.No old
      (ap (load p read m) there ∙ ⊎_elim (λ (e : pass.frame ≡ no_frame). ap (load_frame p read pass m) e) (λ (e : pass.frame ≡ pins f). ap (load_frame p read pass m) e) held) refl shown

  pub load_read : (p f : ℕ) (found : Outcome) (pass : Pass) (frames : Frames ℕ Outcome) (passes : List Pass) → slice_get old.passes p ≡ Some pass → pass.frame ≡ loads f → frames ≡ after_settle f (Some found) old.frames
      → passes ≡ set old.passes p (record pass { frame = pins f }) → IsCoreOf layout old
      → AnswersWith layout (λ s. IfSome (wanted old p) (λ key. IsOfScene s key found)) (λ s m. load p (Some found) m (slice_get m.passes p)) old (reply.Loaded f) (record { frames = frames; cursors = old.cursors; passes = passes })
  load_read p f found pass frames passes there held is_frames is_passes core s walks is brings shown =
      let m = machine_of old walks in
      let at = wanted_is layout old p f pass there held core in
      let told = subst (λ o. IfSome o (λ key. IsOfScene s key found)) at.2 brings in
      subst (λ t. IsReplied s t (reply.Loaded f) (record { frames = frames; cursors = old.cursors; passes = passes })) (sym (ap (load p (Some found) m) there ∙ ap (load_frame p (Some found) pass m) held))
      (subst (λ (fs : Frames ℕ Outcome). IsReplied s (load_frame p (Some found) pass m (loads f)) (reply.Loaded f) (record { frames = fs; cursors = old.cursors; passes = passes })) (sym is_frames)
      (subst (λ (ps : List Pass). IsReplied s (load_frame p (Some found) pass m (loads f)) (reply.Loaded f) (record { frames = after_settle f (Some found) old.frames; cursors = old.cursors; passes = ps })) (sym is_passes)
      (refl, record { same = refl; shown = shown.shown; values = values_settled (IsOfScene s) f at.0 old.frames (Some found) at.1 told shown.values })))

  pub load_failed : (p f : ℕ) (P : Scene → Type 0) (pass : Pass) (frames : Frames ℕ Outcome) (passes : List Pass) → slice_get old.passes p ≡ Some pass → pass.frame ≡ loads f → frames ≡ after_settle f None old.frames
      → passes ≡ set old.passes p (record pass { frame = no_frame }) → IsCoreOf layout old
      → AnswersWith layout P (λ s m. load {X = Outcome} p None m (slice_get m.passes p)) old reply.Failed (record { frames = frames; cursors = old.cursors; passes = passes })
  load_failed p f P pass frames passes there held is_frames is_passes core s walks is brings shown =
      let m = machine_of old walks in
      let nothing : Option Outcome = None in
      let at = wanted_is layout old p f pass there held core in
      subst (λ t. IsReplied s t reply.Failed (record { frames = frames; cursors = old.cursors; passes = passes })) (sym (ap (load p nothing m) there ∙ ap (load_frame p nothing pass m) held))
      (subst (λ (fs : Frames ℕ Outcome). IsReplied s (load_frame p nothing pass m (loads f)) reply.Failed (record { frames = fs; cursors = old.cursors; passes = passes })) (sym is_frames)
      (subst (λ (ps : List Pass). IsReplied s (load_frame p nothing pass m (loads f)) reply.Failed (record { frames = after_settle f nothing old.frames; cursors = old.cursors; passes = ps })) (sym is_passes)
      (refl, record { same = refl; shown = shown.shown; values = values_settled (IsOfScene s) f at.0 old.frames nothing at.1 tt shown.values })))

  -- ---- drop

  pub drop_no : (p : ℕ) → ((s : Scene) (walks : List Walk) → AreShown s walks old.cursors → HasNoWork (standing (machine_of old walks) p)) → Answers layout (λ s m. drop_work p m (standing m p)) old reply.No old
  drop_no p none s walks is whole shown = let m = machine_of old walks in
      quiet s m (drop_work p m (standing m p)) not_now reply.No old (no_drop p m (standing m p) (none s walks shown.shown)) refl shown

  given_up_shown : (s : Scene) (p : ℕ) (pass : Pass) (held : Held) → slice_get old.passes p ≡ Some pass → pass.frame ≡ held → IsCoreOf layout old → HoldsValues (IsOfScene s) old.frames
      → HoldsValues (IsOfScene s) (given_up_frames held old.frames)
  given_up_shown s p pass no_frame there is core values = values
  given_up_shown s p pass (loads f) there is core values =
      let nothing : Option Outcome = None in
      let at = wanted_is layout old p f pass there is core in values_settled (IsOfScene s) f at.0 old.frames nothing at.1 tt values
  given_up_shown s p pass (pins f) there is core values = let at = pins_at (bare_machine old) p f pass core.used there is in values_unpinned (IsOfScene s) f at.0 at.1 old.frames at.2 values

  -- what is left of the frames is the same in both
  left_census : (held : Held) → (given_up_frames held old.frames).census ≡ given_up held old.frames.census
  left_census no_frame = refl
  left_census (loads f) = refl
  left_census (pins f) = refl

  left_order : (held : Held) → (given_up_frames held old.frames).order ≡ old.frames.order
  left_order no_frame = refl
  left_order (loads f) = refl
  left_order (pins f) = refl

  pub drop_done : (p : ℕ) (pass : Pass) (c : ℕ) (cursor : SharedCursor) (frames : Frames ℕ Outcome) (cursors : List SharedCursor) (passes : List Pass) → IsWorking old p pass c cursor
      → frames ≡ given_up_frames pass.frame old.frames → cursors ≡ set old.cursors c (record cursor { holder = None }) → passes ≡ set old.passes p (record pass { frame = no_frame }) → IsCoreOf layout old
      → Answers layout (λ s m. drop_work p m (standing m p)) old reply.Dropped (record { frames = frames; cursors = cursors; passes = passes })
  drop_done p pass c cursor frames cursors passes w is_frames is_cursors is_passes core s walks is whole shown =
      let m = machine_of old walks in
      let st = works_at s walks old p pass c cursor shown.shown w in
      let walks_now = set walks c (record st.walk { holder = None }) in
      let census = ap (λ (fs : Frames ℕ Outcome). fs.census) is_frames ∙ left_census pass.frame in
      let order = ap (λ (fs : Frames ℕ Outcome). fs.order) is_frames ∙ left_order pass.frame in
      subst (λ t. IsReplied s t reply.Dropped (record { frames = frames; cursors = cursors; passes = passes })) (sym (ap (drop_work p m) st.is)) (
        refl,
        record {
          same = ap (λ (xs : List (FrameState ℕ)). let after : Machine = record { census = xs; order = old.frames.order; cursors = walks_now; passes = set old.passes p (record pass { frame = no_frame }) } in after) (sym census)
              ∙ ap (λ (xs : List ℕ). let after : Machine = record { census = frames.census; order = xs; cursors = walks_now; passes = set old.passes p (record pass { frame = no_frame }) } in after) (sym order)
              ∙ ap (λ (xs : List Pass). let after : Machine = record { census = frames.census; order = frames.order; cursors = walks_now; passes = xs } in after) (sym is_passes);
          shown = subst (AreShown s walks_now) (sym is_cursors)
              (shown_set s walks old.cursors c (record st.walk { holder = None }) (record cursor { holder = None }) shown.shown (held_shows s st.walk cursor None st.shows));
          values = subst (HoldsValues (IsOfScene s)) (sym is_frames) (given_up_shown s p pass pass.frame w.there refl core shown.values);
        },
      )

  -- ---- commit

  pub commit_no : (p : ℕ) → ((s : Scene) (walks : List Walk) → AreShown s walks old.cursors → HasNoWork (standing (machine_of old walks) p)) → Answers layout (λ s m. commit s p m (standing m p)) old reply.No old
  commit_no p none s walks is whole shown = let m = machine_of old walks in
      quiet s m (commit s p m (standing m p)) not_now reply.No old (no_commit s p m (standing m p) (none s walks shown.shown)) refl shown

  pub commit_other : (p f : ℕ) (pass : Pass) (c : ℕ) (cursor : SharedCursor) → IsWorking old p pass c cursor → (pass.frame ≡ no_frame) ⊎ (pass.frame ≡ loads f) → Answers layout (λ s m. commit s p m (standing m p)) old reply.No old
  commit_other p f pass c cursor w held s walks is whole shown =
      let m = machine_of old walks in
      let st = works_at s walks old p pass c cursor shown.shown w in
      quiet s m (commit s p m (standing m p)) not_now reply.No old
      (ap (commit s p m) st.is ∙ ⊎_elim (λ (e : pass.frame ≡ no_frame). ap (commit_frame s p pass c st.walk m) e) (λ (e : pass.frame ≡ loads f). ap (commit_frame s p pass c st.walk m) e) held) refl shown

  -- the key of a frame that a pass has pinned is that of its cursor
  pub pinned_key : (p f : ℕ) (pass : Pass) (c : ℕ) (cursor : SharedCursor) → IsWorking old p pass c cursor → pass.frame ≡ pins f → IsCoreOf layout old
      → (key : ℕ) × (n : ℕ) × (slice_get old.frames.census f ≡ Some (Ready key n)) × (cursor_key cursor.walk.cursor ≡ Some key)
  pinned_key p f pass c cursor w held core =
      let at = pins_at (bare_machine old) p f pass core.used w.there held in
      let has : HasKeyAt old.frames.census f (cursor_key cursor.walk.cursor) = subst (λ h. FrameHasKey old.frames.census h (cursor_key cursor.walk.cursor)) held (core.keyed p pass c cursor w) in
      let state = same_Some (Ready at.0 at.1) has.0 (sym at.2 ∙ has.2) in
      (at.0, at.1, at.2, has.4 ∙ sym has.3 ∙ ap state_key (sym state))

  pub commit_done : (p f tiles : ℕ) (pass : Pass) (c : ℕ) (cursor : SharedCursor) (outcome : Outcome) (frames : Frames ℕ Outcome) (cursors : List SharedCursor) (passes : List Pass) → IsWorking old p pass c cursor → pass.frame ≡ pins f
      → slice_get old.frames.values f ≡ Some (Some outcome) → HasStepped c outcome tiles old.cursors cursors → frames ≡ after_unpin f old.frames → passes ≡ set old.passes p (record pass { frame = no_frame }) → IsCoreOf layout old
      → Answers layout (λ s m. commit s p m (standing m p)) old (reply.Moved tiles) (record { frames = frames; cursors = cursors; passes = passes })
  commit_done p f tiles pass c cursor outcome frames cursors passes w held looked h is_frames is_passes core s walks is whole shown =
      let m = machine_of old walks in
      let st = works_at s walks old p pass c cursor shown.shown w in
      let next = stepped st.walk in
      let key = pinned_key p f pass c cursor w held core in
      let same_cursor : cursor ≡ h.was = same_Some cursor h.was (sym w.at ∙ h.at) in
      let scheme : cursor.walk.cursor.scheme ≡ s.layout.scheme = (core.walks c cursor w.at).same_scheme ∙ ap (λ (l : Layout). l.scheme) (sym is) in
      let root : next_root cursor.walk.cursor ≡ word_tile s.layout.scheme key.0 = next_root_of_key cursor.walk.cursor key.0 key.3 ∙ ap (λ k. word_tile k key.0) scheme in
      let told : outcome_seen outcome ≡ s.outcome (next_root cursor.walk.cursor) = shown.values f key.0 key.1 outcome key.2 looked ∙ ap s.outcome (sym root) in
      let shows : Shows s next h.now.walk = h.scene s st.walk whole (subst (λ (x : SharedCursor). Shows s st.walk x.walk) same_cursor st.shows.shows)
      (subst (λ (x : SharedCursor). outcome_seen outcome ≡ s.outcome (next_root x.walk.cursor)) same_cursor told) in
      let count : tiles ≡ length (shown_tiles s next) = h.count ∙ ap length shows.words_are ∙ length-map (shown_tiles s next) (tile_word s) in
      subst (λ t. IsReplied s t (reply.Moved tiles) (record { frames = frames; cursors = cursors; passes = passes })) (sym (ap (commit s p m) st.is ∙ ap (commit_frame s p pass c st.walk m) held))
      (subst (λ (fs : Frames ℕ Outcome). IsReplied s (commit_frame s p pass c st.walk m (pins f)) (reply.Moved tiles) (record { frames = fs; cursors = cursors; passes = passes })) (sym is_frames)
      (subst (λ (ps : List Pass). IsReplied s (commit_frame s p pass c st.walk m (pins f)) (reply.Moved tiles) (record { frames = after_unpin f old.frames; cursors = cursors; passes = ps })) (sym is_passes) (
        ap reply.Moved count,
        record {
          same = refl;
          shown = subst (AreShown s (set walks c next)) (sym h.after) (shown_set s walks old.cursors c next h.now shown.shown (record {
            same_plan = h.same_plan ∙ ap (λ (x : SharedCursor). x.plan) (sym same_cursor) ∙ st.shows.same_plan;
            same_holder = h.free;
            shows = shows;
          }));
          values = values_unpinned (IsOfScene s) f key.0 key.1 old.frames key.2 shown.values;
        },
      )))

  -- ---- page

  pub page_no : (p n : ℕ) → ((s : Scene) (walks : List Walk) → AreShown s walks old.cursors → HasNoCursor (standing (machine_of old walks) p)) → Answers layout (λ s m. page_on s p n m (standing m p)) old reply.No old
  page_no p n none s walks is whole shown = let m = machine_of old walks in
      quiet s m (page_on s p n m (standing m p)) not_now reply.No old (no_page s p n m (standing m p) (none s walks shown.shown)) refl shown

  page_at : (s : Scene) (walks : List Walk) (p n : ℕ) (pass : Pass) (c : ℕ) (cursor : SharedCursor) → AreShown s walks old.cursors → IsReading old p pass c cursor ⊎ IsWorking old p pass c cursor
      → (walk : Walk) × (page_on s p n (machine_of old walks) (standing (machine_of old walks) p) ≡ paged s p n pass walk (machine_of old walks)) × ShowsWalk s walk cursor
  page_at s walks p n pass c cursor shown (inl r) = let st = reads_at s walks old p pass c cursor shown r in (st.walk, ap (page_on s p n (machine_of old walks)) st.is, st.shows)
  page_at s walks p n pass c cursor shown (inr w) = let st = works_at s walks old p pass c cursor shown w in (st.walk, ap (page_on s p n (machine_of old walks)) st.is, st.shows)

  pub cursor_there : (p : ℕ) (pass : Pass) (c : ℕ) (cursor : SharedCursor) → IsReading old p pass c cursor ⊎ IsWorking old p pass c cursor → (slice_get old.passes p ≡ Some pass) × (slice_get old.cursors c ≡ Some cursor)
  cursor_there p pass c cursor (inl r) = (r.there, r.at)
  cursor_there p pass c cursor (inr w) = (w.there, w.at)

  pub page_done : (p n : ℕ) (pass : Pass) (c : ℕ) (cursor : SharedCursor) (words : Vec ℕ Global) (place : ℕ) (end : WalkEnd) (passes : List Pass) → IsReading old p pass c cursor ⊎ IsWorking old p pass c cursor
      → words.items ≡ take n (drop pass.place cursor.walk.words) → end ≡ cursor.walk.end → EndsAtRoot cursor.walk.cursor.scheme end → place ≡ pass.place + length words.items
      → passes ≡ set old.passes p (record pass { place = place }) → IsCoreOf layout old
      → Answers layout (λ s m. page_on s p n m (standing m p)) old (reply.Page pass.place words end) (record { frames = old.frames; cursors = old.cursors; passes = passes })
  page_done p n pass c cursor words place end passes h is_words is_end root is_place is_passes core s walks is whole shown =
      let m = machine_of old walks in
      let at = page_at s walks p n pass c cursor shown.shown h in
      let there = cursor_there p pass c cursor h in
      let of_layout = core.walks c cursor there.1 in
      let tiles = page_tiles s at.0 pass.place n in
      let some : 1 ≤ s.layout.subtree_levels = subst (λ (l : Layout). 1 ≤ l.subtree_levels) (sym is) of_layout.some_levels in
      let shows : words.items ≡ map (tile_word s) tiles = page_shows s at.0 cursor.walk words.items pass.place n some is_words at.2.shows in
      let count : place ≡ pass.place + length tiles = is_place ∙ ap (λ k. pass.place + k) (ap length shows ∙ length-map tiles (tile_word s)) in
      let scheme : cursor.walk.cursor.scheme ≡ s.layout.scheme = of_layout.same_scheme ∙ ap (λ (l : Layout). l.scheme) (sym is) in
      subst (λ t. IsReplied s t (reply.Page pass.place words end) (record { frames = old.frames; cursors = old.cursors; passes = passes })) (sym at.1) (
        (refl, shows, ap (end_seen s.layout.scheme) is_end ∙ at.2.shows.end_is, subst (λ k. EndsAtRoot k end) scheme root),
        record {
          same = ap (λ (xs : List Pass). let after : Machine = record { census = old.frames.census; order = old.frames.order; cursors = walks; passes = xs } in after)
              (ap (λ k. set old.passes p (record pass { place = k })) (sym count) ∙ sym is_passes);
          shown = shown.shown;
          values = shown.values;
        },
      )

  -- ---- attach

  pub attach_no : (p : ℕ) (wish : Result Plan ℕ) → ((s : Scene) (walks : List Walk) → AreShown s walks old.cursors → IsNotFree (standing (machine_of old walks) p)) → Answers layout (λ s m. attach p wish m (standing m p)) old reply.No old
  attach_no p wish none s walks is whole shown = let m = machine_of old walks in
      quiet s m (attach p wish m (standing m p)) not_now reply.No old (no_attach p wish m (standing m p) (none s walks shown.shown)) refl shown

  free_turn : (p : ℕ) (wish : Result Plan ℕ) → IsFree old p → (s : Scene) (walks : List Walk) → AreShown s walks old.cursors
      → attach p wish (machine_of old walks) (standing (machine_of old walks) p) ≡ attach_plan p (machine_of old walks) wish
  free_turn p wish f s walks shown = let m = machine_of old walks in ⊎_elim
      (λ (i : IsIdle old p f.0). ap (attach p wish m) (idle_at s walks old p f.0 shown i))
      (λ (r : (c : ℕ) × (cursor : SharedCursor) × IsReading old p f.0 c cursor). let st = reads_at s walks old p f.0 r.0 r.1 shown r.2 in ap (attach p wish m) st.is)
      f.1

  pub attach_refused : (p k : ℕ) → IsFree old p → Answers layout (λ s m. attach p (Err k) m (standing m p)) old (reply.Refused k) old
  attach_refused p k f s walks is whole shown = let m = machine_of old walks in
      quiet s m (attach p (Err k) m (standing m p)) (refused k) (reply.Refused k) old (free_turn p (Err k) f s walks shown.shown) refl shown

  pub attach_done : (p n : ℕ) (plan : Plan) (cursors : List SharedCursor) (passes : List Pass) → IsFree old p → IsOfPlan layout plan n old.cursors cursors → passes ≡ set old.passes p (record { cursor = Some n; place = 0; frame = no_frame })
      → Answers layout (λ s m. attach p (Ok plan) m (standing m p)) old (reply.Cursor n) (record { frames = old.frames; cursors = cursors; passes = passes })
  attach_done p n plan cursors passes f of_plan is_passes s walks is whole shown =
      let m = machine_of old walks in
      let place = shown_position s plan walks old.cursors shown.shown in
      subst (λ (ps : List Pass). IsReplied s (attach p (Ok plan) m (standing m p)) (reply.Cursor n) (record { frames = old.frames; cursors = cursors; passes = ps })) (sym is_passes)
      (subst (λ t. IsReplied s t (reply.Cursor n) (record { frames = old.frames; cursors = cursors; passes = set old.passes p (record { cursor = Some n; place = 0; frame = no_frame }) })) (sym (free_turn p (Ok plan) f s walks shown.shown))
      (⊎_elim
      (λ (t : (position (λ (d : SharedCursor). is_same_plan plan d.plan) old.cursors ≡ Some n) × (cursors ≡ old.cursors)).
      subst (λ turn. IsReplied s turn (reply.Cursor n) (record { frames = old.frames; cursors = cursors; passes = set old.passes p (record { cursor = Some n; place = 0; frame = no_frame }) })) (sym (ap (attach_at p plan m) (place ∙ t.0)))
      (refl, record { same = refl; shown = subst (AreShown s walks) (sym t.1) shown.shown; values = shown.values }))
      (λ (h : HasStarted layout plan n old.cursors cursors).
      let fresh : SharedCursor = record { plan = plan; walk = h.walk; holder = None } in
      let walk : Walk = record { plan = plan; made = 0; holder = None } in
      let number : length walks ≡ n = shown_count s walks old.cursors shown.shown ∙ sym h.last in
      subst (λ turn. IsReplied s turn (reply.Cursor n) (record { frames = old.frames; cursors = cursors; passes = set old.passes p (record { cursor = Some n; place = 0; frame = no_frame }) })) (sym (ap (attach_at p plan m) (place ∙ h.absent)))
      (subst (λ k. IsReplied s (attach_at p plan m None) (reply.Cursor k) (record { frames = old.frames; cursors = cursors; passes = set old.passes p (record { cursor = Some k; place = 0; frame = no_frame }) })) number
      (refl, record { same = refl; shown = subst (AreShown s (walks ++ walk ∷ [])) (sym h.after) (shown_more s walks old.cursors walk fresh shown.shown (record { same_plan = refl; same_holder = refl; shows = h.scene s is })); values = shown.values })))
      of_plan))

-- what is read of the next root's file fits the next step
pub root_fits : (layout : Layout) (region : Region) (c : Cursor) (key next : ℕ) (found : Outcome) → IsWalkOf layout region c → cursor_key c ≡ Some key → cursor_key c ≡ Some next → IsRootKey c next
    → IsOutcomeAt layout (word_tile layout.scheme key) found → Fits c found
root_fits layout region c key next found of_layout is is_next root read =
    outcome_fits layout region c key found of_layout is (subst (IsRootKey c) (same_Some next key (sym is_next ∙ is)) root) read
