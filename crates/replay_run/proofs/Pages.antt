-- The tiles of a page have words, since each plan fits the layout.
use Rattle.std.proofs.Common.{◌≡◌, ◌≢◌, ◌∙◌, ◌+◌, ◌<◌, ◌⊎◌, ℕ, zero, suc, List, [], ◌∷◌, ◌++◌, take, drop, length, position, Option, Some, None, inl, inr, refl, sym, ap, subst, ⊎_elim}
use Rattle.std.specs.Prelude.{slice_get, nat_eq, set, Result, Ok, Err}
use Rattle.std.specs.List.{All}
use Rattle.std.proofs.lemmas.Option.{none-some, same_Some}
use Rattle.std.proofs.lemmas.List.Elements.{All-nil, All-take, All-drop}
use Rattle.implicit_tiling.specs.Limits.{most_levels}
use Rattle.implicit_tiling.specs.Region.{Plan}
use Rattle.implicit_tiling.specs.Scene.{Layout, Scene}
use Rattle.implicit_tiling.specs.Code.{word}
use Rattle.implicit_tiling.specs.Answer.{answer}
use Rattle.implicit_tiling.specs.Steps.{Pair, StepEnd, partial, ended}
use Rattle.tile_word.specs.Words.{HasWord}
use Rattle.tileset_json.specs.Limits.{IsWithinLimits}
use Rattle.frame_pool.specs.declared.frame.Asked.{Asked}
use Rattle.frame_pool.specs.declared.frame.Asked.TheVariants.{Hit, Granted, Loading, Busy}
use Rattle.frame_pool.proofs.Places.{at-set}
use Rattle.request_text.proofs.Words.{tiles_have_words}
use Rattle.batch_blocks.proofs.Plans.{below_most}
use Rattle.replay_script.specs.declared.event.Event.{Event}
use Rattle.replay_script.specs.declared.event.Event.TheVariants.{Attach, Claim, Pin, Load, Fail, Commit, Drop, Page, Bad}
use Rattle.replay_script.specs.Events.{with_read}
use Rattle.replay_machine.specs.declared.pass.Pass.{Pass}
use Rattle.replay_machine.specs.declared.pass.Held.{Held}
use Rattle.replay_machine.specs.declared.pass.Held.TheVariants.{Nothing as no_frame, Loads as loads, Pins as pins}
use Rattle.replay_machine.specs.Machine.{Walk, Machine, opening, is_same_plan, Standing, absent, idle, reads, works, standing}
use Rattle.replay_machine.specs.Asking.{asked}
use Rattle.replay_machine.specs.Turns.{turn, Turn, attach_at, attach_plan, attach, claim_walk, claim, pin_asked, pin_pair, pin_walk, pin, load_frame, unread, load, commit_frame, commit, drop_work, page_on, page_tiles, next_pair, shown_end, shown_tiles}
use Rattle.replay_machine.proofs.Stands.{Stands, stands}
use Rattle.replay_core.specs.Core.{AsksFor}
use Rattle.replay_run.specs.Plays.{said_tiles}

-- the level of each plan is below the most of the scheme
abbrev pub AreLow : Layout → List Walk → Type 0
AreLow layout walks = (c : ℕ) (walk : Walk) → slice_get walks c ≡ Some walk → walk.plan.region.level < most_levels layout.scheme

-- after a turn it is so, and the tiles of its reply have words
pub record IsLow (layout : Layout) (turn : Turn) : Type 0 where
  pub after : AreLow layout turn.after.cursors
  pub tiles : All (HasWord layout.scheme) (said_tiles turn.said)

pub none_low : (layout : Layout) (frames passes : ℕ) → AreLow layout (opening frames passes).cursors
none_low layout frames passes = λ c walk at. absurd (none-some walk at)

-- the last of a list, or one before it
at_end : (walks : List Walk) (c : ℕ) (last walk : Walk) → slice_get (walks ++ last ∷ []) c ≡ Some walk → (slice_get walks c ≡ Some walk) ⊎ (last ≡ walk)
at_end [] zero last walk at = inr (same_Some last walk at)
at_end [] (suc c) last walk at = absurd (none-some walk at)
at_end (w ∷ ws) zero last walk at = inl at
at_end (w ∷ ws) (suc c) last walk at = at_end ws c last walk at

module _ (s : Scene) (m : Machine) (low : AreLow s.layout m.cursors) where
  -- nothing of the cursors changes, or one of them, which keeps its plan
  same : (turn : Turn) → turn.after.cursors ≡ m.cursors → said_tiles turn.said ≡ [] → IsLow s.layout turn
  same turn is none = record {
    after = subst (AreLow s.layout) (sym is) low;
    tiles = subst (All (HasWord s.layout.scheme)) (sym none) (All-nil (HasWord s.layout.scheme));
  }

  set_low : (d : ℕ) (old new : Walk) → slice_get m.cursors d ≡ Some old → new.plan ≡ old.plan → AreLow s.layout (set m.cursors d new)
  set_low d old new at plan = λ c walk found. ⊎_elim
      (λ (t : (c ≡ d) × (new ≡ walk)). subst (λ (x : Plan). x.region.level < most_levels s.layout.scheme) (sym plan ∙ ap (λ (w : Walk). w.plan) t.1) (low d old at))
      (λ (t : (c ≢ d) × (slice_get m.cursors c ≡ Some walk)). low c walk t.1)
      (at-set m.cursors d c new walk found)

  changed : (turn : Turn) (d : ℕ) (old new : Walk) → slice_get m.cursors d ≡ Some old → new.plan ≡ old.plan → turn.after.cursors ≡ set m.cursors d new → said_tiles turn.said ≡ [] → IsLow s.layout turn
  changed turn d old new at plan is none = record {
    after = subst (AreLow s.layout) (sym is) (set_low d old new at plan);
    tiles = subst (All (HasWord s.layout.scheme)) (sym none) (All-nil (HasWord s.layout.scheme));
  }

  -- ---- attach

  new_low : (plan : Plan) → plan.region.level < most_levels s.layout.scheme → AreLow s.layout (m.cursors ++ record { plan = plan; made = 0; holder = None } ∷ [])
  new_low plan fits = λ c walk found. ⊎_elim
      (λ (at : slice_get m.cursors c ≡ Some walk). low c walk at)
      (λ (is : record { plan = plan; made = 0; holder = None } ≡ walk). subst (λ (w : Walk). w.plan.region.level < most_levels s.layout.scheme) is fits)
      (at_end m.cursors c (record { plan = plan; made = 0; holder = None }) walk found)

  attach_at_low : (p : ℕ) (plan : Plan) (found : Option ℕ) → plan.region.level < most_levels s.layout.scheme → IsLow s.layout (attach_at p plan m found)
  attach_at_low p plan (Some c) fits = same (attach_at p plan m (Some c)) refl refl
  attach_at_low p plan None fits = record { after = new_low plan fits; tiles = All-nil (HasWord s.layout.scheme) }

  attach_plan_low : (p : ℕ) (asked : Result Plan ℕ) → IsWithinLimits s.layout → AsksFor s.layout (Attach p asked) → IsLow s.layout (attach_plan p m asked)
  attach_plan_low p (Err k) within asks = same (attach_plan p m (Err k)) refl refl
  attach_plan_low p (Ok plan) within asks = attach_at_low p plan (position (λ walk. is_same_plan plan walk.plan) m.cursors) (below_most s.layout plan asks within)

  attach_low : (p : ℕ) (asked : Result Plan ℕ) (st : Standing) → IsWithinLimits s.layout → AsksFor s.layout (Attach p asked) → IsLow s.layout (attach p asked m st)
  attach_low p asked absent within asks = same (attach p asked m absent) refl refl
  attach_low p asked (idle pass) within asks = attach_plan_low p asked within asks
  attach_low p asked (reads pass c walk) within asks = attach_plan_low p asked within asks
  attach_low p asked (works pass c walk) within asks = same (attach p asked m (works pass c walk)) refl refl

  -- ---- claim

  claim_walk_low : (p : ℕ) (c : ℕ) (walk : Walk) (end : StepEnd) (holder : Option ℕ) → slice_get m.cursors c ≡ Some walk → IsLow s.layout (claim_walk p m c walk end holder)
  claim_walk_low p c walk (ended end) holder at = same (claim_walk p m c walk (ended end) holder) refl refl
  claim_walk_low p c walk partial (Some q) at = same (claim_walk p m c walk partial (Some q)) refl refl
  claim_walk_low p c walk partial None at = changed (claim_walk p m c walk partial None) c walk (record walk { holder = Some p }) at refl refl refl

  claim_low : (p : ℕ) (st : Standing) → Stands m p st → IsLow s.layout (claim s p m st)
  claim_low p absent is = same (claim s p m absent) refl refl
  claim_low p (idle pass) is = same (claim s p m (idle pass)) refl refl
  claim_low p (reads pass c walk) is = claim_walk_low p c walk (shown_end s walk) walk.holder is.at
  claim_low p (works pass c walk) is = same (claim s p m (works pass c walk)) refl refl

  -- ---- pin

  pin_asked_low : (p key : ℕ) (pass : Pass) (answer : Asked) → IsLow s.layout (pin_asked p key pass m answer)
  pin_asked_low p key pass (Hit f) = same (pin_asked p key pass m (Hit f)) refl refl
  pin_asked_low p key pass (Granted f) = same (pin_asked p key pass m (Granted f)) refl refl
  pin_asked_low p key pass Loading = same (pin_asked p key pass m Loading) refl refl
  pin_asked_low p key pass Busy = same (pin_asked p key pass m Busy) refl refl

  pin_pair_low : (p : ℕ) (pass : Pass) (next : Option Pair) → IsLow s.layout (pin_pair s p pass m next)
  pin_pair_low p pass None = same (pin_pair s p pass m None) refl refl
  pin_pair_low p pass (Some pair) = pin_asked_low p (word s.layout.scheme pair.root 0) pass (asked nat_eq (word s.layout.scheme pair.root 0) m.census m.order)

  pin_walk_low : (p : ℕ) (pass : Pass) (walk : Walk) (frame : Held) → IsLow s.layout (pin_walk s p pass walk m frame)
  pin_walk_low p pass walk no_frame = pin_pair_low p pass (next_pair s walk)
  pin_walk_low p pass walk (loads f) = same (pin_walk s p pass walk m (loads f)) refl refl
  pin_walk_low p pass walk (pins f) = same (pin_walk s p pass walk m (pins f)) refl refl

  pin_low : (p : ℕ) (st : Standing) → IsLow s.layout (pin s p m st)
  pin_low p absent = same (pin s p m absent) refl refl
  pin_low p (idle pass) = same (pin s p m (idle pass)) refl refl
  pin_low p (reads pass c walk) = same (pin s p m (reads pass c walk)) refl refl
  pin_low p (works pass c walk) = pin_walk_low p pass walk pass.frame

  -- ---- load and fail

  load_frame_low : {X : Type 0} (p : ℕ) (read : Option X) (pass : Pass) (frame : Held) → IsLow s.layout (load_frame p read pass m frame)
  load_frame_low p read pass no_frame = same (load_frame p read pass m no_frame) refl refl
  load_frame_low p read pass (pins f) = same (load_frame p read pass m (pins f)) refl refl
  load_frame_low p (Some found) pass (loads f) = same (load_frame p (Some found) pass m (loads f)) refl refl
  load_frame_low {X} p None pass (loads f) = same (load_frame p (unread X) pass m (loads f)) refl refl

  load_low : {X : Type 0} (p : ℕ) (read : Option X) (found : Option Pass) → IsLow s.layout (load p read m found)
  load_low p read None = same (load p read m None) refl refl
  load_low p read (Some pass) = load_frame_low p read pass pass.frame

  -- ---- commit and drop

  commit_frame_low : (p : ℕ) (pass : Pass) (c : ℕ) (walk : Walk) (frame : Held) → slice_get m.cursors c ≡ Some walk → IsLow s.layout (commit_frame s p pass c walk m frame)
  commit_frame_low p pass c walk no_frame at = same (commit_frame s p pass c walk m no_frame) refl refl
  commit_frame_low p pass c walk (loads f) at = same (commit_frame s p pass c walk m (loads f)) refl refl
  commit_frame_low p pass c walk (pins f) at = changed (commit_frame s p pass c walk m (pins f)) c walk (record walk { made = walk.made + 1; holder = None }) at refl refl refl

  commit_low : (p : ℕ) (st : Standing) → Stands m p st → IsLow s.layout (commit s p m st)
  commit_low p absent is = same (commit s p m absent) refl refl
  commit_low p (idle pass) is = same (commit s p m (idle pass)) refl refl
  commit_low p (reads pass c walk) is = same (commit s p m (reads pass c walk)) refl refl
  commit_low p (works pass c walk) is = commit_frame_low p pass c walk pass.frame is.at

  drop_low : (p : ℕ) (st : Standing) → Stands m p st → IsLow s.layout (drop_work p m st)
  drop_low p absent is = same (drop_work p m absent) refl refl
  drop_low p (idle pass) is = same (drop_work p m (idle pass)) refl refl
  drop_low p (reads pass c walk) is = same (drop_work p m (reads pass c walk)) refl refl
  drop_low p (works pass c walk) is = changed (drop_work p m (works pass c walk)) c walk (record walk { holder = None }) is.at refl refl refl

  -- ---- page

  page_words : (walk : Walk) (place n : ℕ) → walk.plan.region.level < most_levels s.layout.scheme → All (HasWord s.layout.scheme) (page_tiles s walk place n)
  page_words walk place n is_low =
      let tiles = (answer s walk.plan.region).tiles in
      let shown = take (length (shown_tiles s walk)) tiles in
      All-take (HasWord s.layout.scheme) n (drop place shown)
      (All-drop (HasWord s.layout.scheme) place shown (All-take (HasWord s.layout.scheme) (length (shown_tiles s walk)) tiles (tiles_have_words s walk.plan.region is_low)))

  page_low : (p n : ℕ) (st : Standing) → Stands m p st → IsLow s.layout (page_on s p n m st)
  page_low p n absent is = same (page_on s p n m absent) refl refl
  page_low p n (idle pass) is = same (page_on s p n m (idle pass)) refl refl
  page_low p n (reads pass c walk) is = record { after = low; tiles = page_words walk pass.place n (low c walk is.at) }
  page_low p n (works pass c walk) is = record { after = low; tiles = page_words walk pass.place n (low c walk is.at) }

  pub turn_low : {X : Type 0} (event : Event (Unit {0})) (read : Option X) → IsWithinLimits s.layout → AsksFor s.layout (with_read event None) → IsLow s.layout (turn s m (with_read event read))
  turn_low (Attach p asked) read within asks = attach_low p asked (standing m p) within asks
  turn_low (Claim p) read within asks = claim_low p (standing m p) (stands m p)
  turn_low (Pin p) read within asks = pin_low p (standing m p)
  turn_low (Load p none) read within asks = load_low p read (slice_get m.passes p)
  turn_low {X} (Fail p) read within asks = load_low p (unread X) (slice_get m.passes p)
  turn_low (Commit p) read within asks = commit_low p (standing m p) (stands m p)
  turn_low (Drop p) read within asks = drop_low p (standing m p) (stands m p)
  turn_low (Page p n) read within asks = page_low p n (standing m p) (stands m p)
  turn_low Bad read within asks = same (turn s m (with_read Bad read)) refl refl
