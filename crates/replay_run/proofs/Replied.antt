-- The replies to events one after another, and turns in which what a load has read counts only as read or not.
use Rattle.std.proofs.Common.{◌≡◌, ◌∙◌, ◌≤◌, ℕ, List, [], ◌∷◌, ◌++◌, true, false, Option, Some, None, refl, sym, ap, subst, arith, ⊎_elim}
use Rattle.std.specs.Prelude.{slice_get, slice_set, slice_index_or, IfSome, IfOk, Result, Ok, Err}
use Rattle.std.proofs.lemmas.Option.{none-some}
use Rattle.std.specs.declared.alloc.AllocError.{AllocError}
use Rattle.implicit_tiling.specs.Files.{Files}
use Rattle.implicit_tiling.specs.Scene.{Layout, Scene}
use Rattle.implicit_tileset.specs.Scene.{scene_of}
use Rattle.scene_ports.specs.Counts.{Rose}
use Rattle.frame_pool.specs.declared.frame.FrameState.{FrameState}
use Rattle.frame_pool.specs.declared.frame.FrameState.TheVariants.{Empty, Loading, Ready}
use Rattle.frame_pool.specs.Moves.{settled}
use Rattle.subtree_outcome.specs.declared.outcome.Outcome.{Outcome}
use Rattle.subtree_outcome.specs.Outcomes.{HasNoOrphans, IsOutcomeOf}
use Rattle.subtree_outcome.proofs.Orphans.{files_have_none}
use Rattle.replay_script.specs.declared.event.Event.{Event}
use Rattle.replay_script.specs.declared.event.Event.TheVariants.{Attach, Claim, Pin, Load, Fail, Commit, Drop, Page, Bad}
use Rattle.replay_script.specs.declared.reply.Reply.{Reply}
use Rattle.replay_script.specs.Events.{with_read}
use Rattle.replay_machine.specs.declared.pass.Pass.{Pass}
use Rattle.replay_machine.specs.declared.pass.Held.{Held}
use Rattle.replay_machine.specs.declared.pass.Held.TheVariants.{Nothing as no_frame, Loads as loads, Pins as pins}
use Rattle.replay_machine.specs.Machine.{Machine}
use Rattle.replay_machine.specs.Said.{not_now, loaded}
use Rattle.replay_machine.specs.Turns.{turn, Turn, stays, load, load_frame, unread, with_pass, with_census}
use Rattle.replay_machine.specs.Runs.{replies, state_after}
use Rattle.replay_core.specs.Core.{IsCoreOf, IsShown, IsReplied, Brings, AsksFor, IsOfScene, IsReadAt, wanted}
use Rattle.replay_core.specs.declared.state.Core.{Core}
use Rattle.replay_core.proofs.Sound.{wanted_is}
use Rattle.replay_run.specs.Taken.{IsRead, IsTaken, key_read}

-- ---- events one after another

pub replies_more : {X : Type 0} (s : Scene) (m : Machine) (xs ys : List (Event (Option X))) → replies s m (xs ++ ys) ≡ replies s m xs ++ replies s (state_after s m xs) ys
replies_more s m [] ys = refl
replies_more s m (x ∷ xs) ys = ap (λ rs. (turn s m x).said ∷ rs) (replies_more s (turn s m x).after xs ys)

pub state_more : {X : Type 0} (s : Scene) (m : Machine) (xs ys : List (Event (Option X))) → state_after s m (xs ++ ys) ≡ state_after s (state_after s m xs) ys
state_more s m [] ys = refl
state_more s m (x ∷ xs) ys = state_more s (turn s m x).after xs ys

-- ---- what is read

settled_same : {X Y : Type 0} (x : X) (y : Y) (state : FrameState ℕ) → settled (Some x) state ≡ settled (Some y) state
settled_same x y Empty = refl
settled_same x y (Loading key) = refl
settled_same x y (Ready key n) = refl

frame_found : {X Y : Type 0} (p : ℕ) (x : X) (y : Y) (pass : Pass) (m : Machine) (frame : Held) → load_frame p (Some x) pass m frame ≡ load_frame p (Some y) pass m frame
frame_found p x y pass m no_frame = refl
frame_found p x y pass m (pins f) = refl
frame_found p x y pass m (loads f) =
    let to : FrameState ℕ → Turn = λ state. record { said = loaded f; after = with_pass p (record pass { frame = pins f }) (with_census (slice_set m.census f state) m) } in
    ap to (settled_same x y (slice_index_or m.census f Empty))

load_found : {X Y : Type 0} (p : ℕ) (x : X) (y : Y) (m : Machine) (found : Option Pass) → load p (Some x) m found ≡ load p (Some y) m found
load_found p x y m None = refl
load_found p x y m (Some pass) = frame_found p x y pass m pass.frame

frame_unread : (X Y : Type 0) (p : ℕ) (pass : Pass) (m : Machine) (frame : Held) → load_frame p (unread X) pass m frame ≡ load_frame p (unread Y) pass m frame
frame_unread X Y p pass m no_frame = refl
frame_unread X Y p pass m (pins f) = refl
frame_unread X Y p pass m (loads f) = refl

load_unread : (X Y : Type 0) (p : ℕ) (m : Machine) (found : Option Pass) → load p (unread X) m found ≡ load p (unread Y) m found
load_unread X Y p m None = refl
load_unread X Y p m (Some pass) = frame_unread X Y p pass m pass.frame

-- a load has read something
turn_found : {X Y : Type 0} (s : Scene) (m : Machine) (x : X) (y : Y) (event : Event (Unit {0})) → turn s m (with_read event (Some x)) ≡ turn s m (with_read event (Some y))
turn_found s m x y (Attach p asked) = refl
turn_found s m x y (Claim p) = refl
turn_found s m x y (Pin p) = refl
turn_found s m x y (Load p none) = load_found p x y m (slice_get m.passes p)
turn_found {X} {Y} s m x y (Fail p) = load_unread X Y p m (slice_get m.passes p)
turn_found s m x y (Commit p) = refl
turn_found s m x y (Drop p) = refl
turn_found s m x y (Page p n) = refl
turn_found s m x y Bad = refl

-- or nothing
turn_unread : (X Y : Type 0) (s : Scene) (m : Machine) (event : Event (Unit {0})) → turn s m (with_read event (unread X)) ≡ turn s m (with_read event (unread Y))
turn_unread X Y s m (Attach p asked) = refl
turn_unread X Y s m (Claim p) = refl
turn_unread X Y s m (Pin p) = refl
turn_unread X Y s m (Load p none) = load_unread X Y p m (slice_get m.passes p)
turn_unread X Y s m (Fail p) = load_unread X Y p m (slice_get m.passes p)
turn_unread X Y s m (Commit p) = refl
turn_unread X Y s m (Drop p) = refl
turn_unread X Y s m (Page p n) = refl
turn_unread X Y s m Bad = refl

-- a load of a pass that loads nothing
frame_unwanted : {X : Type 0} (layout : Layout) (core : Core) (p : ℕ) (read : Option X) (pass : Pass) (m : Machine) (frame : Held) → IsCoreOf layout core → wanted core p ≡ None
    → slice_get core.passes p ≡ Some pass → pass.frame ≡ frame → load_frame p read pass m frame ≡ stays not_now m
frame_unwanted layout core p read pass m no_frame sound none there is = refl
frame_unwanted layout core p read pass m (pins f) sound none there is = refl
frame_unwanted layout core p read pass m (loads f) sound none there is =
    let want = wanted_is layout core p f pass there is sound in
    absurd (none-some want.0 (sym none ∙ want.2))

load_unwanted : {X : Type 0} (layout : Layout) (core : Core) (p : ℕ) (read : Option X) (m : Machine) (found : Option Pass) → IsCoreOf layout core → wanted core p ≡ None
    → slice_get core.passes p ≡ found → load p read m found ≡ stays not_now m
load_unwanted layout core p read m None sound none there = refl
load_unwanted layout core p read m (Some pass) sound none there = frame_unwanted layout core p read pass m pass.frame sound none there refl

turn_unwanted : (X Y : Type 0) (y : Y) (layout : Layout) (s : Scene) (m : Machine) (core : Core) (event : Event (Unit {0})) → IsCoreOf layout core → IsShown s m core → key_read core event ≡ None
    → turn s m (with_read event (unread X)) ≡ turn s m (with_read event (Some y))
turn_unwanted X Y y layout s m core (Attach p asked) sound shown none = refl
turn_unwanted X Y y layout s m core (Claim p) sound shown none = refl
turn_unwanted X Y y layout s m core (Pin p) sound shown none = refl
turn_unwanted X Y y layout s m core (Load p read) sound shown none =
    let passes : slice_get core.passes p ≡ slice_get m.passes p = ap (λ (n : Machine). slice_get n.passes p) (sym shown.same) in
    load_unwanted layout core p (unread X) m (slice_get m.passes p) sound none passes
    ∙ sym (load_unwanted layout core p (Some y) m (slice_get m.passes p) sound none passes)
turn_unwanted X Y y layout s m core (Fail p) sound shown none = load_unread X Y p m (slice_get m.passes p)
turn_unwanted X Y y layout s m core (Commit p) sound shown none = refl
turn_unwanted X Y y layout s m core (Drop p) sound shown none = refl
turn_unwanted X Y y layout s m core (Page p n) sound shown none = refl
turn_unwanted X Y y layout s m core Bad sound shown none = refl

-- ---- what is read is what a step wants

read_of : (layout : Layout) (told : Option Files) (P : ℕ → Outcome → Type 0) (key : Option ℕ) (found : Outcome) → ((k : ℕ) → IsOutcomeOf layout told k found → P k found)
    → IfSome key (λ k. IsOutcomeOf layout told k found) → IfSome key (λ k. P k found)
read_of layout told P None found of read = tt
read_of layout told P (Some k) found of read = of k read

brings_by : (layout : Layout) (told : Option Files) (P : ℕ → Outcome → Type 0) (core : Core) (event : Event (Unit {0})) (faults now : ℕ) (read : Option Outcome)
    → ((k : ℕ) (found : Outcome) → IsOutcomeOf layout told k found → P k found) → IsRead layout told (key_read core event) faults now read → Brings P core (with_read event read)
brings_by layout told P core (Attach p asked) faults now read of is = tt
brings_by layout told P core (Claim p) faults now read of is = tt
brings_by layout told P core (Pin p) faults now read of is = tt
brings_by layout told P core (Load p none) faults now None of is = tt
brings_by layout told P core (Load p none) faults now (Some found) of is = read_of layout told P (wanted core p) found (λ k. of k found) is
brings_by layout told P core (Fail p) faults now read of is = tt
brings_by layout told P core (Commit p) faults now read of is = tt
brings_by layout told P core (Drop p) faults now read of is = tt
brings_by layout told P core (Page p n) faults now read of is = tt
brings_by layout told P core Bad faults now read of is = tt

pub brings_read : (layout : Layout) (told : Option Files) (core : Core) (event : Event (Unit {0})) (faults now : ℕ) (read : Option Outcome)
    → IsRead layout told (key_read core event) faults now read → Brings (IsReadAt layout) core (with_read event read)
brings_read layout told core event faults now read is = brings_by layout told (IsReadAt layout) core event faults now read (λ k found of. of.read) is

-- whatever is read, the plan is the same
pub asks_same : (layout : Layout) (event : Event (Unit {0})) (read : Option Outcome) → AsksFor layout (with_read event None) → AsksFor layout (with_read event read)
asks_same layout (Attach p asked) read asks = asks
asks_same layout (Claim p) read asks = tt
asks_same layout (Pin p) read asks = tt
asks_same layout (Load p none) read asks = tt
asks_same layout (Fail p) read asks = tt
asks_same layout (Commit p) read asks = tt
asks_same layout (Drop p) read asks = tt
asks_same layout (Page p n) read asks = tt
asks_same layout Bad read asks = tt

-- ---- a turn

-- what a step says of its reply
abbrev pub StepSays : Layout → Event (Option Outcome) → Core → Core → Reply → Type 0
StepSays layout event old new reply = (s : Scene) (m : Machine) → s.layout ≡ layout → HasNoOrphans s → Brings (IsOfScene s) old event → IsShown s m old → IsReplied s (turn s m event) reply new

module _ (layout : Layout) (all : Files) (event : Event (Unit {0})) (faults now : ℕ) (old new : Core) (reply : Reply) (grown : faults ≤ now) (sound : IsCoreOf layout old) where
  of_scene : (k : ℕ) (found : Outcome) → IsOutcomeOf layout (Some all) k found → IsOfScene (scene_of all layout) k found
  of_scene k found is = sym is.of_scene

  taken_read : (read : Option Outcome) → IsRead layout (Some all) (key_read old event) faults now read → StepSays layout (with_read event read) old new reply
      → IsTaken (scene_of all layout) event faults now old reply new
  taken_read (Some found) is says = record {
    failed = false;
    counted = omega (arith, grown);
    replied = λ m shown. subst (λ t. IsReplied (scene_of all layout) t reply new) (turn_found (scene_of all layout) m found tt event)
        (says (scene_of all layout) m refl (files_have_none all layout) (brings_by layout (Some all) (IsOfScene (scene_of all layout)) old event faults now (Some found) of_scene is) shown);
  }
  taken_read None is says = ⊎_elim
      (λ (none : key_read old event ≡ None). record {
        failed = false;
        counted = omega (arith, grown);
        replied = λ m shown. subst (λ t. IsReplied (scene_of all layout) t reply new) (turn_unwanted Outcome (Unit {0}) tt layout (scene_of all layout) m old event sound shown none)
            (says (scene_of all layout) m refl (files_have_none all layout) (brings_by layout (Some all) (IsOfScene (scene_of all layout)) old event faults now None of_scene is) shown);
      })
      (λ (rose : Rose faults now). record {
        failed = true;
        counted = omega (arith, grown, rose);
        replied = λ m shown. subst (λ t. IsReplied (scene_of all layout) t reply new) (turn_unread Outcome (Unit {0}) (scene_of all layout) m event)
            (says (scene_of all layout) m refl (files_have_none all layout) (brings_by layout (Some all) (IsOfScene (scene_of all layout)) old event faults now None of_scene is) shown);
      })
      is

pub taken : (layout : Layout) (told : Option Files) (event : Event (Unit {0})) (faults now : ℕ) (old new : Core) (read : Option Outcome) (result : Result Reply AllocError) → faults ≤ now → IsCoreOf layout old
    → IsRead layout told (key_read old event) faults now read → IfOk result (StepSays layout (with_read event read) old new)
    → IfSome told (λ all. IfOk result (λ reply. IsTaken (scene_of all layout) event faults now old reply new))
taken layout None event faults now old new read result grown sound is says = tt
taken layout (Some all) event faults now old new read (Err e) grown sound is says = tt
taken layout (Some all) event faults now old new read (Ok reply) grown sound is says = taken_read layout all event faults now old new reply grown sound read is says
