-- What runs a replay, and that it shows a state of the replay's machine (this project's own).
use Rattle.std.specs.Prelude.{ℕ, ◌≡◌, ◌-◌, ◌^◌, ◌<◌, List, [], ◌∷◌, length, map, slice_get, Option, Some, None, Ok, IfSome}
use Rattle.implicit_tiling.specs.Scene.{Layout, Scene}
use Rattle.implicit_tiling.specs.Code.{word_tile}
use Rattle.walk_laws.specs.Plans.{FitsLayout}
use Rattle.frame_pool.specs.declared.frame.FrameState.{FrameState}
use Rattle.frame_pool.specs.declared.frame.FrameState.TheVariants.{Ready}
use Rattle.frame_pool.specs.States.{state_key}
use Rattle.frame_pool.specs.Frames.{Frames}
use Rattle.tile_coords.specs.declared.walk_end.WalkEnd.TheVariants.{Partial}
use Rattle.subtree_outcome.specs.declared.outcome.Outcome.{Outcome}
use Rattle.subtree_outcome.specs.Outcomes.{outcome_seen, IsOutcomeAt}
use Rattle.region_cursor.specs.Cursor.{cursor_key, IsWalkOf}
use Rattle.replay_script.specs.declared.event.Event.{Event}
use Rattle.replay_script.specs.declared.event.Event.TheVariants.{Attach, Load}
use Rattle.replay_script.specs.declared.reply.Reply.{Reply}
use Rattle.replay_machine.specs.Machine.{Walk, Machine}
use Rattle.replay_machine.specs.declared.pass.Pass.{Pass}
use Rattle.replay_machine.specs.declared.pass.Held.{Held}
use Rattle.replay_machine.specs.declared.pass.Held.TheVariants.{Nothing as no_frame, Loads as loads, Pins as pins}
use Rattle.replay_machine.specs.Said.{Says}
use Rattle.replay_machine.specs.Turns.{Turn}
use Rattle.replay_machine.specs.Used.{IsUsed}
use Rattle.replay_core.specs.Shown.{Shows}
use Rattle.replay_core.specs.declared.state.Core.{Core}
use Rattle.replay_core.specs.declared.shared_cursor.SharedCursor.{SharedCursor}

-- ---- the state of the machine

-- the state with the frames and the passes of a core, and with these cursors
abbrev pub machine_of : Core → List Walk → Machine
machine_of core walks = record {
  census = core.frames.census;
  order = core.frames.order;
  cursors = walks;
  passes = core.passes;
}

-- a cursor shows one of the machine, of the same plan and with the same holder
pub record ShowsWalk (s : Scene) (walk : Walk) (cursor : SharedCursor) : Type 0 where
  pub same_plan : cursor.plan ≡ walk.plan
  pub same_holder : cursor.holder ≡ walk.holder
  pub shows : Shows s walk cursor.walk

-- each cursor shows that of its number, and there are as many
abbrev pub AreShown : Scene → List Walk → List SharedCursor → Type 0
AreShown s [] [] = Unit {0}
AreShown s [] (cursor ∷ cursors) = ⊥
AreShown s (walk ∷ walks) [] = ⊥
AreShown s (walk ∷ walks) (cursor ∷ cursors) = ShowsWalk s walk cursor × AreShown s walks cursors

-- P holds of key and value of each frame that is ready
abbrev pub HoldsValues : (ℕ → Outcome → Type 0) → Frames ℕ Outcome → Type 0
HoldsValues P frames = (f key pins : ℕ) (found : Outcome) → slice_get frames.census f ≡ Some (Ready key pins)
    → slice_get frames.values f ≡ Some (Some found) → P key found

-- what is read of the file of a key's root is the outcome of the scene
abbrev pub IsOfScene : Scene → ℕ → Outcome → Type 0
IsOfScene s key found = outcome_seen found ≡ s.outcome (word_tile s.layout.scheme key)

-- A core shows a state of the machine over a scene: frames and passes are the same, each cursor shows the one of its
-- number, and what stands in the frames is of the scene.
pub record IsShown (s : Scene) (m : Machine) (core : Core) : Type 0 where
  pub same : m ≡ machine_of core m.cursors
  pub shown : AreShown s m.cursors core.cursors
  pub values : HoldsValues (IsOfScene s) core.frames

-- a turn of the machine has this reply, and leaves a state that the core shows
abbrev pub IsReplied : Scene → Turn → Reply → Core → Type 0
IsReplied s turn reply core = Says s turn.said reply × IsShown s turn.after core

-- ---- what an event brings

-- the key that a frame is loading for one who loads it
abbrev pub state_wanted : Option (FrameState ℕ) → Option ℕ
state_wanted None = None
state_wanted (Some state) = state_key state

abbrev pub frame_wanted : List (FrameState ℕ) → Held → Option ℕ
frame_wanted census no_frame = None
frame_wanted census (loads f) = state_wanted (slice_get census f)
frame_wanted census (pins f) = None

abbrev pub pass_wanted : List (FrameState ℕ) → Option Pass → Option ℕ
pass_wanted census None = None
pass_wanted census (Some pass) = frame_wanted census pass.frame

-- the key of the root that a pass is loading
abbrev pub wanted : Core → ℕ → Option ℕ
wanted core p = pass_wanted core.frames.census (slice_get core.passes p)

-- what a load has read is P's of the key that the pass is loading
abbrev pub Brings : (ℕ → Outcome → Type 0) → Core → Event (Option Outcome) → Type 0
Brings P core (Load p (Some found)) = IfSome (wanted core p) (λ key. P key found)
Brings P core event = Unit {0}

-- the plan of an attach fits the layout
abbrev pub AsksFor : Layout → Event (Option Outcome) → Type 0
AsksFor layout (Attach p (Ok plan)) = FitsLayout layout plan
AsksFor layout event = Unit {0}

-- what is read of the file of a key's root, from any source
abbrev pub IsReadAt : Layout → ℕ → Outcome → Type 0
IsReadAt layout key found = IsOutcomeAt layout (word_tile layout.scheme key) found

-- ---- what holds of each core, whatever is read

-- the machine's cursor with no step
abbrev pub bare : SharedCursor → Walk
bare cursor = record { plan = cursor.plan; made = 0; holder = cursor.holder }

abbrev pub bare_machine : Core → Machine
bare_machine core = machine_of core (map bare core.cursors)

-- a pass holds the work of its cursor
pub record IsWorking (core : Core) (p : ℕ) (pass : Pass) (c : ℕ) (cursor : SharedCursor) : Type 0 where
  pub there : slice_get core.passes p ≡ Some pass
  pub number : pass.cursor ≡ Some c
  pub at : slice_get core.cursors c ≡ Some cursor
  pub held : cursor.holder ≡ Some p

-- frame f has the key
abbrev pub HasKeyAt : List (FrameState ℕ) → ℕ → Option ℕ → Type 0
HasKeyAt census f found = (state : FrameState ℕ) × (key : ℕ) × (slice_get census f ≡ Some state)
    × (state_key state ≡ Some key) × (found ≡ Some key)

-- the frame of a pass has the key
abbrev pub FrameHasKey : List (FrameState ℕ) → Held → Option ℕ → Type 0
FrameHasKey census no_frame key = Unit {0}
FrameHasKey census (loads f) key = HasKeyAt census f key
FrameHasKey census (pins f) key = HasKeyAt census f key

-- Frames are used as their states say; the frame of a pass has the key of the next root of its work; work that is held
-- goes on; each walk is one of the layout, and so is what stands in the frames.
pub record IsCoreOf (layout : Layout) (core : Core) : Type 0 where
  pub used : IsUsed (bare_machine core)
  pub keyed : (p : ℕ) (pass : Pass) (c : ℕ) (cursor : SharedCursor) → IsWorking core p pass c cursor
      → FrameHasKey core.frames.census pass.frame (cursor_key cursor.walk.cursor)
  pub going : (c : ℕ) (cursor : SharedCursor) (p : ℕ) → slice_get core.cursors c ≡ Some cursor
      → cursor.holder ≡ Some p → cursor.walk.end ≡ Partial
  pub walks : (c : ℕ) (cursor : SharedCursor) → slice_get core.cursors c ≡ Some cursor
      → IsWalkOf layout cursor.plan.region cursor.walk.cursor
  pub values : HoldsValues (IsReadAt layout) core.frames
  pub few : length core.passes < 2 ^ 32 - 1
