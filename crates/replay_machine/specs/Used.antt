-- Which passes use which frames (this project's own).
use Rattle.std.specs.Prelude.{ℕ, ◌≡◌, ◌<◌, ◌==◌, ◌⊎◌, Bool, false, List, length, slice_get, Option, Some}
use Rattle.std.specs.List.{count_by}
use Rattle.implicit_tiling.specs.Scene.{Scene}
use Rattle.frame_pool.specs.declared.frame.FrameState.{FrameState}
use Rattle.frame_pool.specs.declared.frame.FrameState.TheVariants.{Empty, Loading, Ready}
use Rattle.replay_script.specs.declared.event.Event.{Event}
use Rattle.replay_machine.specs.Machine.{Walk, Held, no_frame, loads, pins, Pass, Machine, opening}
use Rattle.replay_machine.specs.Turns.{turn}

-- whether a pass has pinned frame f, or loads it
abbrev pub is_pin_of : ℕ → Held → Bool
is_pin_of f no_frame = false
is_pin_of f (loads g) = false
is_pin_of f (pins g) = g == f

abbrev pub is_load_of : ℕ → Held → Bool
is_load_of f no_frame = false
is_load_of f (loads g) = g == f
is_load_of f (pins g) = false

-- how many passes have pinned it, and how many load it
abbrev pub pinning : ℕ → List Pass → ℕ
pinning f passes = count_by (λ pass. is_pin_of f pass.frame) passes

abbrev pub loading : ℕ → List Pass → ℕ
loading f passes = count_by (λ pass. is_load_of f pass.frame) passes

-- An empty frame is used by no pass, a loading one is loaded by one, and one that is ready has as many pins as passes
-- have pinned it.
abbrev pub FitsUse : FrameState ℕ → ℕ → ℕ → Type 0
FitsUse Empty pinned loaded = (pinned ≡ 0) × (loaded ≡ 0)
FitsUse (Loading key) pinned loaded = (pinned ≡ 0) × (loaded ≡ 1)
FitsUse (Ready key n) pinned loaded = (pinned ≡ n) × (loaded ≡ 0)

abbrev pub StatesFit : List (FrameState ℕ) → List Pass → Type 0
StatesFit census passes = (f : ℕ) (state : FrameState ℕ) → slice_get census f ≡ Some state
    → FitsUse state (pinning f passes) (loading f passes)

-- the frame of a pass is one of so many
abbrev pub IsInside : ℕ → Held → Type 0
IsInside frames no_frame = Unit {0}
IsInside frames (loads f) = f < frames
IsInside frames (pins f) = f < frames

-- pass p holds the work of its cursor
pub record IsHolder (cursors : List Walk) (p : ℕ) (pass : Pass) : Type 0 where
  pub number : ℕ
  pub walk : Walk
  pub cursor : pass.cursor ≡ Some number
  pub at : slice_get cursors number ≡ Some walk
  pub held : walk.holder ≡ Some p

-- a state in which the frames are used as their states say, each by a pass that holds the work of its cursor
pub record IsUsed (m : Machine) : Type 0 where
  pub states : StatesFit m.census m.passes
  pub inside : (p : ℕ) (pass : Pass) → slice_get m.passes p ≡ Some pass → IsInside (length m.census) pass.frame
  pub working : (p : ℕ) (pass : Pass) → slice_get m.passes p ≡ Some pass
      → (pass.frame ≡ no_frame) ⊎ IsHolder m.cursors p pass

-- a replay begins with such a state, and each turn leaves one
abbrev pub OpeningIsUsed : Type 0
OpeningIsUsed = (frames passes : ℕ) → IsUsed (opening frames passes)

abbrev pub TurnsKeepUse : Type 0 → Type 0
TurnsKeepUse R = (s : Scene) (m : Machine) (event : Event (Option R)) → IsUsed m → IsUsed (turn s m event).after
