-- For proofs and inner functions: frames of the outcomes of subtree roots, by the roots' words (this project's own).
use Rattle.std.specs.Prelude.{ℕ, ◌≡◌, ◌≢◌, ◌≤◌, length, Option, Some, slice_get}
use Rattle.implicit_tiling.specs.Files.{Files}
use Rattle.implicit_tiling.specs.Scene.{Layout}
use Rattle.frame_pool.specs.declared.frame.FrameState.{FrameState}
use Rattle.frame_pool.specs.declared.frame.FrameState.TheVariants.{Empty, Loading, Ready}
use Rattle.frame_pool.specs.Frames.{Frames, EachFrame}
use Rattle.subtree_outcome.specs.declared.outcome.Outcome.{Outcome}
use Rattle.subtree_outcome.specs.Outcomes.{IsOutcomeOf}

-- a frame that nobody uses
abbrev pub IsIdle : FrameState ℕ → Type 0
IsIdle Empty = Unit {0}
IsIdle (Loading key) = ⊥
IsIdle (Ready key pins) = pins ≡ 0

-- the value of each frame is the outcome of its key
abbrev pub HoldOutcomes : Layout → Option Files → Frames ℕ Outcome → Type 0
HoldOutcomes layout told frames = (f key pins : ℕ) (found : Outcome)
    → slice_get frames.census f ≡ Some (Ready key pins) → slice_get frames.values f ≡ Some (Some found)
    → IsOutcomeOf layout told key found

-- frames between two turns
pub record AreAtRest (layout : Layout) (told : Option Files) (frames : Frames ℕ Outcome) : Type 0 where
  pub some : 1 ≤ length frames.census
  pub idle : EachFrame IsIdle frames.census
  pub outcomes : HoldOutcomes layout told frames

-- frames in a turn: frame f has the key and one pin, and nobody uses the others
pub record IsHeld (layout : Layout) (told : Option Files) (key f : ℕ) (frames : Frames ℕ Outcome) : Type 0 where
  pub some : 1 ≤ length frames.census
  pub here : slice_get frames.census f ≡ Some (Ready key 1)
  pub others : (g : ℕ) (state : FrameState ℕ) → g ≢ f → slice_get frames.census g ≡ Some state → IsIdle state
  pub outcomes : HoldOutcomes layout told frames
