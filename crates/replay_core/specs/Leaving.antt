-- For proofs and inner functions: how far a cursor is, and frames that are given up (this project's own).
use Rattle.std.specs.Prelude.{ℕ, ◌≡◌, ◌≢◌, List, Option, Some, None, IsSomeAnd}
use Rattle.implicit_tiling.specs.Scene.{Scene}
use Rattle.implicit_tiling.specs.Code.{word}
use Rattle.tile_coords.specs.declared.walk_end.WalkEnd.{WalkEnd}
use Rattle.tile_coords.specs.declared.walk_end.WalkEnd.TheVariants.{Partial}
use Rattle.frame_pool.specs.declared.frame.FrameState.{FrameState}
use Rattle.frame_pool.specs.Frames.{Frames, IsLoadingAt, IsPinnedAt}
use Rattle.frame_pool.specs.Moves.{after_settle, after_unpin}
use Rattle.subtree_outcome.specs.declared.outcome.Outcome.{Outcome}
use Rattle.replay_machine.specs.declared.pass.Held.{Held}
use Rattle.replay_machine.specs.declared.pass.Held.TheVariants.{Nothing as no_frame, Loads as loads, Pins as pins}
use Rattle.region_cursor.specs.Cursor.{cursor_key, IsRootKey}
use Rattle.replay_machine.specs.Machine.{Walk}
use Rattle.replay_machine.specs.Turns.{next_pair}
use Rattle.replay_core.specs.Shown.{Shows}
use Rattle.replay_core.specs.declared.shared_cursor.SharedCursor.{SharedCursor}
use Rattle.replay_core.specs.declared.claiming.Stage.{Stage}
use Rattle.replay_core.specs.declared.claiming.Stage.TheVariants.{Ended, Out, Free}

abbrev pub IsAtStage : WalkEnd → Option ℕ → Stage → Type 0
IsAtStage end holder Ended = end ≢ Partial
IsAtStage end holder Out = (end ≡ Partial) × ((q : ℕ) × (holder ≡ Some q))
IsAtStage end holder Free = (end ≡ Partial) × (holder ≡ None)

-- the frame of a pass may be given up
abbrev pub MayGiveUp : Held → List (FrameState ℕ) → Type 0
MayGiveUp no_frame census = Unit {0}
MayGiveUp (loads f) census = IsLoadingAt census f
MayGiveUp (pins f) census = IsPinnedAt census f

abbrev pub given_up_frames : Held → Frames ℕ Outcome → Frames ℕ Outcome
given_up_frames no_frame frames = frames
given_up_frames (loads f) frames = after_settle f None frames
given_up_frames (pins f) frames = after_unpin f frames

-- the key is that of the next root of a cursor, over each scene that it shows
pub record IsNextOf (key : ℕ) (cursor : SharedCursor) : Type 0 where
  pub is : cursor_key cursor.walk.cursor ≡ Some key
  pub root : IsRootKey cursor.walk.cursor key
  pub scene : (s : Scene) (walk : Walk) → Shows s walk cursor.walk
      → IsSomeAnd (next_pair s walk) (λ pair. key ≡ word s.layout.scheme pair.root 0)
