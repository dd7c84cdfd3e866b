-- The state of a replay: frames, cursors and passes (this project's own).
use Rattle.std.specs.Prelude.{ℕ, ◌==◌, ◌&&◌, Bool, true, false, List, [], replicate, slice_get, Option, Some, None}
use Rattle.std.specs.List.{range_with_len}
use Rattle.std.specs.Str.{bytes_eq}
use Rattle.implicit_tiling.specs.declared.Scheme.{Scheme}
use Rattle.implicit_tiling.specs.declared.Scheme.TheVariants.{Quad, Oct}
use Rattle.implicit_tiling.specs.Region.{Region, Plan}
use Rattle.frame_pool.specs.declared.frame.FrameState.{FrameState}
use Rattle.frame_pool.specs.declared.frame.FrameState.TheVariants.{Empty}
-- the frame of a pass: none, one that it loads, or one that it has pinned
pub use Rattle.replay_machine.specs.declared.pass.Held.{Held}
pub use Rattle.replay_machine.specs.declared.pass.Held.TheVariants.{Nothing as no_frame, Loads as loads, Pins as pins}
-- a pass: its cursor by its number, the place in the answer of the tile that it reads next, and its frame
pub use Rattle.replay_machine.specs.declared.pass.Pass.{Pass}

-- A cursor: its plan, how many steps are made, and the pass that holds its work, if one does. It has no words, no roots
-- and no subtree.
pub record Walk : Type 0 where
  pub plan : Plan
  pub made : ℕ
  pub holder : Option ℕ

-- the state of each frame, the numbers of the frames, the last asked first, the cursors and the passes
pub record Machine : Type 0 where
  pub census : List (FrameState ℕ)
  pub order : List ℕ
  pub cursors : List Walk
  pub passes : List Pass

-- so many empty frames and passes without a cursor
abbrev pub opening : ℕ → ℕ → Machine
opening frames passes = record {
  census = replicate frames Empty;
  order = range_with_len 0 frames;
  cursors = [];
  passes = replicate passes (record { cursor = None; place = 0; frame = no_frame });
}

-- ---- equal plans

abbrev pub is_same_scheme : Scheme → Scheme → Bool
is_same_scheme Quad Quad = true
is_same_scheme Oct Oct = true
is_same_scheme one other = false

abbrev pub is_same_region : Region → Region → Bool
is_same_region one other = (one.level == other.level) && bytes_eq one.lo other.lo && bytes_eq one.hi other.hi

abbrev pub is_same_plan : Plan → Plan → Bool
is_same_plan one other = is_same_scheme one.scheme other.scheme && is_same_region one.region other.region

-- ---- where a pass stands: there is none of its number, it has no cursor, or it has the cursor of a number and doesn't
-- hold its work, or holds it

pub data Standing : Type 0 where
  absent : Standing
  idle : Pass → Standing
  reads : Pass → ℕ → Walk → Standing
  works : Pass → ℕ → Walk → Standing

abbrev pub is_held_by : ℕ → Option ℕ → Bool
is_held_by p None = false
is_held_by p (Some q) = p == q

abbrev pub by_holding : Bool → Pass → ℕ → Walk → Standing
by_holding true pass c walk = works pass c walk
by_holding false pass c walk = reads pass c walk

abbrev pub by_walk : ℕ → Pass → ℕ → Option Walk → Standing
by_walk p pass c None = idle pass
by_walk p pass c (Some walk) = by_holding (is_held_by p walk.holder) pass c walk

abbrev pub by_cursor : List Walk → ℕ → Pass → Option ℕ → Standing
by_cursor cursors p pass None = idle pass
by_cursor cursors p pass (Some c) = by_walk p pass c (slice_get cursors c)

abbrev pub by_pass : List Walk → ℕ → Option Pass → Standing
by_pass cursors p None = absent
by_pass cursors p (Some pass) = by_cursor cursors p pass pass.cursor

abbrev pub standing : Machine → ℕ → Standing
standing m p = by_pass m.cursors p (slice_get m.passes p)
