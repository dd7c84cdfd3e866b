-- For proofs and inner functions: what the calls of the cursors leave (this project's own).
use Rattle.std.specs.Prelude.{ℕ, ◌≡◌, ◌⊎◌, List, [], ◌∷◌, ◌++◌, length, position, slice_get, slice_set, Some, None}
use Rattle.implicit_tiling.specs.Region.{Plan}
use Rattle.implicit_tiling.specs.Scene.{Layout, Scene}
use Rattle.subtree_outcome.specs.Outcomes.{outcome_seen, HasNoOrphans}
use Rattle.subtree_outcome.specs.declared.outcome.Outcome.{Outcome}
use Rattle.region_cursor.specs.Cursor.{next_root, IsSameWalk, IsWalkOf}
use Rattle.replay_machine.specs.Machine.{Walk, is_same_plan}
use Rattle.replay_core.specs.Shown.{Shown, Shows, stepped}
use Rattle.replay_core.specs.declared.shared_cursor.SharedCursor.{SharedCursor}

-- One cursor has made its next step from an outcome, and its work is given back
pub record HasStepped (number : ℕ) (outcome : Outcome) (tiles : ℕ) (old new : List SharedCursor) : Type 0 where
  pub was : SharedCursor
  pub now : SharedCursor
  pub at : slice_get old number ≡ Some was
  pub after : new ≡ slice_set old number now
  pub same_plan : now.plan ≡ was.plan
  pub free : now.holder ≡ None
  pub same_walk : IsSameWalk was.walk.cursor now.walk.cursor
  pub count : tiles ≡ length now.walk.words
  pub scene : (s : Scene) (walk : Walk) → HasNoOrphans s → Shows s walk was.walk
      → outcome_seen outcome ≡ s.outcome (next_root was.walk.cursor) → Shows s (stepped walk) now.walk

-- a cursor of a plan that had none stands behind the others
pub record HasStarted (layout : Layout) (plan : Plan) (number : ℕ) (old new : List SharedCursor) : Type 0 where
  pub walk : Shown
  pub absent : position (λ cursor. is_same_plan plan cursor.plan) old ≡ None
  pub last : number ≡ length old
  pub after : new ≡ old ++ record { plan = plan; walk = walk; holder = None } ∷ []
  pub of_layout : IsWalkOf layout plan.region walk.cursor
  pub scene : (s : Scene) → s.layout ≡ layout → Shows s (record { plan = plan; made = 0; holder = None }) walk

-- the number of the cursor of a plan, which was there or is made
abbrev pub IsOfPlan : Layout → Plan → ℕ → List SharedCursor → List SharedCursor → Type 0
IsOfPlan layout plan number old new = ((position (λ cursor. is_same_plan plan cursor.plan) old ≡ Some number) × (new ≡ old))
    ⊎ HasStarted layout plan number old new
