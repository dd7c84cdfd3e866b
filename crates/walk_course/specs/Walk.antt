-- A paused walk, with the number of steps made and the end of the last one (this project's own).
use Rattle.std.specs.Prelude.{ℕ, ◌≡◌, ◌+◌, ◌-◌, ◌*◌, ◌≤◌, length, Option, None, IsSome}
use Rattle.implicit_tiling.specs.Region.{Region}
use Rattle.implicit_tiling.specs.Scene.{Layout}
use Rattle.implicit_tiling.specs.Answer.{most_tiles}
use Rattle.tile_coords.specs.declared.walk_end.WalkEnd.{WalkEnd}
use Rattle.tile_coords.specs.declared.walk_end.WalkEnd.TheVariants.{Partial, Complete, TooMany, Fault}
use Rattle.subtree_outcome.specs.declared.outcome.Outcome.{Outcome}
use Rattle.subtree_outcome.specs.Outcomes.{IsOutcomeAt}
use Rattle.region_cursor.specs.Cursor.{Cursor, cursor_key, next_root, IsWalkOf}
use Rattle.walk_course.specs.Spread.{IsSpread}

pub record Walk : Type 0 where
  pub state : Cursor
  pub steps : ℕ
  pub end : WalkEnd

-- there is a next key exactly where the walk goes on
abbrev pub GoesOn : WalkEnd → Option ℕ → Type 0
GoesOn Partial key = IsSome key
GoesOn Complete key = key ≡ None
GoesOn TooMany key = key ≡ None
GoesOn (Fault root number) key = key ≡ None

-- the most roots of a level: each but the first root is a child, one of eight at most, of a tile that was given
abbrev pub most_roots : ℕ
most_roots = 8 * most_tiles

-- more steps than a walk can make: fewer than twice the most roots at each of 32 levels
abbrev pub most_steps : ℕ
most_steps = 32 * (2 * most_roots)

-- how many steps there may be still, when each level has so many roots
abbrev pub to_go : Cursor → ℕ
to_go c = (c.region.level - c.level) * (2 * most_roots) + (length c.roots - c.position)

-- what is so of each paused walk
pub record IsPaused (w : Walk) : Type 0 where
  pub goes_on : GoesOn w.end (cursor_key w.state)
  pub within : w.state.level ≤ w.state.region.level
  pub few_roots : length w.state.roots ≤ most_roots
  pub few_below : length w.state.next_roots ≤ 8 * w.state.count
  pub few_steps : w.steps + to_go w.state ≤ most_steps
  pub spread : IsSpread w.state

-- what is read, of any source, of the file of the next root, for some layout and region that it is a walk of
pub record IsReadFor (w : Walk) (found : Outcome) : Type 0 where
  pub layout : Layout
  pub region : Region
  pub of_plan : IsWalkOf layout region w.state
  pub read : IsOutcomeAt layout (next_root w.state) found
