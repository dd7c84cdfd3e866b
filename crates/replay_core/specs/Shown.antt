-- A paused walk with what its steps gave (this project's own).
use Rattle.std.specs.Prelude.{ℕ, ◌≡◌, ◌+◌, List, map, Option, None}
use Rattle.implicit_tiling.specs.Scene.{Scene}
use Rattle.std.specs.List.{All}
use Rattle.implicit_tiling.specs.Code.{tile_word, IsWord}
use Rattle.tile_coords.specs.Ends.{end_seen, EndsAtRoot}
use Rattle.tile_coords.specs.declared.walk_end.WalkEnd.{WalkEnd}
use Rattle.tile_coords.specs.declared.walk_end.WalkEnd.TheVariants.{Partial}
use Rattle.region_cursor.specs.Cursor.{Cursor, cursor_key}
use Rattle.region_cursor.specs.Walked.{IsAt}
use Rattle.replay_machine.specs.Machine.{Walk}
use Rattle.replay_machine.specs.Turns.{shown_tiles, shown_end}

-- the state of the walk, the words of the tiles of its steps, and the end of the last one
pub record Shown : Type 0 where
  pub cursor : Cursor
  pub words : List ℕ
  pub end : WalkEnd

-- a walk that goes on has a next root
abbrev pub GoesOn : WalkEnd → Option ℕ → Type 0
GoesOn end key = end ≡ Partial → key ≡ None → ⊥

-- what holds of each one: its words are those of tiles, and a fault has its root's word
pub record IsShownWalk (shown : Shown) : Type 0 where
  pub goes_on : GoesOn shown.end (cursor_key shown.cursor)
  pub are_words : All (IsWord shown.cursor.scheme) shown.words
  pub at_root : EndsAtRoot shown.cursor.scheme shown.end

-- it shows over a scene what a cursor of the replay's machine does
pub record Shows (s : Scene) (walk : Walk) (shown : Shown) : Type 0 where
  pub same_region : shown.cursor.region ≡ walk.plan.region
  pub at : IsAt s walk.plan.region walk.made shown.cursor
  pub words_are : shown.words ≡ map (tile_word s) (shown_tiles s walk)
  pub end_is : end_seen s.layout.scheme shown.end ≡ shown_end s walk

-- a cursor with one step more, whose work is given back
abbrev pub stepped : Walk → Walk
stepped walk = record walk { made = walk.made + 1; holder = None }
