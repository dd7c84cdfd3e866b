-- For proofs and inner functions: how far a walk has come, by the steps of the scene (this project's own).
use Rattle.std.specs.Prelude.{ℕ, ◌≡◌, List, take, map, Option}
use Rattle.std.specs.List.{flat_map}
use Rattle.implicit_tiling.specs.Region.{Region}
use Rattle.implicit_tiling.specs.Tile.{Tile}
use Rattle.implicit_tiling.specs.Scene.{Scene}
use Rattle.implicit_tiling.specs.Steps.{partial, Step, steps}
use Rattle.walk_laws.specs.Stepped.{last_end}
use Rattle.tile_coords.specs.Ends.{end_seen}
use Rattle.tile_coords.specs.declared.walk_end.WalkEnd.{WalkEnd}
use Rattle.region_cursor.specs.Cursor.{Cursor}
use Rattle.implicit_tiling.specs.Code.{tile_word}
use Rattle.region_cursor.specs.Walked.{IsAt, IsNextKey}

-- the tiles of the first steps
abbrev pub tiles_of_steps : List Step → List Tile
tiles_of_steps done = flat_map (λ step. step.tiles) done

-- some steps are made: the words are those of their tiles, and the end is that of the last one
pub record HasWalked (s : Scene) (region : Region) (c : Cursor) (next : Option ℕ) (words : List ℕ)
    (end : WalkEnd) : Type 0 where
  pub made : ℕ
  pub at : IsAt s region made c
  pub next_is : IsNextKey s region made next
  pub words_are : words ≡ map (tile_word s) (tiles_of_steps (take made (steps s region)))
  pub end_is : end_seen s.layout.scheme end ≡ last_end partial (take made (steps s region))
