-- Words that are an answer for a region (this project's own).
use Rattle.std.specs.Prelude.{ℕ, ◌≡◌, List, map}
use Rattle.implicit_tiling.specs.Region.{Region}
use Rattle.implicit_tiling.specs.Scene.{Scene}
use Rattle.implicit_tiling.specs.Code.{tile_word}
use Rattle.implicit_tiling.specs.Answer.{answer}
use Rattle.implicit_tiling.specs.Steps.{ended}
use Rattle.tile_coords.specs.declared.walk_end.WalkEnd.{WalkEnd}
use Rattle.tile_coords.specs.Ends.{end_seen, end_word}

-- the words and the end are those of the answer for a region
pub record IsAnswer (s : Scene) (region : Region) (words : List ℕ) (end : WalkEnd) : Type 0 where
  pub words_are : words ≡ map (tile_word s) (answer s region).tiles
  pub end_is : end_seen s.layout.scheme end ≡ ended (answer s region).end
  pub end_by_word : end ≡ end_word s.layout.scheme (answer s region).end
