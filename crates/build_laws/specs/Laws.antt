-- What follows where the files of given tiles stand (OGC 22-025r4, implicit tiling: availability; answers are this
-- project's own).
use Rattle.std.specs.Prelude.{ℕ, ◌≡◌, nat_lt, Bool, true, false, List, length, take}
use Rattle.implicit_tiling.specs.Files.{Files}
use Rattle.implicit_tiling.specs.Tile.{Tile}
use Rattle.implicit_tiling.specs.Scene.{Layout, Scene}
use Rattle.implicit_tiling.specs.Subtree.{IsSubtree, IsOf}
use Rattle.implicit_tiling.specs.Answer.{End, complete, too_many, most_tiles, answer}
use Rattle.implicit_tileset.specs.Scene.{scene_of}
use Rattle.walk_laws.specs.Regions.{whole}
use Rattle.std.specs.List.{All}
use Rattle.availability.specs.Rules.{KeepsRules}
use Rattle.tile_occupancy.specs.Occupied.{tiles_of, IsOccupancy}
use Rattle.build_laws.specs.Made.{made_subtree, made_roots}
use Rattle.build_laws.specs.Holds.{HoldsTiles, AreWordsOf, HaveMadeFiles}

-- each subtree that is made is one of the layout, and breaks no rule between its bits
pub record IsMadeWell (layout : Layout) (words : List ℕ) (r : Tile) : Type 0 where
  pub subtree : IsSubtree (made_subtree layout words r)
  pub of_layout : IsOf layout (made_subtree layout words r)
  pub rules : KeepsRules (made_subtree layout words r)

abbrev pub MadeSubtreesAreGood : Type 0
MadeSubtreesAreGood = (layout : Layout) (words : List ℕ) → AreWordsOf layout words
    → All (IsMadeWell layout words) (made_roots layout words)

-- files among which those stand that were made of some tiles hold these tiles
abbrev pub MadeFilesHoldTheTiles : Type 0
MadeFilesHoldTheTiles = (layout : Layout) (words : List ℕ) (files : Files) → AreWordsOf layout words
    → HaveMadeFiles layout words files
    → HoldsTiles (scene_of files layout) words

-- the answer for the region of all tiles is these tiles, as far as an answer goes
abbrev pub end_after : Bool → End
end_after true = too_many
end_after false = complete

abbrev pub AllTilesAreTheAnswer : Type 0
AllTilesAreTheAnswer = (s : Scene) (words : List ℕ) → IsOccupancy s.layout.scheme s.layout.levels words
    → HoldsTiles s words
    → answer s (whole s.layout.scheme s.layout.levels)
    ≡ record {
      tiles = take most_tiles (tiles_of s.layout.scheme words);
      end = end_after
          (nat_lt most_tiles (length words));
    }
