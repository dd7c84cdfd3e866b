-- What a caller that reads the files of a layout knows of a walk (this project's own).
use Rattle.std.specs.Prelude.{ℕ, ◌≡◌, List, Some}
use Rattle.std.specs.List.{All}
use Rattle.implicit_tiling.specs.Region.{Region}
use Rattle.implicit_tiling.specs.Scene.{Layout}
use Rattle.implicit_tiling.specs.Code.{word_tile}
use Rattle.implicit_tiling.specs.Tile.{Tile}
use Rattle.region_cursor.specs.Cursor.{Cursor, IsWalkOf, IsSameWalk, IsRootKey, Fits, EndsAtKey, cursor_key, next_root}
use Rattle.implicit_tiling.specs.Availability.{IsRootOf}
use Rattle.tile_coords.specs.declared.walk_end.WalkEnd.{WalkEnd}
use Rattle.subtree_outcome.specs.Outcomes.{IsOutcomeAt}
use Rattle.subtree_outcome.specs.Found.{IsTileWord, AreTileWords, EndsWithin}
use Rattle.subtree_outcome.specs.declared.outcome.Outcome.{Outcome}

abbrev pub WalksStay : Type 0
WalksStay = (layout : Layout) (region : Region) (old new : Cursor) → IsWalkOf layout region old → IsSameWalk old new
    → IsWalkOf layout region new

abbrev pub NextRootIsOfTheKey : Type 0
NextRootIsOfTheKey = (c : Cursor) (key : ℕ) → cursor_key c ≡ Some key → next_root c ≡ word_tile c.scheme key

abbrev pub OutcomesFit : Type 0
OutcomesFit = (layout : Layout) (region : Region) (c : Cursor) (key : ℕ) (found : Outcome) → IsWalkOf layout region c
    → cursor_key c ≡ Some key → IsRootKey c key
    → IsOutcomeAt layout (word_tile layout.scheme key) found → Fits c found

abbrev pub WordsAreOfTheLayout : Type 0
WordsAreOfTheLayout = (layout : Layout) (region : Region) (c : Cursor) (words : List ℕ) → IsWalkOf layout region c
    → All (IsTileWord c.scheme c.levels c.contents) words → AreTileWords layout words

abbrev pub EndsAreWithinTheLayout : Type 0
EndsAreWithinTheLayout = (layout : Layout) (region : Region) (c : Cursor) (root : Tile) (found : Outcome)
    (end : WalkEnd) → IsWalkOf layout region c → IsOutcomeAt layout root found → EndsAtKey c found end
    → EndsWithin layout end

abbrev pub NextKeysAreOfRootTiles : Type 0
NextKeysAreOfRootTiles = (layout : Layout) (region : Region) (c : Cursor) (key : ℕ) → IsWalkOf layout region c
    → IsRootKey c key
    → IsRootOf layout (word_tile layout.scheme key)
