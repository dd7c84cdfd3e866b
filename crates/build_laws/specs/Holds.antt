-- That files hold given tiles: those are available and no others, with their contents (OGC 22-025r4, implicit tiling:
-- availability).
use Rattle.std.specs.Prelude.{ℕ, ◌≡◌, ◌^◌, ◌<◌, ◌↔◌, true, List, length, Some, None}
use Rattle.std.specs.List.{All, Contains}
use Rattle.implicit_tiling.specs.Files.{Files, file}
use Rattle.implicit_tiling.specs.Tile.{Tile, IsTile}
use Rattle.implicit_tiling.specs.Scene.{Layout, Scene, fault_of}
use Rattle.implicit_tiling.specs.Availability.{is_available, is_reached, mask}
use Rattle.implicit_tiling.specs.Code.{word_mask}
use Rattle.implicit_tileset.specs.Scene.{subtree_name}
use Rattle.subtree_write.specs.Canonical.{canonical}
use Rattle.tile_occupancy.specs.Occupied.{tiles_of, IsOccupancy}
use Rattle.tileset_json.specs.Limits.{IsWithinLimits}
use Rattle.build_laws.specs.Made.{tile_in, made_subtree, made_roots}

-- the tiles of the words are available, and no others; each has the contents of its word; and no file that is reached
-- has a fault
pub record HoldsTiles (s : Scene) (words : List ℕ) : Type 0 where
  pub tiles : (t : Tile) → IsTile s.layout.scheme t → (is_available s t ≡ true)
      ↔ Contains (tiles_of s.layout.scheme words) t
  pub masks : All (λ w. mask s (tile_in s.layout w) ≡ word_mask w) words
  pub no_faults : (r : Tile) → IsTile s.layout.scheme r → is_reached s r ≡ true → fault_of (s.outcome r) ≡ None

-- words that a layout has files for: whole, and no mask has a content that has no template
pub record AreWordsOf (layout : Layout) (words : List ℕ) : Type 0 where
  pub limits : IsWithinLimits layout
  pub whole : IsOccupancy layout.scheme layout.levels words
  pub masks : All (λ w. word_mask w < 2 ^ length layout.contents) words

-- the file of each root that has one stands under its name
abbrev pub HaveMadeFiles : Layout → List ℕ → Files → Type 0
HaveMadeFiles layout words files = All
    (λ r. file (subtree_name layout r) files ≡ Some (canonical (made_subtree layout words r)))
    (made_roots layout words)
