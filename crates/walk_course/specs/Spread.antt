-- Why a walk gives no more tiles than its region has room for: it gives each one once (this project's own).
use Rattle.std.specs.Prelude.{ℕ, zero, suc, ◌≡◌, ◌≢◌, ◌+◌, ◌-◌, ◌*◌, ◌/◌, ◌^◌, ◌≤◌, min, true, false, List, []}
use Rattle.std.specs.Prelude.{length, take, map, slice_index, Some}
use Rattle.std.specs.List.{All, AllPairs, Contains}
use Rattle.implicit_tiling.specs.Tile.{Tile, ancestor}
use Rattle.implicit_tiling.specs.Region.{Region, is_in}
use Rattle.implicit_tiling.specs.Answer.{most_tiles}
use Rattle.implicit_tiling.specs.Code.{word_tile}
use Rattle.implicit_tiling.specs.Subtree.{IsSubtree}
use Rattle.subtree_outcome.specs.declared.outcome.Outcome.{Outcome}
use Rattle.subtree_outcome.specs.declared.outcome.Outcome.TheVariants.{Good, Bad}
use Rattle.region_cursor.specs.Cursor.{Cursor, cursor_key, local_level_of, is_last_local}

-- how many coordinates of an axis the box has, k levels above the region's level
abbrev pub width : Region → ℕ → ℕ → ℕ
width region axis k = slice_index region.hi axis / 2 ^ k + 1 - slice_index region.lo axis / 2 ^ k

-- the places for tiles in the region, k levels above its own level, and at the first n of these levels
abbrev pub places_at : Region → ℕ → ℕ
places_at region k = width region 2 k * (width region 1 k * width region 0 k)

abbrev pub places_above : Region → ℕ → ℕ
places_above region zero = 0
places_above region (suc n) = places_above region n + places_at region n

-- at all levels
abbrev pub places : Region → ℕ
places region = places_above region (region.level + 1)

-- the most words that a walk of the region has
abbrev pub most_words : Region → ℕ
most_words region = min most_tiles (places region)

-- the tiles of words
abbrev pub tiles_of : Cursor → List ℕ → List Tile
tiles_of c words = map (word_tile c.scheme) words

abbrev pub IsOnce : List Tile → Type 0
IsOnce tiles = AllPairs (λ t u. t ≢ u) tiles

-- A walk that goes on: no root is there twice; what was given of the walk's level, and the roots that were found, stand
-- below the roots that are done
pub record HasDone (c : Cursor) (given : List Tile) : Type 0 where
  pub roots : IsOnce (tiles_of c c.roots)
  pub next_roots : IsOnce (tiles_of c c.next_roots)
  pub no_deeper : All (λ t. t.level ≤ c.level) given
  pub below : All (λ t. t.level ≡ c.level
      → Contains (take c.position (tiles_of c c.roots)) (ancestor (local_level_of c) t)) given
  pub next_below : All (λ t. Contains (take c.position (tiles_of c c.roots)) (ancestor c.subtree_levels t))
      (tiles_of c c.next_roots)
  pub none_yet : is_last_local c ≡ false → c.next_roots ≡ []

-- the tiles that were given are in the region, and each is there once
pub record IsSpread (c : Cursor) : Type 0 where
  pub given : List Tile
  pub count : length given ≡ c.count
  pub in_region : All (λ t. is_in c.region t ≡ true) given
  pub once : IsOnce given
  pub going : (key : ℕ) → cursor_key c ≡ Some key → HasDone c given

-- what was read is within the limits
abbrev pub IsLimited : Outcome → Type 0
IsLimited (Good subtree) = IsSubtree subtree
IsLimited (Bad number) = Unit {0}
