-- The regions that `region_of` accepts, and the region of all tiles (this project's own).
use Rattle.std.specs.Prelude.{ℕ, ◌≡◌, ◌-◌, ◌^◌, ◌<◌, ◌≤◌, true, List, [], ◌∷◌, slice_index, Ok}
use Rattle.implicit_tiling.specs.declared.Scheme.{Scheme}
use Rattle.implicit_tiling.specs.Tile.{Tile, IsTile, depth_of}
use Rattle.implicit_tiling.specs.Region.{Region, is_in, region_of}

-- on each of the three axes the box is in order and within its level
pub record IsRegion (region : Region) : Type 0 where
  pub ordered : (axis : ℕ) → axis < 3 → slice_index region.lo axis ≤ slice_index region.hi axis
  pub fits : (axis : ℕ) → axis < 3 → slice_index region.hi axis < 2 ^ region.level

-- a region that is accepted is one, at a level below the levels in all
abbrev pub AcceptedIsARegion : Type 0
AcceptedIsARegion = (levels level : ℕ) (lo hi : List ℕ) (region : Region) → region_of levels level lo hi ≡ Ok region
    → IsRegion region × (region.level < levels)

-- the greatest coordinate of the last level
abbrev pub last_coordinate : ℕ → ℕ
last_coordinate levels = 2 ^ (levels - 1) - 1

-- the region of the last level and its whole box
abbrev pub whole : Scheme → ℕ → Region
whole scheme levels = record {
  level = levels - 1;
  lo = 0 ∷ 0 ∷ 0 ∷ [];
  hi = last_coordinate levels ∷ last_coordinate levels ∷ depth_of scheme (last_coordinate levels) ∷ [];
}

abbrev pub WholeIsARegion : Type 0
WholeIsARegion = (scheme : Scheme) (levels : ℕ) → IsRegion (whole scheme levels)

-- it has every tile of the levels in all
abbrev pub WholeHasEachTile : Type 0
WholeHasEachTile = (scheme : Scheme) (levels : ℕ) (t : Tile) → IsTile scheme t → t.level < levels
    → is_in (whole scheme levels) t ≡ true
