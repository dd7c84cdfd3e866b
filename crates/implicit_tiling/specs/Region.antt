-- A region: a level, and an inclusive box of coordinates at that level (this project's own).
use Rattle.std.specs.Prelude.{ℕ, ◌-◌, ◌/◌, ◌^◌, ◌&&◌, ◌||◌, nat_lt, nat_le, Bool, List, [], ◌∷◌, slice_index, Result}
use Rattle.std.specs.Prelude.{Ok}
use Rattle.implicit_tiling.specs.declared.Scheme.{Scheme}
use Rattle.implicit_tiling.specs.Checks.{refuse}
use Rattle.implicit_tiling.specs.Tile.{Tile}

pub record Region : Type 0 where
  pub level : ℕ
  pub lo : List ℕ
  pub hi : List ℕ

pub record Plan : Type 0 where
  pub scheme : Scheme
  pub region : Region

-- a test of some axis, or of each
abbrev pub some_axis : (ℕ → Bool) → Bool
some_axis test = test 0 || test 1 || test 2

abbrev pub each_axis : (ℕ → Bool) → Bool
each_axis test = test 0 && test 1 && test 2

abbrev pub coordinate : Tile → ℕ → ℕ
coordinate t axis = slice_index (t.x ∷ t.y ∷ t.z ∷ []) axis

-- a coordinate k levels above the region's level is in its box
abbrev pub is_within : ℕ → ℕ → ℕ → ℕ → Bool
is_within k lo hi c = nat_le (lo / 2 ^ k) c && nat_le c (hi / 2 ^ k)

-- a tile of the region's level or above it is in the region where each of its coordinates is
abbrev pub is_in : Region → Tile → Bool
is_in region t = nat_le t.level region.level
    && each_axis (λ axis. is_within (region.level - t.level) (slice_index region.lo axis) (slice_index region.hi axis)
    (coordinate t axis))

-- The region of a level and a box, or the first reason against it: 1 the level isn't below `levels`,
-- 2 a coordinate is above its partner, 3 a coordinate is 2^level or more.
abbrev pub region_of : ℕ → ℕ → List ℕ → List ℕ → Result Region ℕ
region_of levels level lo hi =
    refuse 1 (nat_le levels level)
    (refuse 2 (some_axis (λ axis. nat_lt (slice_index hi axis) (slice_index lo axis)))
    (refuse 3 (some_axis (λ axis. nat_le (2 ^ level) (slice_index hi axis)))
    (Ok (record { level = level; lo = lo; hi = hi }))))
