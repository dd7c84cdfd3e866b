-- The tiles of a level, split by the tiles of a level above it (this project's own).
use Rattle.std.specs.Prelude.{ℕ, ◌≡◌, ◌+◌, ◌≤◌, ◌&&◌, filter}
use Rattle.std.specs.List.{flat_map}
use Rattle.implicit_tiling.specs.declared.Scheme.{Scheme}
use Rattle.implicit_tiling.specs.Tile.{tiles_of_level}
use Rattle.implicit_tiling.specs.Region.{Region, is_in}
use Rattle.implicit_tiling.specs.Scene.{Scene}
use Rattle.implicit_tiling.specs.Availability.{is_available}
use Rattle.implicit_tiling.specs.Steps.{descendants, pair_of, walk_roots, segment}

-- the tiles k levels below level l are the descendants of the tiles of level l, in their order
abbrev pub LevelsSplit : Type 0
LevelsSplit = (scheme : Scheme) (l k : ℕ)
    → tiles_of_level scheme (l + k) ≡ flat_map (descendants scheme k) (tiles_of_level scheme l)

-- the tiles of a level that are in a region and available are those of the pairs of that level, one after another
abbrev pub SegmentsMakeALevel : Type 0
SegmentsMakeALevel = (s : Scene) (region : Region) (l : ℕ) → 1 ≤ s.layout.subtree_levels
    → filter (λ t. is_in region t && is_available s t) (tiles_of_level s.layout.scheme l) ≡ flat_map
    (λ r. segment s region (pair_of l r)) (walk_roots s region l)
