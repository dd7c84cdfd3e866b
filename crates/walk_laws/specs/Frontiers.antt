-- The roots that are reached, found level by level as a walk of the whole region (this project's own).
use Rattle.std.specs.Prelude.{ℕ, ◌≡◌, ◌+◌, ◌-◌, ◌%◌, ◌<◌, ◌≤◌, true, false, List, [], ◌∷◌, ◌++◌, length, filter}
use Rattle.std.specs.List.{flat_map, filter_map, range_with_len}
use Rattle.implicit_tiling.specs.Tile.{Tile, IsTile, tiles_of_level}
use Rattle.implicit_tiling.specs.Region.{Region}
use Rattle.implicit_tiling.specs.Scene.{Scene}
use Rattle.implicit_tiling.specs.Availability.{is_reached}
use Rattle.implicit_tiling.specs.Answer.{is_on_walk, fault_at}
use Rattle.implicit_tiling.specs.Checked.{most_roots, reached_roots, checked}
use Rattle.implicit_tiling.specs.Steps.{walk_roots}
use Rattle.walk_laws.specs.Regions.{whole}

-- the region of all tiles of a scene
abbrev pub whole_of : Scene → Region
whole_of s = whole s.layout.scheme s.layout.levels

-- the roots that are reached above a level, in key order
abbrev pub reached_above : Scene → ℕ → List Tile
reached_above s l = filter (is_reached s) (flat_map (tiles_of_level s.layout.scheme) (range_with_len 0 l))

-- and those that are reached at a level
abbrev pub reached_at : Scene → ℕ → List Tile
reached_at s l = filter (is_reached s) (tiles_of_level s.layout.scheme l)

-- a root is reached where it is on the walk of the whole region
abbrev pub ReachedIsOnTheWholeWalk : Type 0
ReachedIsOnTheWholeWalk = (s : Scene) (t : Tile) → IsTile s.layout.scheme t
    → is_on_walk s (whole_of s) t ≡ is_reached s t

-- one subtree more brings the roots of one level more
abbrev pub ReachedGoDown : Type 0
ReachedGoDown = (s : Scene) (l : ℕ) → 1 ≤ s.layout.subtree_levels → l % s.layout.subtree_levels ≡ 0
    → reached_above s (l + s.layout.subtree_levels) ≡ reached_above s l ++ walk_roots s (whole_of s) l

-- above a level that isn't below the levels in all, they are all that are reached
abbrev pub ReachedAreAll : Type 0
ReachedAreAll = (s : Scene) (l : ℕ) → 1 ≤ s.layout.levels → s.layout.levels ≤ l → reached_above s l ≡ reached_roots s

-- and so they are above a level that has none
abbrev pub ReachedEnd : Type 0
ReachedEnd = (s : Scene) (l : ℕ) → 1 ≤ s.layout.subtree_levels → 1 ≤ s.layout.levels → l % s.layout.subtree_levels ≡ 0
    → walk_roots s (whole_of s) l ≡ [] → reached_above s l ≡ reached_roots s

-- on any walk no roots follow a level of roots that has none
abbrev pub RootsEnd : Type 0
RootsEnd = (s : Scene) (region : Region) (l m : ℕ) → 1 ≤ s.layout.subtree_levels → l % s.layout.subtree_levels ≡ 0
    → l ≤ m
    → walk_roots s region l ≡ [] → walk_roots s region m ≡ []

-- a root of a level in the midst of all that are reached
abbrev pub ReachedAtARoot : Type 0
ReachedAtARoot = (s : Scene) (l : ℕ) (before : List Tile) (r : Tile) (after : List Tile)
    → l % s.layout.subtree_levels ≡ 0 → l < s.layout.levels
    → walk_roots s (whole_of s) l ≡ before ++ r ∷ after
    → reached_roots s ≡ (reached_above s l ++ before)
    ++ r ∷ (after ++ flat_map (reached_at s) (range_with_len (l + 1) (s.layout.levels - (l + 1))))

-- a check of all roots, and one that stops before another root
abbrev pub CheckedIsAll : Type 0
CheckedIsAll = (s : Scene) → length (reached_roots s) ≤ most_roots
    → checked s ≡ record { looked = reached_roots s; faults = filter_map (fault_at s) (reached_roots s); more = false }

abbrev pub CheckedIsCut : Type 0
CheckedIsCut = (s : Scene) (done : List Tile) (r : Tile) (rest : List Tile) → reached_roots s ≡ done ++ r ∷ rest
    → length done ≡ most_roots
    → checked s ≡ record { looked = done; faults = filter_map (fault_at s) done; more = true }
