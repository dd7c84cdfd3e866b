-- The walk of a region cut into steps: one local level of one subtree on the walk each (this project's own).
use Rattle.std.specs.Prelude.{ℕ, ◌+◌, ◌-◌, ◌*◌, ◌%◌, ◌^◌, ◌&&◌, ◌==◌, nat_lt, Bool, true, false, List, [], ◌∷◌}
use Rattle.std.specs.Prelude.{length, take, map, filter, Option, Some, None}
use Rattle.std.specs.List.{flat_map, range_with_len}
use Rattle.implicit_tiling.specs.declared.Scheme.{Scheme}
use Rattle.implicit_tiling.specs.Tile.{Tile, branching, index, tile_at, tiles_of_level}
use Rattle.implicit_tiling.specs.Region.{Region, is_in}
use Rattle.implicit_tiling.specs.Scene.{Layout, Scene, fault_of}
use Rattle.implicit_tiling.specs.Availability.{is_available}
use Rattle.implicit_tiling.specs.Answer.{End, complete, too_many, fault, is_on_walk, most_tiles}

-- a level, and a subtree root on the walk whose subtree has that level
pub record Pair : Type 0 where
  pub level : ℕ
  pub root : Tile

-- the level of the subtree roots whose subtrees have a level
abbrev pub root_level : Layout → ℕ → ℕ
root_level layout l = l - l % layout.subtree_levels

-- the roots on the walk whose subtrees have a level, in key order
abbrev pub walk_roots : Scene → Region → ℕ → List Tile
walk_roots s region l = filter (is_on_walk s region) (tiles_of_level s.layout.scheme (root_level s.layout l))

-- all pairs, ordered by level, then by the key of the root
abbrev pub pair_of : ℕ → Tile → Pair
pair_of l r = record { level = l; root = r }

abbrev pub pairs : Scene → Region → List Pair
pairs s region = flat_map (λ l. map (pair_of l) (walk_roots s region l)) (range_with_len 0 (region.level + 1))

-- the tiles k levels below a tile, in key order
abbrev pub descendants : Scheme → ℕ → Tile → List Tile
descendants scheme k r = map (tile_at scheme (r.level + k)) (range_with_len (index scheme r * branching scheme ^ k)
    (branching scheme ^ k))

-- the tiles of a pair: those of its level in its root's subtree that are in the region and available
abbrev pub segment : Scene → Region → Pair → List Tile
segment s region p = filter
    (λ t. is_in region t && is_available s t) (descendants s.layout.scheme (p.level - p.root.level) p.root)

-- how the walk stands after a step: it goes on, or has ended
pub data StepEnd : Type 0 where
  partial : StepEnd
  ended : End → StepEnd

pub record Step : Type 0 where
  pub tiles : List Tile
  pub end : StepEnd

abbrev pub last_or_not : {X : Type 0} → List X → StepEnd
last_or_not [] = ended complete
last_or_not (x ∷ xs) = partial

-- the fault of a pair's root, where the pair has the root's own level
abbrev pub fault_at_start : Bool → Option ℕ → Option ℕ
fault_at_start true found = found
fault_at_start false found = None

abbrev pub pair_fault : Scene → Pair → Option ℕ
pair_fault s p = fault_at_start (p.level == p.root.level) (fault_of (s.outcome p.root))

-- One step after n tiles: of a root, its fault if it has one, whether its tiles are too many, its tiles, how the walk
-- then stands, and the steps that follow. They stop at a fault, and where more tiles come than an answer holds.
abbrev pub step_then : Tile → Option ℕ → Bool → ℕ → List Tile → StepEnd → List Step → List Step
step_then root (Some k) cut n tiles end rest = record { tiles = []; end = ended (fault root k) } ∷ []
step_then root None true n tiles end rest = record { tiles = take (most_tiles - n) tiles; end = ended too_many } ∷ []
step_then root None false n tiles end rest = record { tiles = tiles; end = end } ∷ rest

-- the steps of some pairs after n tiles
abbrev pub steps_from : Scene → Region → ℕ → List Pair → List Step
steps_from s region n [] = []
steps_from s region n (p ∷ ps) = let tiles = segment s region p in
    step_then p.root (pair_fault s p) (nat_lt most_tiles (n + length tiles)) n tiles (last_or_not ps)
    (steps_from s region (n + length tiles) ps)

abbrev pub steps : Scene → Region → List Step
steps s region = steps_from s region 0 (pairs s region)
