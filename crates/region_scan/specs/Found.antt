-- Which levels have nodes in a region at all, which child roots there are, and lists that go on (this project's own).
use Rattle.std.specs.Prelude.{ℕ, ◌≡◌, ◌+◌, ◌-◌, ◌*◌, ◌/◌, ◌^◌, ◌++◌, ◌&&◌, nat_le, Bool, List}
use Rattle.implicit_tiling.specs.Tile.{branching, index}
use Rattle.implicit_tiling.specs.Region.{Region}
use Rattle.implicit_tiling.specs.Subtree.{Subtree, is_kept, has_tile, has_child}

-- the nodes of the local level are below the levels in all, and not below the region's level
abbrev pub is_looked_at : Subtree → ℕ → Region → Bool
is_looked_at s l region = is_kept s l && nat_le (s.root.level + l) region.level

-- the index of the first node of a local level among the tiles of its level
abbrev pub first_index : Subtree → ℕ → ℕ
first_index s l = index s.scheme s.root * branching s.scheme ^ l

-- a child root whose child bit is 1 and whose parent is there
abbrev pub is_child : Subtree → ℕ → Bool
is_child s m = has_child s m && has_tile s (s.levels - 1) (m / branching s.scheme)

-- a list begins with another one
abbrev pub Extends : {X : Type 0} → List X → List X → Type 0
Extends {X} old new = (more : List X) × (new ≡ old ++ more)
