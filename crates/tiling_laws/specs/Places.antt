-- The places of tiles among the bits of their subtree (OGC 22-025r4, implicit tiling: availability, tile availability).
use Rattle.std.specs.Prelude.{ℕ, ◌≡◌, ◌≤◌, ◌<◌, ◌+◌, ◌*◌}
use Rattle.implicit_tiling.specs.Tile.{Tile, IsTile, branching, child}
use Rattle.implicit_tiling.specs.Scene.{Layout}
use Rattle.implicit_tiling.specs.Availability.{local_level, subtree_root, nodes_above, place}

-- a place is below the number of a subtree's nodes
abbrev pub PlaceIsBelow : Type 0
PlaceIsBelow = (layout : Layout) (t : Tile) → 1 ≤ layout.subtree_levels
    → place layout t < nodes_above layout.scheme layout.subtree_levels

-- in one subtree the children of the node at place p stand at the places N * p + 1 to N * p + N
abbrev pub ChildPlace : Type 0
ChildPlace = (layout : Layout) (t : Tile) (n : ℕ) → n < branching layout.scheme
    → local_level layout t + 1 < layout.subtree_levels
    → place layout (child t n) ≡ branching layout.scheme * place layout t + 1 + n

-- tiles of one subtree at one place are one tile
abbrev pub OnePlaceOneTile : Type 0
OnePlaceOneTile = (layout : Layout) (t u : Tile) → IsTile layout.scheme t → IsTile layout.scheme u
    → subtree_root layout t ≡ subtree_root layout u
    → place layout t ≡ place layout u → t ≡ u
