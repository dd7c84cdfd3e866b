-- Which tiles exist, and which contents stand on them (OGC 22-025r4, implicit tiling: availability, tile
-- availability, content availability, child subtree availability).
use Rattle.std.specs.Prelude.{ℕ, zero, suc, ◌≡◌, ◌<◌, ◌+◌, ◌-◌, ◌/◌, ◌%◌, ◌^◌, ◌&&◌, ◌||◌, ◌==◌, nat_lt, not, Bool}
use Rattle.std.specs.Prelude.{true, List, [], ◌∷◌, if◌then◌else◌}
use Rattle.implicit_tiling.specs.declared.Scheme.{Scheme}
use Rattle.implicit_tiling.specs.Tile.{Tile, IsTile, branching, ancestor, parent, index}
use Rattle.implicit_tiling.specs.Scene.{Layout, Scene, tile_bit_of, child_bit_of, content_bits_of}

-- a tile's level within its subtree, and the subtree's root
abbrev pub local_level : Layout → Tile → ℕ
local_level layout t = t.level % layout.subtree_levels

abbrev pub subtree_root : Layout → Tile → Tile
subtree_root layout t = ancestor (local_level layout t) t

abbrev pub is_subtree_root : Layout → Tile → Bool
is_subtree_root layout t = local_level layout t == 0

-- a tile of the layout with which a subtree may begin
pub record IsRootOf (layout : Layout) (r : Tile) : Type 0 where
  pub is_tile : IsTile layout.scheme r
  pub within : r.level < layout.levels
  pub at_start : is_subtree_root layout r ≡ true

-- the nodes of a subtree above a local level
abbrev pub nodes_above : Scheme → ℕ → ℕ
nodes_above scheme l = (branching scheme ^ l - 1) / (branching scheme - 1)

-- the place of a tile among its subtree's bits: the nodes above its local level, then its index within that level
abbrev pub place : Layout → Tile → ℕ
place layout t = let l = local_level layout t in nodes_above layout.scheme l + index layout.scheme t % branching
    layout.scheme ^ l

-- the tile's own bit, where its subtree's file has no fault; a bit at a level from `levels` on counts as 0
abbrev pub tile_bit : Scene → Tile → Bool
tile_bit s t = nat_lt t.level s.layout.levels && tile_bit_of (s.outcome (subtree_root s.layout t)) (place s.layout t)

-- the child bit of a subtree root below another one, in the subtree of its parent; likewise
abbrev pub child_bit : Scene → Tile → Bool
child_bit s r = nat_lt r.level s.layout.levels
    && child_bit_of (s.outcome (subtree_root s.layout (parent r)))
    (index s.layout.scheme r % branching s.layout.scheme ^ s.layout.subtree_levels)

-- A tile is available where its bit is 1, and it is the root tile or its parent is available; a subtree root below
-- the root also needs its child bit. By the number of the tile's level.
abbrev pub available_at : Scene → ℕ → Tile → Bool
available_at s zero t = tile_bit s t
available_at s (suc n) t = available_at s n (parent t) && (not (is_subtree_root s.layout t) || child_bit s t)
    && tile_bit s t

abbrev pub is_available : Scene → Tile → Bool
is_available s t = available_at s t.level t

-- a subtree root is reached where it is the root tile, or its parent is available and its child bit is 1
abbrev pub is_reached : Scene → Tile → Bool
is_reached s r = is_subtree_root s.layout r && nat_lt r.level s.layout.levels
    && (r.level == 0 || (is_available s (parent r) && child_bit s r))

-- the contents of an available tile, one bit each: 2^c where there is a template c, an availability c, and its bit is 1
abbrev pub content_bit : Scene → Tile → ℕ → (ℕ → Bool) → ℕ
content_bit s t c bits = if bits (place s.layout t) then 2 ^ c else 0

abbrev pub mask_from : Scene → Tile → ℕ → List (List ℕ) → List (ℕ → Bool) → ℕ
mask_from s t c [] bits = 0
mask_from s t c (template ∷ templates) [] = 0
mask_from s t c (template ∷ templates) (b ∷ bits) = content_bit s t c b + mask_from s t (c + 1) templates bits

abbrev pub mask : Scene → Tile → ℕ
mask s t = mask_from s t 0 s.layout.contents (content_bits_of (s.outcome (subtree_root s.layout t)))
