-- Tiles, their Morton indices and their order (OGC 22-025r4, implicit tiling: subdivision scheme, tile coordinates,
-- Morton index).
use Rattle.std.specs.Prelude.{ℕ, zero, suc, ◌≡◌, ◌+◌, ◌-◌, ◌*◌, ◌/◌, ◌%◌, ◌^◌, ◌<◌, ◌&&◌, ◌||◌, ◌==◌, nat_lt, Bool}
use Rattle.std.specs.Prelude.{true, List, map, sum}
use Rattle.std.specs.List.{range_with_len, flat_map, AllPairs}
use Rattle.implicit_tiling.specs.declared.Scheme.{Scheme}
use Rattle.implicit_tiling.specs.declared.Scheme.TheVariants.{Quad, Oct}

pub record Tile : Type 0 where
  pub level : ℕ
  pub x : ℕ
  pub y : ℕ
  pub z : ℕ

-- the axes that a scheme divides
abbrev pub axes : Scheme → ℕ
axes Quad = 2
axes Oct = 3

-- N, the number of a tile's children
abbrev pub branching : Scheme → ℕ
branching Quad = 4
branching Oct = 8

-- the third coordinate, as far as the scheme has one
abbrev pub depth_of : Scheme → ℕ → ℕ
depth_of Quad z = 0
depth_of Oct z = z

-- each coordinate is below 2^level, and a quadtree has no z
pub record IsTile (scheme : Scheme) (t : Tile) : Type 0 where
  pub x_fits : t.x < 2 ^ t.level
  pub y_fits : t.y < 2 ^ t.level
  pub z_fits : t.z < 2 ^ t.level
  pub flat : t.z ≡ depth_of scheme t.z

abbrev pub root : Tile
root = record { level = 0; x = 0; y = 0; z = 0 }

-- the tile k levels above
abbrev pub ancestor : ℕ → Tile → Tile
ancestor k t = record { level = t.level - k; x = t.x / 2 ^ k; y = t.y / 2 ^ k; z = t.z / 2 ^ k }

abbrev pub parent : Tile → Tile
parent t = ancestor 1 t

-- the child of a number below N: x goes by its lowest bit, y by the next, z by the third
abbrev pub child : Tile → ℕ → Tile
child t n = record { level = t.level + 1; x = 2 * t.x + n % 2; y = 2 * t.y + n / 2 % 2; z = 2 * t.z + n / 4 % 2 }

-- bit j of a number
abbrev pub bit : ℕ → ℕ → ℕ
bit j n = n / 2 ^ j % 2

-- what stands at place j, in base N: bit j of x, of y and of z, with x lowest
abbrev pub place_of : Scheme → ℕ → ℕ → ℕ → ℕ → ℕ
place_of scheme x y z j = bit j x + 2 * bit j y + 4 * depth_of scheme (bit j z)

-- the first places of three numbers, put together
abbrev pub interleaved : Scheme → ℕ → ℕ → ℕ → ℕ → ℕ
interleaved scheme places x y z = sum (map
    (λ j. branching scheme ^ j * place_of scheme x y z j) (range_with_len 0 places))

-- the Morton index of a tile within its level
abbrev pub index : Scheme → Tile → ℕ
index scheme t = interleaved scheme t.level t.x t.y t.z

-- keys are ordered by level, then by index
abbrev pub is_key_below : Scheme → Tile → Tile → Bool
is_key_below scheme t u = nat_lt t.level u.level || (t.level == u.level && nat_lt (index scheme t) (index scheme u))

-- along the list each key is below those of all later tiles
abbrev pub IsInKeyOrder : Scheme → List Tile → Type 0
IsInKeyOrder scheme tiles = AllPairs (λ t u. is_key_below scheme t u ≡ true) tiles

-- the tile of a level with this index
abbrev pub tile_at : Scheme → ℕ → ℕ → Tile
tile_at scheme zero i = root
tile_at scheme (suc level) i = child (tile_at scheme level (i / branching scheme)) (i % branching scheme)

-- all tiles of a level, and of the levels 0 to last, in key order
abbrev pub tiles_of_level : Scheme → ℕ → List Tile
tiles_of_level scheme level = map (tile_at scheme level) (range_with_len 0 (branching scheme ^ level))

abbrev pub all_tiles : Scheme → ℕ → List Tile
all_tiles scheme last = flat_map (tiles_of_level scheme) (range_with_len 0 (last + 1))
