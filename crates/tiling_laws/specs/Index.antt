-- Laws of the Morton index (OGC 22-025r4, implicit tiling: Morton index).
use Rattle.std.specs.Prelude.{ℕ, ◌≡◌, ◌≤◌, ◌<◌, ◌+◌, ◌*◌, ◌/◌, ◌^◌, ◌↔◌}
use Rattle.implicit_tiling.specs.declared.Scheme.{Scheme}
use Rattle.implicit_tiling.specs.Tile.{Tile, IsTile, branching, child, ancestor, index, interleaved, tile_at}

-- for numbers below 2^k the places from k on add nothing
abbrev pub FurtherPlacesAddNothing : Type 0
FurtherPlacesAddNothing = (scheme : Scheme) (k places x y z : ℕ) → x < 2 ^ k → y < 2 ^ k → z < 2 ^ k → k ≤ places
    → interleaved scheme places x y z ≡ interleaved scheme k x y z

-- the index of a child is N times its parent's, plus the child's number
abbrev pub ChildIndex : Type 0
ChildIndex = (scheme : Scheme) (t : Tile) (n : ℕ) → n < branching scheme
    → index scheme (child t n) ≡ branching scheme * index scheme t + n

-- the index of a tile is below N^level
abbrev pub IndexIsBelow : Type 0
IndexIsBelow = (scheme : Scheme) (t : Tile) → index scheme t < branching scheme ^ t.level

-- each number below N^level is the index of a tile of that level
abbrev pub EachIndexHasATile : Type 0
EachIndexHasATile = (scheme : Scheme) (level i : ℕ) → i < branching scheme ^ level
    → IsTile scheme (tile_at scheme level i) × ((tile_at scheme level i).level ≡ level)
    × (index scheme (tile_at scheme level i) ≡ i)

-- and that tile is found again from its level and index
abbrev pub TileIsAtItsIndex : Type 0
TileIsAtItsIndex = (scheme : Scheme) (t : Tile) → IsTile scheme t → tile_at scheme t.level (index scheme t) ≡ t

-- tiles of one level with one index are one tile
abbrev pub OneIndexOneTile : Type 0
OneIndexOneTile = (scheme : Scheme) (t u : Tile) → IsTile scheme t → IsTile scheme u → t.level ≡ u.level
    → index scheme t ≡ index scheme u → t ≡ u

-- the index of the ancestor k levels above
abbrev pub AncestorIndex : Type 0
AncestorIndex = (scheme : Scheme) (k : ℕ) (t : Tile) → k ≤ t.level
    → index scheme (ancestor k t) ≡ index scheme t / branching scheme ^ k

-- the descendants of a tile of index i, k levels below it, are the tiles there of index i * N^k to (i + 1) * N^k - 1
abbrev pub DescendantsAreARun : Type 0
DescendantsAreARun = (scheme : Scheme) (k : ℕ) (t u : Tile) → IsTile scheme t → IsTile scheme u → t.level ≡ u.level + k
    → (ancestor k t ≡ u) ↔ ((index scheme u * branching scheme ^ k ≤ index scheme t)
    × (index scheme t < (index scheme u + 1) * branching scheme ^ k))
