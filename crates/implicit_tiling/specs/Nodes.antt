-- The nodes of a decoded subtree that are in a region, in key order (OGC 22-025r4, implicit tiling: availability;
-- regions are this project's own).
use Rattle.std.specs.Prelude.{ℕ, ◌+◌, ◌-◌, ◌*◌, ◌/◌, ◌^◌, ◌&&◌, Bool, List, map, filter}
use Rattle.std.specs.List.{range_with_len}
use Rattle.implicit_tiling.specs.Tile.{Tile, branching, index, tile_at}
use Rattle.implicit_tiling.specs.Region.{Region, is_in}
use Rattle.implicit_tiling.specs.Code.{word}
use Rattle.implicit_tiling.specs.Subtree.{Subtree, has_tile, has_child, contents_mask}

-- the tile of the node of local level l and local index m
abbrev pub node_at : Subtree → ℕ → ℕ → Tile
node_at s l m = tile_at s.scheme (s.root.level + l) (index s.scheme s.root * branching s.scheme ^ l + m)

-- the local indices of a level
abbrev pub indices : Subtree → ℕ → List ℕ
indices s l = range_with_len 0 (branching s.scheme ^ l)

-- the nodes of a local level that are there and in the region
abbrev pub is_tile_in : Subtree → Region → ℕ → ℕ → Bool
is_tile_in s region l m = has_tile s l m && is_in region (node_at s l m)

abbrev pub tiles_in : Subtree → Region → ℕ → List ℕ
tiles_in s region l = filter (is_tile_in s region l) (indices s l)

-- their words
abbrev pub node_word : Subtree → ℕ → ℕ → ℕ
node_word s l m = word s.scheme (node_at s l m) (contents_mask s l m)

abbrev pub level_words : Subtree → Region → ℕ → List ℕ
level_words s region l = map (node_word s l) (tiles_in s region l)

-- the child roots in the region whose child bit is 1 and whose parent is there
abbrev pub is_child_in : Subtree → Region → ℕ → Bool
is_child_in s region m = has_child s m && has_tile s (s.levels - 1) (m / branching s.scheme)
    && is_in region (node_at s s.levels m)

abbrev pub children_in : Subtree → Region → List ℕ
children_in s region = filter (is_child_in s region) (indices s s.levels)

-- their words, with mask 0
abbrev pub child_word : Subtree → ℕ → ℕ
child_word s m = word s.scheme (node_at s s.levels m) 0

abbrev pub child_words : Subtree → Region → List ℕ
child_words s region = map (child_word s) (children_in s region)
