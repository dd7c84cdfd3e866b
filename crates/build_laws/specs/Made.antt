-- The subtree files that are made of given tiles: which roots have one, and the bits that stand in it (OGC 22-025r4,
-- implicit tiling: subtrees, tile availability, content availability, child subtree availability; which roots have a
-- file is this project's own).
use Rattle.std.specs.Prelude.{ℕ, ◌%◌, ◌/◌, ◌^◌, ◌&&◌, ◌==◌, nat_lt, Bool, List, [], ◌∷◌, length, map, filter}
use Rattle.std.specs.List.{range_with_len}
use Rattle.bitstream.specs.Bits.{bits_of_places}
use Rattle.implicit_tiling.specs.Files.{Files}
use Rattle.implicit_tiling.specs.Tile.{Tile, branching, root, parent, index}
use Rattle.implicit_tiling.specs.Scene.{Layout}
use Rattle.implicit_tiling.specs.Availability.{subtree_root, is_subtree_root, place}
use Rattle.implicit_tiling.specs.Subtree.{Subtree, node_count, child_count}
use Rattle.implicit_tiling.specs.Code.{word_tile, word_mask}
use Rattle.implicit_tileset.specs.Scene.{subtree_name}
use Rattle.subtree_write.specs.Canonical.{canonical}
use Rattle.tile_occupancy.specs.Occupied.{is_same, tiles_of}

-- the tile of a word in a layout
abbrev pub tile_in : Layout → ℕ → Tile
tile_in layout w = word_tile layout.scheme w

-- the words of the tiles in the subtree of a root
abbrev pub is_under : Layout → Tile → ℕ → Bool
is_under layout r w = is_same (subtree_root layout (tile_in layout w)) r

abbrev pub under : Layout → Tile → List ℕ → List ℕ
under layout r words = filter (is_under layout r) words

-- the words of the tiles with which a subtree right below that of a root begins
abbrev pub is_child_root : Layout → Tile → ℕ → Bool
is_child_root layout r w = let t = tile_in layout w in nat_lt 0 t.level && is_subtree_root layout t
    && is_same (subtree_root layout (parent t)) r

abbrev pub child_roots : Layout → Tile → List ℕ → List ℕ
child_roots layout r words = filter (is_child_root layout r) words

-- the words of the tiles on which a content stands
abbrev pub has_content : ℕ → ℕ → Bool
has_content c w = word_mask w / 2 ^ c % 2 == 1

-- a bit for each node of a subtree, and for each child subtree
abbrev pub node_bits : Layout → List ℕ → List Bool
node_bits layout words = bits_of_places (node_count layout.scheme layout.subtree_levels) (map
    (λ w. place layout (tile_in layout w)) words)

abbrev pub child_place : Layout → ℕ → ℕ
child_place layout w = index layout.scheme (tile_in layout w) % branching layout.scheme ^ layout.subtree_levels

abbrev pub child_bits : Layout → List ℕ → List Bool
child_bits layout words = bits_of_places (child_count layout.scheme layout.subtree_levels)
    (map (child_place layout) words)

-- the subtree of a root: the tiles in it, their contents, and the subtrees right below it
abbrev pub made_subtree : Layout → List ℕ → Tile → Subtree
made_subtree layout words r = record {
  scheme = layout.scheme;
  levels = layout.subtree_levels;
  cut = layout.levels;
  root = r;
  tiles = node_bits layout (under layout r words);
  contents = map (λ c. node_bits layout (filter (has_content c) (under layout r words)))
      (range_with_len 0 (length layout.contents));
  child = child_bits layout (child_roots layout r words);
}

-- the tiles of the list that are subtree roots, in its order; the root tile alone where the list is empty
abbrev pub made_roots : Layout → List ℕ → List Tile
made_roots layout [] = root ∷ []
made_roots layout (w ∷ words) = filter (is_subtree_root layout) (tiles_of layout.scheme (w ∷ words))

-- their files, by name
abbrev pub made_files : Layout → List ℕ → Files
made_files layout words = map (λ r. (subtree_name layout r, canonical (made_subtree layout words r)))
    (made_roots layout words)
