-- For proofs and inner functions: the words of the tiles so many levels below a root (this project's own).
use Rattle.std.specs.Prelude.{ℕ, ◌+◌, ◌*◌, ◌^◌, ◌&&◌, ◌==◌, nat_lt, nat_le, Bool, List, filter}
use Rattle.std.specs.List.{flat_map, range_with_len}
use Rattle.implicit_tiling.specs.declared.Scheme.{Scheme}
use Rattle.implicit_tiling.specs.Tile.{Tile, branching, ancestor, index, tile_at}
use Rattle.implicit_tiling.specs.Scene.{Layout}
use Rattle.implicit_tiling.specs.Code.{word}
use Rattle.tile_word.specs.Words.{word_key}
use Rattle.tile_occupancy.specs.Occupied.{is_same}
use Rattle.build_laws.specs.Made.{tile_in}

-- the key of the first tile so many levels below another, and the keys among so many numbers
abbrev pub first_key : Scheme → Tile → ℕ → ℕ
first_key scheme r down = word scheme (tile_at scheme (r.level + down) (index scheme r * branching scheme ^ down)) 0

abbrev pub is_key_in : ℕ → ℕ → ℕ → Bool
is_key_in first count w = nat_le first (word_key w) && nat_lt (word_key w) (first + count)

-- the words of the tiles so many levels below a root
abbrev pub is_below : Layout → Tile → ℕ → ℕ → Bool
is_below layout r down w = let t = tile_in layout w in t.level == r.level + down && is_same (ancestor down t) r

abbrev pub words_below : Layout → List ℕ → Tile → ℕ → List ℕ
words_below layout words r down = filter (is_below layout r down) words

-- those of the subtree of a root, level by level
abbrev pub inner_words : Layout → List ℕ → Tile → List ℕ
inner_words layout words r = flat_map (words_below layout words r) (range_with_len 0 layout.subtree_levels)
