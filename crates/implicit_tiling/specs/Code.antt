-- The word of a tile: its level, the mask of its contents and its Morton index in one number (this project's own). Code
-- holds it as two numbers of 64 bits: the higher is level * 2^16 + mask, the lower is the index.
use Rattle.std.specs.Prelude.{ℕ, ◌+◌, ◌*◌, ◌/◌, ◌%◌, ◌^◌, ◌<◌}
use Rattle.implicit_tiling.specs.declared.Scheme.{Scheme}
use Rattle.implicit_tiling.specs.Limits.{most_levels}
use Rattle.implicit_tiling.specs.Tile.{Tile, branching, index, tile_at}
use Rattle.implicit_tiling.specs.Scene.{Scene}
use Rattle.implicit_tiling.specs.Availability.{mask}

-- the places of the word's parts
abbrev pub mask_place : ℕ
mask_place = 64

abbrev pub level_place : ℕ
level_place = 80

abbrev pub word : Scheme → Tile → ℕ → ℕ
word scheme t mask = t.level * 2 ^ level_place + mask * 2 ^ mask_place + index scheme t

-- the word of an available tile, with the mask of its contents
abbrev pub tile_word : Scene → Tile → ℕ
tile_word s t = word s.layout.scheme t (mask s t)

-- the parts of a word, and its tile
abbrev pub word_level : ℕ → ℕ
word_level w = w / 2 ^ level_place

abbrev pub word_mask : ℕ → ℕ
word_mask w = w / 2 ^ mask_place % 2 ^ 16

abbrev pub word_index : ℕ → ℕ
word_index w = w % 2 ^ mask_place

abbrev pub word_tile : Scheme → ℕ → Tile
word_tile scheme w = tile_at scheme (word_level w) (word_index w)

-- a tile of a level within the limits, and a mask, have this word
pub record IsWord (scheme : Scheme) (w : ℕ) : Type 0 where
  pub level_fits : word_level w < most_levels scheme
  pub index_fits : word_index w < branching scheme ^ word_level w
