-- Laws of the words of tiles: a word and its parts, and the order of words (this project's own).
use Rattle.std.specs.Prelude.{ℕ, ◌≡◌, ◌+◌, ◌*◌, ◌^◌, ◌<◌, ◌↔◌, true}
use Rattle.implicit_tiling.specs.declared.Scheme.{Scheme}
use Rattle.implicit_tiling.specs.Limits.{most_levels}
use Rattle.implicit_tiling.specs.Tile.{Tile, IsTile, is_key_below}
use Rattle.implicit_tiling.specs.Code.{level_place, word, word_level, word_index, word_tile, word_mask, IsWord}

-- the level and the index of a word, with no mask between them
abbrev pub word_key : ℕ → ℕ
word_key w = word_level w * 2 ^ level_place + word_index w

-- a word so many places further in the same level, with the same mask
pub record IsFurther (w n v : ℕ) : Type 0 where
  pub level : word_level v ≡ word_level w
  pub mask : word_mask v ≡ word_mask w
  pub index : word_index v ≡ word_index w + n

-- a tile of a level within the limits
pub record HasWord (scheme : Scheme) (t : Tile) : Type 0 where
  pub is_tile : IsTile scheme t
  pub within : t.level < most_levels scheme

-- the word of a tile and a mask: it has 128 bits, and gives both back
pub record HasParts (scheme : Scheme) (t : Tile) (m w : ℕ) : Type 0 where
  pub is_word : IsWord scheme w
  pub fits : w < 2 ^ 128
  pub tile : word_tile scheme w ≡ t
  pub mask : word_mask w ≡ m

abbrev pub WordsHaveTheirParts : Type 0
WordsHaveTheirParts = (scheme : Scheme) (t : Tile) (mask : ℕ) → HasWord scheme t → mask < 2 ^ 16
    → HasParts scheme t mask (word scheme t mask)

-- what is a word is that of its own tile and mask
pub record IsOfItsParts (scheme : Scheme) (w : ℕ) : Type 0 where
  pub has_word : HasWord scheme (word_tile scheme w)
  pub mask_fits : word_mask w < 2 ^ 16
  pub word : word scheme (word_tile scheme w) (word_mask w) ≡ w

abbrev pub PartsHaveTheirWord : Type 0
PartsHaveTheirWord = (scheme : Scheme) (w : ℕ) → IsWord scheme w → IsOfItsParts scheme w

-- for one mask the order is that of the keys, and a higher level makes a greater word for any masks
pub record AreOrdered (scheme : Scheme) (t u : Tile) : Type 0 where
  pub by_key : (mask : ℕ) → mask < 2 ^ 16 → (word scheme t mask < word scheme u mask) ↔ (is_key_below scheme t u ≡ true)
  pub by_level : (m n : ℕ) → m < 2 ^ 16 → t.level < u.level → word scheme t m < word scheme u n

abbrev pub WordsAreOrderedAsKeys : Type 0
WordsAreOrderedAsKeys = (scheme : Scheme) (t u : Tile) → HasWord scheme t → HasWord scheme u → AreOrdered scheme t u
