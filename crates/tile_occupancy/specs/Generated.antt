-- The tilesets that are generated: points spread over the last level, all their ancestors, and contents by level (this
-- project's own).
use Rattle.std.specs.Prelude.{ℕ, zero, suc, ◌≡◌, ◌+◌, ◌-◌, ◌*◌, ◌%◌, ◌^◌, ◌<◌, ◌==◌, ◌↔◌, Bool, List, map, filter}
use Rattle.std.specs.Prelude.{if◌then◌else◌}
use Rattle.std.specs.List.{All, Contains, list_any, range_with_len}
use Rattle.implicit_tiling.specs.declared.Scheme.{Scheme}
use Rattle.implicit_tiling.specs.Tile.{Tile, ancestor, depth_of, all_tiles}
use Rattle.implicit_tiling.specs.Code.{word, word_tile}
use Rattle.tile_occupancy.specs.Occupied.{is_same, tiles_of}

-- the k-th point, a tile of the last level
abbrev pub point : Scheme → ℕ → ℕ → ℕ → Tile
point scheme levels number k = record {
  level = levels - 1;
  x = (number + 40503 * k) % 2 ^ (levels - 1);
  y = (3 * number + 30011 * k) % 2 ^ (levels - 1);
  z = depth_of scheme ((7 * number + 20011 * k) % 2 ^ (levels - 1));
}

-- the tile is one of the points, or an ancestor of one
abbrev pub IsGenerated : Scheme → ℕ → ℕ → ℕ → Tile → Type 0
IsGenerated scheme levels points number t = (k j : ℕ) × (k < points) × (j < levels)
    × (t ≡ ancestor j (point scheme levels number k))

-- the same as a test, and all these tiles in key order
abbrev pub is_generated : Scheme → ℕ → ℕ → ℕ → Tile → Bool
is_generated scheme levels points number t = list_any
    (λ k. is_same (ancestor (levels - 1 - t.level) (point scheme levels number k)) t) (range_with_len 0 points)

abbrev pub generated_tiles : Scheme → ℕ → ℕ → ℕ → List Tile
generated_tiles scheme levels points number = filter (is_generated scheme levels points number)
    (all_tiles scheme (levels - 1))

-- content c stands on each tile whose level is a multiple of c + 1
abbrev pub generated_mask : ℕ → ℕ → ℕ
generated_mask zero level = 0
generated_mask (suc c) level = generated_mask c level + (if level % suc c == 0 then 2 ^ c else 0)

abbrev pub generated_word : Scheme → ℕ → Tile → ℕ
generated_word scheme contents t = word scheme t (generated_mask contents t.level)

-- the words of all generated tiles, in key order
abbrev pub generated_words : Scheme → ℕ → ℕ → ℕ → ℕ → List ℕ
generated_words scheme levels contents points number = map (generated_word scheme contents)
    (generated_tiles scheme levels points number)

-- the words of a tile and all its ancestors
abbrev pub line_words : Scheme → ℕ → ℕ → Tile → List ℕ
line_words scheme levels contents t = map (λ j. generated_word scheme contents (ancestor j t)) (range_with_len 0 levels)

-- the words of the first points and their ancestors, some of them more than once
pub record HasLines (scheme : Scheme) (levels contents points number : ℕ) (words : List ℕ) : Type 0 where
  pub made : All (λ w. (k j : ℕ) × (k < points) × (j < levels)
      × (w ≡ generated_word scheme contents (ancestor j (point scheme levels number k)))) words
  pub every : (k j : ℕ) → k < points → j < levels
      → Contains words (generated_word scheme contents (ancestor j (point scheme levels number k)))

-- the words are those of the generated tiles, each with the mask of its level
pub record AreGenerated (scheme : Scheme) (levels contents points number : ℕ) (words : List ℕ) : Type 0 where
  pub tiles : (t : Tile) → Contains (tiles_of scheme words) t ↔ IsGenerated scheme levels points number t
  pub masks : All (λ w. w ≡ generated_word scheme contents (word_tile scheme w)) words
