-- The tiles that are there, as a list of words, and what makes such a list whole (this project's own).
use Rattle.std.specs.Prelude.{ℕ, ◌≡◌, ◌<◌, ◌⊎◌, ◌&&◌, ◌==◌, Bool, List, map}
use Rattle.std.specs.List.{All, Contains}
use Rattle.implicit_tiling.specs.declared.Scheme.{Scheme}
use Rattle.implicit_tiling.specs.Tile.{Tile, root, parent, IsInKeyOrder}
use Rattle.implicit_tiling.specs.Code.{word_level, word_tile, IsWord}

pub record Occupancy : Type 0 where
  pub scheme : Scheme
  pub levels : ℕ
  pub words : List ℕ

-- the word of a tile of a level below the levels in all
pub record IsWordBelow (scheme : Scheme) (levels w : ℕ) : Type 0 where
  pub is_word : IsWord scheme w
  pub low : word_level w < levels

abbrev pub AreWordsBelow : Scheme → ℕ → List ℕ → Type 0
AreWordsBelow scheme levels words = All (IsWordBelow scheme levels) words

-- the test of two tiles
abbrev pub is_same : Tile → Tile → Bool
is_same t u = t.level == u.level && t.x == u.x && t.y == u.y && t.z == u.z

abbrev pub tiles_of : Scheme → List ℕ → List Tile
tiles_of scheme words = map (word_tile scheme) words

-- the tiles are in key order
abbrev pub KeysRise : Scheme → List ℕ → Type 0
KeysRise scheme words = IsInKeyOrder scheme (tiles_of scheme words)

-- the tile is the root, or its parent is there
abbrev pub HasParent : List Tile → Tile → Type 0
HasParent tiles t = (t ≡ root) ⊎ Contains tiles (parent t)

abbrev pub HaveParents : Scheme → List ℕ → Type 0
HaveParents scheme words = All (HasParent (tiles_of scheme words)) (tiles_of scheme words)

-- the list is whole: words of tiles below the levels in all, in key order, each tile with its parent
pub record IsOccupancy (scheme : Scheme) (levels : ℕ) (words : List ℕ) : Type 0 where
  pub are_words : AreWordsBelow scheme levels words
  pub rise : KeysRise scheme words
  pub have_parents : HaveParents scheme words
