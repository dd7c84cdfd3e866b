-- Subtree roots and tiles, as words (this project's own).
use Rattle.std.specs.Prelude.{ℕ, ◌≡◌, ◌%◌, ◌<◌, List}
use Rattle.std.specs.List.{All}
use Rattle.implicit_tiling.specs.Scene.{Layout}
use Rattle.implicit_tiling.specs.Code.{IsWord, word_level, word_mask}

-- the word, with mask 0, of a tile of a level with which a subtree of the layout may begin
pub record IsRootWord (layout : Layout) (level w : ℕ) : Type 0 where
  pub is_word : IsWord layout.scheme w
  pub no_mask : word_mask w ≡ 0
  pub at_level : word_level w ≡ level
  pub below : level < layout.levels
  pub at_start : level % layout.subtree_levels ≡ 0

abbrev pub AreRoots : Layout → ℕ → List ℕ → Type 0
AreRoots layout level roots = All (IsRootWord layout level) roots
