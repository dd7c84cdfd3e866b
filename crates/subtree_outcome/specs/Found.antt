-- What a walk finds over any source, also over one that doesn't tell its files (this project's own).
use Rattle.std.specs.Prelude.{ℕ, ◌^◌, ◌<◌, ◌≤◌, List, length}
use Rattle.std.specs.List.{All}
use Rattle.implicit_tiling.specs.declared.Scheme.{Scheme}
use Rattle.implicit_tiling.specs.Limits.{most_subtree_fault}
use Rattle.implicit_tiling.specs.Scene.{Layout}
use Rattle.implicit_tiling.specs.Answer.{most_tiles}
use Rattle.implicit_tiling.specs.Code.{word_level, word_mask, IsWord}
use Rattle.tile_coords.specs.declared.walk_end.WalkEnd.{WalkEnd}
use Rattle.tile_coords.specs.declared.walk_end.WalkEnd.TheVariants.{Partial, Complete, TooMany, Fault}
use Rattle.tile_word.specs.Roots.{IsRootWord}

-- the word of a tile of a level below the levels in all, with a mask of so many contents
pub record IsTileWord (scheme : Scheme) (levels contents w : ℕ) : Type 0 where
  pub is_word : IsWord scheme w
  pub below : word_level w < levels
  pub of_contents : word_mask w < 2 ^ contents

-- the words of tiles of the layout, with masks of its contents
abbrev pub AreTileWords : Layout → List ℕ → Type 0
AreTileWords layout words = All (IsTileWord layout.scheme layout.levels (length layout.contents)) words

-- and no more of them than an answer holds
pub record AreTilesOf (layout : Layout) (words : List ℕ) : Type 0 where
  pub are_words : AreTileWords layout words
  pub few : length words ≤ most_tiles

-- a root of the layout, by its word with mask 0, and a number of the table of faults of subtree files
pub record IsFaultOf (layout : Layout) (w number : ℕ) : Type 0 where
  pub root : IsRootWord layout (word_level w) w
  pub some : 1 ≤ number
  pub most : number ≤ most_subtree_fault

-- the end of a walk of the layout
abbrev pub EndsWithin : Layout → WalkEnd → Type 0
EndsWithin layout Partial = Unit {0}
EndsWithin layout Complete = Unit {0}
EndsWithin layout TooMany = Unit {0}
EndsWithin layout (Fault root number) = IsFaultOf layout root number
