-- For proofs and inner functions: what one local level of a decoded subtree brings (this project's own).
use Rattle.std.specs.Prelude.{ℕ, ◌≡◌, ◌+◌, ◌-◌, ◌==◌, ◌<◌, ◌≤◌, Bool, true, false, List, [], ◌++◌, length, take}
use Rattle.implicit_tiling.specs.Region.{Region}
use Rattle.implicit_tiling.specs.Subtree.{Subtree}
use Rattle.implicit_tiling.specs.Nodes.{level_words, child_words}
use Rattle.implicit_tiling.specs.Answer.{most_tiles}
use Rattle.tile_coords.specs.declared.walk_end.WalkEnd.{WalkEnd}
use Rattle.tile_coords.specs.declared.walk_end.WalkEnd.TheVariants.{Partial, Complete, TooMany, Fault}

abbrev pub if_last_words : Bool → List ℕ → List ℕ
if_last_words true words = words
if_last_words false words = []

-- all its words, and the child roots in the last level
pub record AppendsAll (st : Subtree) (region : Region) (local : ℕ) (before after roots next : List ℕ) : Type 0 where
  pub words : after ≡ before ++ level_words st region local
  pub few : length after ≤ most_tiles
  pub roots_are : next ≡ roots ++ if_last_words (local + 1 == st.levels) (child_words st region)

-- as many as there is room for
pub record AppendsSome (st : Subtree) (region : Region) (local : ℕ) (before after roots next : List ℕ) : Type 0 where
  pub words : after ≡ before ++ take (most_tiles - length before) (level_words st region local)
  pub many : most_tiles < length before + length (level_words st region local)
  pub same_roots : next ≡ roots

abbrev pub Appends : Subtree → Region → ℕ → List ℕ → List ℕ → List ℕ → List ℕ → WalkEnd → Type 0
Appends st region local before after roots next Partial = AppendsAll st region local before after roots next
Appends st region local before after roots next Complete = ⊥
Appends st region local before after roots next TooMany = AppendsSome st region local before after roots next
Appends st region local before after roots next (Fault root n) = ⊥
