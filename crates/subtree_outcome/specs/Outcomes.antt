-- What is read of the file of a subtree root (this project's own).
use Rattle.std.specs.Prelude.{ℕ, ◌≡◌, ◌≤◌, false, Option, IfSome}
use Rattle.implicit_tiling.specs.Files.{Files}
use Rattle.implicit_tiling.specs.Code.{word_tile}
use Rattle.implicit_tileset.specs.Scene.{scene_of}
use Rattle.implicit_tiling.specs.Limits.{most_subtree_fault}
use Rattle.implicit_tiling.specs.Tile.{Tile}
use Rattle.implicit_tiling.specs.Scene.{Layout, Scene, good, bad, Outcome as outcome}
use Rattle.implicit_tiling.specs.Subtree.{Subtree, IsOf, has_orphan, bits_of}
use Rattle.subtree_outcome.specs.declared.outcome.Outcome.{Outcome}
use Rattle.subtree_outcome.specs.declared.outcome.Outcome.TheVariants.{Good, Bad}

-- the outcome as the definitions have it: the bits of a subtree, or the number of the file's first fault
abbrev pub outcome_seen : Outcome → outcome
outcome_seen (Good s) = good (bits_of s)
outcome_seen (Bad n) = bad n

-- a subtree of the layout without an orphan that begins with this root
pub record IsFoundAt (layout : Layout) (root : Tile) (s : Subtree) : Type 0 where
  pub of_layout : IsOf layout s
  pub at_root : s.root ≡ root
  pub no_orphan : has_orphan s ≡ false

-- what is read of any source, also of one that doesn't tell its files
abbrev pub IsOutcomeAt : Layout → Tile → Outcome → Type 0
IsOutcomeAt layout root (Good s) = IsFoundAt layout root s
IsOutcomeAt layout root (Bad n) = (1 ≤ n) × (n ≤ most_subtree_fault)

-- what is read for a key from any source; and of files that are told, the outcome of the scene
pub record IsOutcomeOf (layout : Layout) (told : Option Files) (key : ℕ) (found : Outcome) : Type 0 where
  pub read : IsOutcomeAt layout (word_tile layout.scheme key) found
  pub of_scene : IfSome told (λ all. (scene_of all layout).outcome (word_tile layout.scheme key) ≡ outcome_seen found)

-- a subtree of the layout that has the bits of its root's file has no orphan: such a file has a fault
abbrev pub HasNoOrphans : Scene → Type 0
HasNoOrphans s = (st : Subtree) → IsOf s.layout st → s.outcome st.root ≡ good (bits_of st) → has_orphan st ≡ false
