-- For proofs and inner functions: how a walk goes on over some of its pairs, and how it ends (this project's own).
use Rattle.std.specs.Prelude.{ℕ, ◌≡◌, ◌+◌, ◌%◌, ◌==◌, ◌<◌, ◌≤◌, Bool, true, false, List, [], ◌∷◌, ◌++◌, length, take}
use Rattle.std.specs.Prelude.{map, Some, None}
use Rattle.implicit_tiling.specs.declared.Scheme.{Scheme}
use Rattle.implicit_tiling.specs.Files.{Files}
use Rattle.implicit_tiling.specs.Tile.{Tile}
use Rattle.implicit_tiling.specs.Region.{Region}
use Rattle.implicit_tiling.specs.Scene.{Layout, Scene, fault_of}
use Rattle.implicit_tiling.specs.Code.{tile_word, word_tile}
use Rattle.implicit_tiling.specs.Answer.{is_on_walk, most_tiles, answer}
use Rattle.implicit_tiling.specs.Steps.{Pair, pair_of, pair_fault, ended}
use Rattle.subtree_outcome.specs.Fetched.{cost_of_all}
use Rattle.walk_laws.specs.Children.{roots_below}
use Rattle.walk_laws.specs.Pairs.{NoPairFaults, tiles_of_pairs}
use Rattle.tile_coords.specs.declared.walk_end.WalkEnd.{WalkEnd}
use Rattle.tile_coords.specs.declared.walk_end.WalkEnd.TheVariants.{Partial, Complete, TooMany, Fault}
use Rattle.tile_coords.specs.Ends.{end_seen, end_word}

-- what the roots of some pairs cost, each once for each of its pairs
abbrev pub cost_of_pairs : Files → Layout → List Pair → ℕ
cost_of_pairs files layout ps = cost_of_all files layout (map (λ p. p.root) ps)

-- the words of the tiles of some pairs
abbrev pub pair_words : Scene → Region → List Pair → List ℕ
pair_words s region ps = map (tile_word s) (tiles_of_pairs s region ps)

-- the pair of a level and a root, by the root's word
abbrev pub word_pair : Scheme → ℕ → ℕ → Pair
word_pair scheme level w = pair_of level (word_tile scheme w)

-- the walk goes on after these pairs
pub record GoesOn (s : Scene) (region : Region) (ps : List Pair) (before after : List ℕ) : Type 0 where
  pub no_fault : NoPairFaults s ps
  pub words : after ≡ before ++ pair_words s region ps
  pub few : length after ≤ most_tiles

-- it is cut among them
pub record IsCutAmong (s : Scene) (region : Region) (ps : List Pair) (before after : List ℕ) : Type 0 where
  pub done : List Pair
  pub rest : List Pair
  pub parts : ps ≡ done ++ rest
  pub no_fault : NoPairFaults s done
  pub many : most_tiles < length (before ++ pair_words s region done)
  pub words : after ≡ take most_tiles (before ++ pair_words s region done)

-- it stops at the fault of one of them
pub record StopsAt (s : Scene) (region : Region) (ps : List Pair) (before after : List ℕ) (root n : ℕ) : Type 0 where
  pub done : List Pair
  pub pair : Pair
  pub rest : List Pair
  pub parts : ps ≡ done ++ pair ∷ rest
  pub no_fault : NoPairFaults s done
  pub fault : pair_fault s pair ≡ Some n
  pub at_root : word_tile s.layout.scheme root ≡ pair.root
  pub words : after ≡ before ++ pair_words s region done
  pub few : length after ≤ most_tiles

abbrev pub Walks : Scene → Region → List Pair → List ℕ → List ℕ → WalkEnd → Type 0
Walks s region ps before after Partial = GoesOn s region ps before after
Walks s region ps before after Complete = ⊥
Walks s region ps before after TooMany = IsCutAmong s region ps before after
Walks s region ps before after (Fault root n) = StopsAt s region ps before after root n

-- whether a level is the last one of its subtrees
abbrev pub is_last : Layout → ℕ → Bool
is_last layout level = level % layout.subtree_levels + 1 == layout.subtree_levels

-- the roots that follow those of a level: the last level of a subtree brings the roots below
abbrev pub if_last : Bool → List Tile → List Tile
if_last true roots = roots
if_last false roots = []

abbrev pub next_roots : Scene → Region → ℕ → Tile → List Tile
next_roots s region level r = if_last (is_last s.layout level) (roots_below s region r)

-- the frontier of the next level
abbrev pub frontier_if : Bool → List ℕ → List ℕ → List ℕ
frontier_if true roots next = next
frontier_if false roots next = roots

-- what is known of a root when a level of its subtree is walked: it is on the walk, and below its own level its file
-- has no fault
pub record IsWalked (s : Scene) (region : Region) (level w : ℕ) : Type 0 where
  pub on_walk : is_on_walk s region (word_tile s.layout.scheme w) ≡ true
  pub no_fault : (level % s.layout.subtree_levels ≡ 0 → ⊥) → fault_of (s.outcome (word_tile s.layout.scheme w)) ≡ None
