-- The subtree roots on a walk, from level to level (OGC 22-025r4, implicit tiling: child subtree availability; the
-- walk is this project's own).
use Rattle.std.specs.Prelude.{ℕ, ◌≡◌, ◌+◌, ◌%◌, ◌≤◌, true, List, [], ◌∷◌, map, filter}
use Rattle.std.specs.List.{flat_map, All}
use Rattle.implicit_tiling.specs.Tile.{Tile, IsTile, root}
use Rattle.implicit_tiling.specs.Region.{Region, is_in}
use Rattle.implicit_tiling.specs.Scene.{Scene, bad}
use Rattle.implicit_tiling.specs.Availability.{is_subtree_root, is_reached}
use Rattle.implicit_tiling.specs.Answer.{is_on_walk}
use Rattle.implicit_tiling.specs.Subtree.{Subtree}
use Rattle.implicit_tiling.specs.Code.{word}
use Rattle.implicit_tiling.specs.Nodes.{node_at, children_in, child_words}
use Rattle.implicit_tiling.specs.Steps.{descendants, root_level, walk_roots}
use Rattle.walk_laws.specs.Regions.{IsRegion}
use Rattle.walk_laws.specs.Decoded.{IsDecoded}

-- the roots on the walk of the subtrees right below that of a root
abbrev pub roots_below : Scene → Region → Tile → List Tile
roots_below s region r = filter (is_on_walk s region) (descendants s.layout.scheme s.layout.subtree_levels r)

-- those below a decoded subtree are its children in the region
abbrev pub ChildrenAreTheRootsBelow : Type 0
ChildrenAreTheRootsBelow = (s : Scene) (region : Region) (st : Subtree) → IsDecoded s st
    → roots_below s region st.root ≡ map (node_at st st.levels) (children_in st region)

-- and so are their words, with no contents
abbrev pub ChildWordsAreRootWords : Type 0
ChildWordsAreRootWords = (s : Scene) (region : Region) (st : Subtree) → IsDecoded s st
    → map (λ r. word s.layout.scheme r 0) (roots_below s region st.root) ≡ child_words st region

-- there are none below a faulty file
abbrev pub NoRootBelowAFault : Type 0
NoRootBelowAFault = (s : Scene) (region : Region) (r : Tile) (n : ℕ) → 1 ≤ s.layout.subtree_levels
    → IsTile s.layout.scheme r
    → is_subtree_root s.layout r ≡ true → s.outcome r ≡ bad n → roots_below s region r ≡ []

-- the roots of a level are those below the roots one subtree above
abbrev pub RootsGoDown : Type 0
RootsGoDown = (s : Scene) (region : Region) (l : ℕ) → 1 ≤ s.layout.subtree_levels → l % s.layout.subtree_levels ≡ 0
    → walk_roots s region (l + s.layout.subtree_levels) ≡ flat_map (roots_below s region) (walk_roots s region l)

-- what a root on the walk is whose subtree has a level
pub record IsWalkRoot (s : Scene) (region : Region) (l : ℕ) (r : Tile) : Type 0 where
  pub tile : IsTile s.layout.scheme r
  pub level : r.level ≡ root_level s.layout l
  pub starts : is_subtree_root s.layout r ≡ true
  pub reached : is_reached s r ≡ true
  pub within : is_in region r ≡ true

abbrev pub RootsAreOnTheWalk : Type 0
RootsAreOnTheWalk = (s : Scene) (region : Region) (l : ℕ) → All (IsWalkRoot s region l) (walk_roots s region l)

-- a walk begins with the root
abbrev pub RootsBeginAtTheRoot : Type 0
RootsBeginAtTheRoot = (s : Scene) (region : Region) → 1 ≤ s.layout.levels → IsRegion region
    → walk_roots s region 0 ≡ root ∷ []
