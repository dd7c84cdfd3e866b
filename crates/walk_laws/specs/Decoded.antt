-- A decoded subtree on the walk of a scene, and what its bits say of the tiles (OGC 22-025r4, implicit tiling:
-- availability, tile availability, content availability, child subtree availability).
use Rattle.std.specs.Prelude.{ℕ, ◌≡◌, ◌+◌, ◌<◌, ◌^◌, true, false, map}
use Rattle.implicit_tiling.specs.Tile.{branching}
use Rattle.implicit_tiling.specs.Region.{Region}
use Rattle.implicit_tiling.specs.Scene.{Scene, good}
use Rattle.implicit_tiling.specs.Availability.{is_available, is_reached, mask}
use Rattle.implicit_tiling.specs.Subtree.{Subtree, IsSubtree, IsOf, has_orphan, has_tile, contents_mask, bits_of}
use Rattle.implicit_tiling.specs.Code.{tile_word}
use Rattle.implicit_tiling.specs.Nodes.{node_at, tiles_in, level_words}
use Rattle.implicit_tiling.specs.Steps.{pair_of, segment}

-- the subtree is what the scene's file of its root says, no node is an orphan, and the root is reached
pub record IsDecoded (s : Scene) (st : Subtree) : Type 0 where
  pub within_limits : IsSubtree st
  pub of_layout : IsOf s.layout st
  pub no_orphan : has_orphan st ≡ false
  pub same_bits : s.outcome st.root ≡ good (bits_of st)
  pub reached : is_reached s st.root ≡ true

-- a node is available where its bit is 1
abbrev pub NodesAreAvailableByBit : Type 0
NodesAreAvailableByBit = (s : Scene) (st : Subtree) (k m : ℕ) → IsDecoded s st → k < st.levels
    → m < branching st.scheme ^ k
    → is_available s (node_at st k m) ≡ has_tile st k m

-- a node that is there has the contents that its bits say
abbrev pub NodesHaveTheirContents : Type 0
NodesHaveTheirContents = (s : Scene) (st : Subtree) (k m : ℕ) → IsDecoded s st → k < st.levels
    → m < branching st.scheme ^ k
    → has_tile st k m ≡ true → mask s (node_at st k m) ≡ contents_mask st k m

-- the tiles of a level of the subtree on the walk of a region are its nodes there, and so are their words
abbrev pub NodesMakeASegment : Type 0
NodesMakeASegment = (s : Scene) (region : Region) (st : Subtree) (k : ℕ) → IsDecoded s st → k < st.levels
    → segment s region (pair_of (st.root.level + k) st.root) ≡ map (node_at st k) (tiles_in st region k)

abbrev pub NodeWordsAreTileWords : Type 0
NodeWordsAreTileWords = (s : Scene) (region : Region) (st : Subtree) (k : ℕ) → IsDecoded s st → k < st.levels
    → map (tile_word s) (segment s region (pair_of (st.root.level + k) st.root)) ≡ level_words st region k
