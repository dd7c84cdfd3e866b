-- Laws of a subtree's nodes, of which of them are in a region, and of the words that are found (this project's own).
use Rattle.std.specs.Prelude.{ℕ, ◌≡◌, ◌+◌, ◌-◌, ◌*◌, ◌/◌, ◌^◌, ◌<◌, ◌≤◌, ◌↔◌, true, List, length, slice_index}
use Rattle.std.specs.List.{All, AllPairs}
use Rattle.implicit_tiling.specs.Tile.{Tile, IsTile, branching, ancestor, child, index, tile_at, is_key_below}
use Rattle.implicit_tiling.specs.Region.{Region, is_in}
use Rattle.implicit_tiling.specs.Code.{word, word_level, word_mask, word_tile, IsWord}
use Rattle.implicit_tiling.specs.Subtree.{Subtree, IsSubtree}
use Rattle.implicit_tiling.specs.Nodes.{node_at, level_words, child_words}
use Rattle.region_scan.specs.Found.{first_index}

-- the tile whose coordinates are a root's, and behind them those of a tile as it stands below level 0
abbrev pub below : Tile → Tile → Tile
below root t = record {
  level = root.level + t.level;
  x = root.x * 2 ^ t.level + t.x;
  y = root.y * 2 ^ t.level + t.y;
  z = root.z * 2 ^ t.level + t.z;
}

-- a node is a tile of its level, l levels below the root
pub record IsNode (s : Subtree) (l m : ℕ) (t : Tile) : Type 0 where
  pub is_tile : IsTile s.scheme t
  pub level : t.level ≡ s.root.level + l
  pub index : index s.scheme t ≡ first_index s l + m
  pub coordinates : t ≡ below s.root (tile_at s.scheme l m)
  pub above : ancestor l t ≡ s.root

abbrev pub EachNodeIsATile : Type 0
EachNodeIsATile = (s : Subtree) (l m : ℕ) → IsTile s.scheme s.root → m < branching s.scheme ^ l
    → IsNode s l m (node_at s l m)

-- for one mask a node's word rises with its local index
abbrev pub WordsRise : Type 0
WordsRise = (s : Subtree) (l m n mask : ℕ) → m < n → n < branching s.scheme ^ l
    → word s.scheme (node_at s l m) mask < word s.scheme (node_at s l n) mask

-- a coordinate k levels above the region's level is in its box
pub record IsBetween (k lo hi c : ℕ) : Type 0 where
  pub low : lo / 2 ^ k ≤ c
  pub high : c ≤ hi / 2 ^ k

-- a tile of the region's level, or of one above it, with each of its coordinates in the box
pub record IsInBox (region : Region) (t : Tile) : Type 0 where
  pub level : t.level ≤ region.level
  pub x : IsBetween (region.level - t.level) (slice_index region.lo 0) (slice_index region.hi 0) t.x
  pub y : IsBetween (region.level - t.level) (slice_index region.lo 1) (slice_index region.hi 1) t.y
  pub z : IsBetween (region.level - t.level) (slice_index region.lo 2) (slice_index region.hi 2) t.z

-- a node is in the region exactly where its coordinates are
abbrev pub NodesInTheRegion : Type 0
NodesInTheRegion = (s : Subtree) (region : Region) (l m : ℕ) → IsTile s.scheme s.root → m < branching s.scheme ^ l
    → (is_in region (node_at s l m) ≡ true) ↔ IsInBox region (below s.root (tile_at s.scheme l m))

-- the children of a node are nodes of the next level, and where one of them is in the region the node is
pub record AreChildren (s : Subtree) (region : Region) (l m n : ℕ) : Type 0 where
  pub node : node_at s (l + 1) (branching s.scheme * m + n) ≡ child (node_at s l m) n
  pub in_region : is_in region (child (node_at s l m) n) ≡ true → is_in region (node_at s l m) ≡ true

abbrev pub NodeChildren : Type 0
NodeChildren = (s : Subtree) (region : Region) (l m n : ℕ) → n < branching s.scheme → AreChildren s region l m n

-- the word of a node of a local level that is in the region, with a mask below a bound
pub record IsNodeWord (s : Subtree) (region : Region) (l masks w : ℕ) : Type 0 where
  pub is_word : IsWord s.scheme w
  pub level : word_level w ≡ s.root.level + l
  pub below_cut : word_level w < s.cut
  pub mask : word_mask w < masks
  pub in_region : is_in region (word_tile s.scheme w) ≡ true
  pub above : ancestor l (word_tile s.scheme w) ≡ s.root

-- the words that are found are those of nodes, with a bit for each content at most; those of child roots have no
-- contents
pub record WordsAreFound (s : Subtree) (region : Region) : Type 0 where
  pub tiles : (l : ℕ) → All (IsNodeWord s region l (2 ^ length s.contents)) (level_words s region l)
  pub children : All (IsNodeWord s region s.levels 1) (child_words s region)

abbrev pub FoundWordsAreWords : Type 0
FoundWordsAreWords = (s : Subtree) (region : Region) → IsSubtree s → WordsAreFound s region

-- the key of each word's tile is below those of all later ones
abbrev pub RiseInKeyOrder : Subtree → List ℕ → Type 0
RiseInKeyOrder s words = AllPairs (λ v w. is_key_below s.scheme (word_tile s.scheme v) (word_tile s.scheme w)
    ≡ true) words

pub record WordsRiseInKeyOrder (s : Subtree) (region : Region) : Type 0 where
  pub tiles : (l : ℕ) → RiseInKeyOrder s (level_words s region l)
  pub children : RiseInKeyOrder s (child_words s region)

abbrev pub FoundWordsRise : Type 0
FoundWordsRise = (s : Subtree) (region : Region) → IsSubtree s → WordsRiseInKeyOrder s region
