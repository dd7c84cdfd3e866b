-- A decoded subtree: its root, and the bits that its file names for its nodes and child subtrees
-- (OGC 22-025r4, implicit tiling: subtrees; availability bitstreams).
use Rattle.std.specs.Prelude.{ℕ, ◌≡◌, ◌+◌, ◌-◌, ◌/◌, ◌%◌, ◌^◌, ◌<◌, ◌≤◌, ◌&&◌, nat_lt, not, Bool, List, [], ◌∷◌}
use Rattle.std.specs.Prelude.{length, map, if◌then◌else◌}
use Rattle.std.specs.List.{range_with_len, list_any, All}
use Rattle.implicit_tiling.specs.declared.Scheme.{Scheme}
use Rattle.implicit_tiling.specs.Limits.{most_levels, most_subtree_levels, most_contents}
use Rattle.implicit_tiling.specs.Bits.{bit_at}
use Rattle.implicit_tiling.specs.Tile.{Tile, IsTile, branching}
use Rattle.implicit_tiling.specs.Scene.{Layout, Bits}
use Rattle.implicit_tiling.specs.Availability.{nodes_above}

-- the scheme, the levels of the subtree, the levels in all, the root tile, and the bits as the file names them
pub record Subtree : Type 0 where
  pub scheme : Scheme
  pub levels : ℕ
  pub cut : ℕ
  pub root : Tile
  pub tiles : List Bool
  pub contents : List (List Bool)
  pub child : List Bool

-- the nodes of a local level stand at a level below the levels in all
abbrev pub is_kept : Subtree → ℕ → Bool
is_kept s l = nat_lt (s.root.level + l) s.cut

-- the bit of the node of local level l and local index m: bits at levels from the levels in all on count as 0
abbrev pub node_bit : Subtree → List Bool → ℕ → ℕ → Bool
node_bit s bits l m = is_kept s l && bit_at bits (nodes_above s.scheme l + m)

abbrev pub has_tile : Subtree → ℕ → ℕ → Bool
has_tile s l m = node_bit s s.tiles l m

-- the bit of the child subtree of local index m, among those below the last local level
abbrev pub has_child : Subtree → ℕ → Bool
has_child s m = is_kept s s.levels && bit_at s.child m

-- bits as a number, the first of them with the worth 2^c
abbrev pub mask_of_bits : ℕ → List Bool → ℕ
mask_of_bits c [] = 0
mask_of_bits c (b ∷ bits) = (if b then 2 ^ c else 0) + mask_of_bits (c + 1) bits

-- the contents of a node, bit c for content c
abbrev pub contents_mask : Subtree → ℕ → ℕ → ℕ
contents_mask s l m = mask_of_bits 0 (map (λ bits. node_bit s bits l m) s.contents)

-- some node of `count` local levels from `first` on passes the test
abbrev pub some_node : Scheme → ℕ → ℕ → (ℕ → ℕ → Bool) → Bool
some_node scheme first count test = list_any (λ l. list_any (test l) (range_with_len 0 (branching scheme ^ l)))
    (range_with_len first count)

-- a node below the local root has bit 1 and its parent bit 0
abbrev pub has_orphan : Subtree → Bool
has_orphan s = some_node s.scheme 1 (s.levels - 1)
    (λ l m. has_tile s l m && not (has_tile s (l - 1) (m / branching s.scheme)))

-- a node has a content with bit 1 and its tile bit 0
abbrev pub has_content_alone : Subtree → Bool
has_content_alone s = some_node s.scheme 0 s.levels (λ l m. list_any (λ bits. node_bit s bits l m) s.contents
    && not (has_tile s l m))

-- the numbers of bits: of tiles and of each content one for each node, of child subtrees N below each node of the
-- last level
abbrev pub node_count : Scheme → ℕ → ℕ
node_count scheme levels = nodes_above scheme levels

abbrev pub child_count : Scheme → ℕ → ℕ
child_count scheme levels = branching scheme ^ levels

-- the limits within which a subtree is one
pub record IsSubtree (s : Subtree) : Type 0 where
  pub some_levels : 1 ≤ s.levels
  pub few_levels : s.levels ≤ most_subtree_levels s.scheme
  pub few_levels_in_all : s.cut ≤ most_levels s.scheme
  pub root_below_cut : s.root.level < s.cut
  pub root_is_tile : IsTile s.scheme s.root
  pub few_contents : length s.contents ≤ most_contents
  pub tile_bits : length s.tiles ≡ node_count s.scheme s.levels
  pub content_bits : All (λ bits. length bits ≡ node_count s.scheme s.levels) s.contents
  pub child_bits : length s.child ≡ child_count s.scheme s.levels

-- it is a subtree of the layout: its levels and scheme are the layout's, it has no more contents than templates, and
-- its root stands where subtrees begin
pub record IsOf (layout : Layout) (s : Subtree) : Type 0 where
  pub same_scheme : s.scheme ≡ layout.scheme
  pub same_levels : s.levels ≡ layout.subtree_levels
  pub same_cut : s.cut ≡ layout.levels
  pub contents_named : length s.contents ≤ length layout.contents
  pub root_at_start : s.root.level % layout.subtree_levels ≡ 0

-- the bits by place and by index, as availability is a relation of them
abbrev pub bits_of : Subtree → Bits
bits_of s = record { tiles = bit_at s.tiles; contents = map bit_at s.contents; child = bit_at s.child }
