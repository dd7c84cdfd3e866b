-- The bits of a made subtree, by the tiles of its nodes.
use Rattle.std.proofs.Common.{◌≡◌, ℕ, ◌+◌, ◌^◌, ◌<◌, ◌≤◌, Bool, true, List, sym, ap, subst, ◌∙◌}
use Rattle.std.specs.List.{Contains, filter}
use Rattle.implicit_tiling.specs.Tile.{Tile, branching}
use Rattle.implicit_tiling.specs.Scene.{Layout}
use Rattle.implicit_tiling.specs.Availability.{subtree_root, nodes_above, place}
use Rattle.implicit_tiling.specs.Bits.{bit_at}
use Rattle.implicit_tiling.specs.Code.{word_level, word_index, word_tile}
use Rattle.tiling_laws.proofs.TileAt.{tile_at_is_tile}
use Rattle.tiling_laws.proofs.Places.{tile_from_place}
use Rattle.tiling_laws.proofs.Rising.{in_filtered}
use Rattle.walk_laws.proofs.Runs.{below, below_is_tile}
use Rattle.walk_laws.proofs.Segments.{below_root}
use Rattle.walk_laws.proofs.Plain.{below_place}
use Rattle.walk_laws.proofs.Children.{IsStart}
use Rattle.tile_occupancy.specs.Occupied.{tiles_of}
use Rattle.build_laws.specs.Made.{tile_in, is_under, under, node_bits}
use Rattle.build_laws.proofs.Bits.{into_map, from_map, node_says, node_from}
use Rattle.build_laws.proofs.Under.{same_says, same_from}

-- one of the words, whose tile is in the subtree of r and has place i
pub record IsNodeWord (layout : Layout) (words : List ℕ) (r : Tile) (i w : ℕ) : Type 0 where
  pub there : Contains words w
  pub root : subtree_root layout (tile_in layout w) ≡ r
  pub at : place layout (tile_in layout w) ≡ i

pub under_says : (layout : Layout) (r : Tile) (words : List ℕ) (w : ℕ) → Contains (under layout r words) w → Contains words w × (subtree_root layout (tile_in layout w) ≡ r)
under_says layout r words w there =
    let is = (in_filtered (is_under layout r) words w).0 there in
    (is.0, same_says (subtree_root layout (tile_in layout w)) r is.1)

pub under_from : (layout : Layout) (r : Tile) (words : List ℕ) (w : ℕ) → Contains words w → subtree_root layout (tile_in layout w) ≡ r → Contains (under layout r words) w
under_from layout r words w there root = (in_filtered (is_under layout r) words w).1 (there, same_from (subtree_root layout (tile_in layout w)) r root)

-- a bit that is 1 is that of such a word
pub word_of_node : (layout : Layout) (words : List ℕ) (r : Tile) (i : ℕ) → bit_at (node_bits layout (under layout r words)) i ≡ true → (w : ℕ) × IsNodeWord layout words r i w
word_of_node layout words r i one =
    let from = node_says layout (under layout r words) i one in
    let is = under_says layout r words from.element from.there in
    (from.element, record { there = is.0; root = is.1; at = from.gives })

pub node_of_word : (layout : Layout) (words : List ℕ) (r : Tile) (i w : ℕ) → 1 ≤ layout.subtree_levels → IsNodeWord layout words r i w → bit_at (node_bits layout (under layout r words)) i ≡ true
node_of_word layout words r i w some is =
    subst (λ n. bit_at (node_bits layout (under layout r words)) n ≡ true) is.at
    (node_from layout (under layout r words) w some (under_from layout r words w is.there is.root))

-- fewer words have fewer bits
pub fewer_bits : (layout : Layout) (test : ℕ → Bool) (words : List ℕ) (i : ℕ) → 1 ≤ layout.subtree_levels → bit_at (node_bits layout (filter test words)) i ≡ true → bit_at (node_bits layout words) i ≡ true
fewer_bits layout test words i some one =
    let from = node_says layout (filter test words) i one in
    subst (λ n. bit_at (node_bits layout words) n ≡ true) from.gives (node_from layout words from.element some ((in_filtered test words from.element).0 from.there).0)

-- the bit of a tile of the subtree, by the tile
pub tile_of_node : (layout : Layout) (words : List ℕ) (r : Tile) (k m : ℕ) → IsStart layout r → k < layout.subtree_levels → m < branching layout.scheme ^ k
    → bit_at (node_bits layout (under layout r words)) (nodes_above layout.scheme k + m) ≡ true → Contains (tiles_of layout.scheme words) (below layout.scheme k r m)
tile_of_node layout words r k m start low h one =
    let found = word_of_node layout words r (nodes_above layout.scheme k + m) one in
    let w = found.0 in
    let same : word_tile layout.scheme w ≡ below layout.scheme k r m =
    tile_from_place layout (word_tile layout.scheme w) (below layout.scheme k r m) (tile_at_is_tile layout.scheme (word_level w) (word_index w)) (below_is_tile layout.scheme k r m)
    (found.1.root ∙ sym (below_root layout k r m start.tile start.start low h)) (found.1.at ∙ sym (below_place layout k r m start.start low h)) in
    subst (Contains (tiles_of layout.scheme words)) same (into_map (word_tile layout.scheme) words w found.1.there)

pub node_of_tile : (layout : Layout) (words : List ℕ) (r : Tile) (k m : ℕ) → IsStart layout r → k < layout.subtree_levels → m < branching layout.scheme ^ k
    → Contains (tiles_of layout.scheme words) (below layout.scheme k r m) → bit_at (node_bits layout (under layout r words)) (nodes_above layout.scheme k + m) ≡ true
node_of_tile layout words r k m start low h there =
    let from = from_map (word_tile layout.scheme) words (below layout.scheme k r m) there in
    node_of_word layout words r (nodes_above layout.scheme k + m) from.element start.some
    (record {
      there = from.there;
      root = ap (subtree_root layout) from.gives ∙ below_root layout k r m start.tile start.start low h;
      at = ap (place layout) from.gives ∙ below_place layout k r m start.start low h;
    })
