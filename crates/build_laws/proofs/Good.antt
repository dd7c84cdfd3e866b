-- Each made subtree is one of its layout, and breaks no rule between its bits.
use Rattle.std.proofs.Common.{◌≡◌, ℕ, zero, suc, ◌+◌, ◌-◌, ◌/◌, ◌^◌, ◌<◌, ◌≤◌, Bool, true, false, List, refl, ap, subst, ◌∙◌, arith, length, map}
use Rattle.std.specs.Prelude.{◌&&◌, not}
use Rattle.std.specs.List.{Contains, list_any, range_with_len, filter}
use Rattle.std.proofs.lemmas.Bool.{and_parts, and_from, lt-ltb, ltb-true, not_from_true, false_from_ne_true, both_ways, eqb-true}
use Rattle.std.proofs.lemmas.List.Elements.{All-map, Contains-get_or}
use Rattle.std.proofs.lemmas.List.Folds.{Any-from_list_any, list_any_none}
use Rattle.std.proofs.lemmas.List.FromFn.{length-map-range_with_len}
use Rattle.implicit_tiling.specs.declared.Scheme.{Scheme}
use Rattle.implicit_tiling.specs.Tile.{Tile, branching}
use Rattle.implicit_tiling.specs.Scene.{Layout}
use Rattle.implicit_tiling.specs.Availability.{local_level, nodes_above, place, IsRootOf}
use Rattle.implicit_tiling.specs.Subtree.{IsSubtree, is_kept, node_bit, has_tile, some_node, has_orphan, has_content_alone, node_count}
use Rattle.implicit_tiling.specs.Bits.{bit_at}
use Rattle.walk_laws.proofs.Lists.{of_range}
use Rattle.walk_laws.proofs.Runs.{below, below_level}
use Rattle.tiling_laws.proofs.TileAt.{rest_below}
use Rattle.walk_laws.proofs.Plain.{below_parent}
use Rattle.walk_laws.proofs.Children.{IsStart, start_of}
use Rattle.tile_occupancy.specs.Occupied.{tiles_of}
use Rattle.build_laws.specs.Made.{tile_in, under, has_content, node_bits, child_roots, child_place, made_subtree, made_roots}
use Rattle.build_laws.specs.Holds.{AreWordsOf}
use Rattle.build_laws.specs.Laws.{IsMadeWell, MadeSubtreesAreGood}
use Rattle.build_laws.proofs.Bits.{from_map, length-bits_of_places}
use Rattle.build_laws.proofs.Under.{parent_there, made_is}
use Rattle.build_laws.proofs.Nodes.{fewer_bits, tile_of_node, node_of_tile}

-- no node passes a test
none_from : (scheme : Scheme) (first count : ℕ) (test : ℕ → ℕ → Bool)
    → ((l m : ℕ) → first ≤ l → l < first + count → m < branching scheme ^ l → test l m ≡ true → ⊥) → some_node scheme first count test ≡ false
none_from scheme first count test none =
    let level : ℕ → Bool = λ l. list_any (test l) (range_with_len 0 (branching scheme ^ l)) in
    list_any_none level (range_with_len first count) (of_range (λ l. level l ≡ false) first count
    (λ l low high. list_any_none (test l) (range_with_len 0 (branching scheme ^ l)) (of_range (λ m. test l m ≡ false) 0 (branching scheme ^ l)
    (λ m from within. false_from_ne_true (test l m) (none l m low high (omega (arith, within)))))))

-- what is known of a root, as the walks say it
pub start_of_made : (layout : Layout) (words : List ℕ) (r : Tile) → AreWordsOf layout words → IsRootOf layout r → IsStart layout r
start_of_made layout words r are is = start_of layout r are.limits.some_subtree_levels is.is_tile is.at_start

-- the parent of a node that is there is there
parent_is_there : (layout : Layout) (words : List ℕ) (r : Tile) (l m : ℕ) → AreWordsOf layout words → IsRootOf layout r
    → 1 ≤ l → l < layout.subtree_levels → m < branching layout.scheme ^ l
    → has_tile (made_subtree layout words r) l m ≡ true → has_tile (made_subtree layout words r) (l - 1) (m / branching layout.scheme) ≡ true
parent_is_there layout words r zero m are is some low h one = absurd (omega (arith, some))
parent_is_there layout words r (suc k) m are is some low h one =
    let s = made_subtree layout words r in
    let scheme = layout.scheme in
    let start = start_of_made layout words r are is in
    let parts = and_parts (is_kept s (suc k)) (bit_at s.tiles (nodes_above scheme (suc k) + m)) one in
    let here = tile_of_node layout words r (suc k) m start low h parts.1 in
    let up = parent_there scheme layout.levels words (below scheme (suc k) r m) are.whole here (omega (arith, below_level scheme (suc k) r m)) in
    let above : Contains (tiles_of scheme words) (below scheme k r (m / branching scheme)) = subst (Contains (tiles_of scheme words)) (below_parent scheme k r m) up in
    let bit = node_of_tile layout words r k (m / branching scheme) start (omega (arith, low)) (rest_below scheme k m h) above in
    let kept : is_kept s k ≡ true = lt-ltb (r.level + k) layout.levels (omega (arith, ltb-true (r.level + suc k) layout.levels parts.0)) in
    let back : k ≡ suc k - 1 = omega arith in
    subst (λ l. has_tile s l (m / branching scheme) ≡ true) back (and_from (is_kept s k) (bit_at s.tiles (nodes_above scheme k + m / branching scheme)) kept bit)

no_orphan : (layout : Layout) (words : List ℕ) (r : Tile) → AreWordsOf layout words → IsRootOf layout r → has_orphan (made_subtree layout words r) ≡ false
no_orphan layout words r are is =
    let s = made_subtree layout words r in
    none_from layout.scheme 1 (layout.subtree_levels - 1) (λ l m. has_tile s l m && not (has_tile s (l - 1) (m / branching layout.scheme)))
    (λ l m low high h both.
    let parts = and_parts (has_tile s l m) (not (has_tile s (l - 1) (m / branching layout.scheme))) both in
    let above = parent_is_there layout words r l m are is low (omega (arith, low, high)) h parts.0 in
    both_ways (not (has_tile s (l - 1) (m / branching layout.scheme))) (not_from_true (has_tile s (l - 1) (m / branching layout.scheme)) above) parts.1)

-- a node with a content is there
tile_of_content : (layout : Layout) (words : List ℕ) (r : Tile) (l m : ℕ) → 1 ≤ layout.subtree_levels
    → list_any (λ bits. node_bit (made_subtree layout words r) bits l m) (made_subtree layout words r).contents ≡ true → has_tile (made_subtree layout words r) l m ≡ true
tile_of_content layout words r l m some one =
    let s = made_subtree layout words r in
    let i = nodes_above layout.scheme l + m in
    let of_content : ℕ → List Bool = λ c. node_bits layout (filter (has_content c) (under layout r words)) in
    let found = Any-from_list_any (λ bits. node_bit s bits l m) s.contents one in
    let from = from_map of_content (range_with_len 0 (length layout.contents)) found.1 (found.0, found.2, found.3) in
    let parts = and_parts (is_kept s l) (bit_at found.1 i) found.4 in
    let bit : bit_at (of_content from.element) i ≡ true = ap (λ bits. bit_at bits i) from.gives ∙ parts.1 in
    and_from (is_kept s l) (bit_at s.tiles i) parts.0 (fewer_bits layout (has_content from.element) (under layout r words) i some bit)

no_content_alone : (layout : Layout) (words : List ℕ) (r : Tile) → 1 ≤ layout.subtree_levels → has_content_alone (made_subtree layout words r) ≡ false
no_content_alone layout words r some =
    let s = made_subtree layout words r in
    let some_content : ℕ → ℕ → Bool = λ l m. list_any (λ bits. node_bit s bits l m) s.contents in
    none_from layout.scheme 0 layout.subtree_levels (λ l m. some_content l m && not (has_tile s l m))
    (λ l m low high h both.
    let parts = and_parts (some_content l m) (not (has_tile s l m)) both in
    both_ways (not (has_tile s l m)) (not_from_true (has_tile s l m) (tile_of_content layout words r l m some parts.0)) parts.1)

within_limits : (layout : Layout) (words : List ℕ) (r : Tile) → AreWordsOf layout words → IsRootOf layout r → IsSubtree (made_subtree layout words r)
within_limits layout words r are is =
    let of_content : ℕ → List Bool = λ c. node_bits layout (filter (has_content c) (under layout r words)) in
    let count = length layout.contents in
    let nodes = node_count layout.scheme layout.subtree_levels in
    record {
      some_levels = are.limits.some_subtree_levels;
      few_levels = are.limits.few_subtree_levels;
      few_levels_in_all = are.limits.few_levels;
      root_below_cut = is.within;
      root_is_tile = is.is_tile;
      few_contents = omega (arith, are.limits.few_contents, length-map-range_with_len of_content 0 count);
      tile_bits = length-bits_of_places nodes (map (λ w. place layout (tile_in layout w)) (under layout r words));
      content_bits = All-map (λ bits. length bits ≡ nodes) of_content (range_with_len 0 count)
          (of_range (λ c. length (of_content c) ≡ nodes) 0 count
          (λ c low high. length-bits_of_places nodes (map (λ w. place layout (tile_in layout w)) (filter (has_content c) (under layout r words)))));
      child_bits = length-bits_of_places (branching layout.scheme ^ layout.subtree_levels) (map (child_place layout) (child_roots layout r words));
    }

pub made_well : (layout : Layout) (words : List ℕ) (r : Tile) → AreWordsOf layout words → IsRootOf layout r → IsMadeWell layout words r
made_well layout words r are is =
    let of_content : ℕ → List Bool = λ c. node_bits layout (filter (has_content c) (under layout r words)) in
    record {
      subtree = within_limits layout words r are is;
      of_layout = record {
        same_scheme = refl;
        same_levels = refl;
        same_cut = refl;
        contents_named = omega (arith, length-map-range_with_len of_content 0 (length layout.contents));
        root_at_start = eqb-true (local_level layout r) 0 is.at_start;
      };
      rules = record { no_orphan = no_orphan layout words r are is; no_content_alone = no_content_alone layout words r are.limits.some_subtree_levels };
    }

pub made_subtrees_are_good : MadeSubtreesAreGood
made_subtrees_are_good layout words are k d low =
    let there = Contains-get_or (made_roots layout words) k d low in
    made_well layout words _ are (made_is layout words _ are.limits.some_levels are.whole.are_words there)
