-- The subtree that is made of the words level by level is the one that is made of those under its root.
use Rattle.std.proofs.Common.{◌≡◌, ℕ, Bool, List, refl, sym, ap, subst, ◌∙◌, get_or}
use Rattle.std.specs.Prelude.{length, filter}
use Rattle.std.specs.List.{All, range_with_len}
use Rattle.std.proofs.lemmas.List.Elements.{All-weaker, All-filter, All-same}
use Rattle.implicit_tiling.specs.Tile.{Tile}
use Rattle.implicit_tiling.specs.Scene.{Layout}
use Rattle.implicit_tiling.specs.Availability.{place, IsRootOf}
use Rattle.implicit_tiling.specs.Subtree.{Subtree, IsSubtree, node_count}
use Rattle.implicit_tiling.specs.Code.{IsWord}
use Rattle.bitstream.specs.Bits.{bits_of_places}
use Rattle.walk_laws.proofs.Lists.{map_same}
use Rattle.walk_laws.proofs.PairOrder.{all_flat_map}
use Rattle.tile_occupancy.specs.Occupied.{IsWordBelow}
use Rattle.build_laws.specs.Made.{tile_in, under, has_content, node_bits, child_bits, made_subtree}
use Rattle.build_laws.specs.Holds.{AreWordsOf}
use Rattle.build_laws.proofs.Good.{made_well}
use Rattle.tile_builder.specs.Bits.{content_bits, node_places}
use Rattle.tile_builder.specs.Runs.{is_below, words_below, inner_words}
use Rattle.tile_builder.proofs.Alike.{AreAlike, filter_alike, bits_alike}
use Rattle.tile_builder.proofs.Inner.{inner_is_under, below_are_children}

-- words are words wherever they stand
are_words : (layout : Layout) (words : List ℕ) → AreWordsOf layout words → All (IsWord layout.scheme) words
are_words layout words are = All-weaker (IsWordBelow layout.scheme layout.levels) (IsWord layout.scheme) (λ w h. h.is_word) words are.whole.are_words

pub below_are_words : (layout : Layout) (words found : List ℕ) (r : Tile) (down : ℕ) → AreWordsOf layout words → found ≡ words_below layout words r down → All (IsWord layout.scheme) found
below_are_words layout words found r down are is =
    All-same (IsWord layout.scheme) found (words_below layout words r down) is (All-filter (is_below layout r down) (IsWord layout.scheme) words (are_words layout words are))

pub inner_are_words : (layout : Layout) (words found : List ℕ) (r : Tile) → AreWordsOf layout words → found ≡ inner_words layout words r → All (IsWord layout.scheme) found
inner_are_words layout words found r are is =
    let levels = range_with_len 0 layout.subtree_levels in
    All-same (IsWord layout.scheme) found (inner_words layout words r) is
    (all_flat_map (IsWord layout.scheme) (words_below layout words r) levels
    (λ k d h. All-filter (is_below layout r (get_or levels k d)) (IsWord layout.scheme) words (are_words layout words are)))

-- the bits of words that are alike
nodes_alike : (layout : Layout) (xs ys : List ℕ) → AreAlike xs ys → node_bits layout xs ≡ node_bits layout ys
nodes_alike layout xs ys alike = bits_alike (node_count layout.scheme layout.subtree_levels) (λ w. place layout (tile_in layout w)) xs ys alike

contents_alike : (layout : Layout) (xs ys : List ℕ) → AreAlike xs ys → content_bits layout xs ≡ content_bits layout ys
contents_alike layout xs ys alike =
    let numbers = range_with_len 0 (length layout.contents) in
    map_same (λ c. node_bits layout (filter (has_content c) xs)) (λ c. node_bits layout (filter (has_content c) ys)) numbers
    (λ k d h. let c = get_or numbers k d in nodes_alike layout (filter (has_content c) xs) (filter (has_content c) ys) (filter_alike (has_content c) xs ys alike))

-- what the code hands over: the parts of the subtree
pub record IsMadeOf (layout : Layout) (words : List ℕ) (r : Tile) (s : Subtree) : Type 0 where
  pub scheme : s.scheme ≡ layout.scheme
  pub levels : s.levels ≡ layout.subtree_levels
  pub cut : s.cut ≡ layout.levels
  pub root : s.root ≡ r
  pub tiles : s.tiles ≡ node_bits layout (inner_words layout words r)
  pub contents : s.contents ≡ content_bits layout (inner_words layout words r)
  pub child : s.child ≡ child_bits layout (words_below layout words r layout.subtree_levels)

same_subtree : (s t : Subtree) → s.scheme ≡ t.scheme → s.levels ≡ t.levels → s.cut ≡ t.cut → s.root ≡ t.root → s.tiles ≡ t.tiles → s.contents ≡ t.contents → s.child ≡ t.child → s ≡ t
same_subtree s t scheme levels cut root tiles contents child =
    ap (λ v. record s { scheme = v }) scheme
    ∙ ap (λ v. record s { scheme = t.scheme; levels = v }) levels
    ∙ ap (λ v. record s { scheme = t.scheme; levels = t.levels; cut = v }) cut
    ∙ ap (λ v. record s { scheme = t.scheme; levels = t.levels; cut = t.cut; root = v }) root
    ∙ ap (λ v. record s { scheme = t.scheme; levels = t.levels; cut = t.cut; root = t.root; tiles = v }) tiles
    ∙ ap (λ v. record s { scheme = t.scheme; levels = t.levels; cut = t.cut; root = t.root; tiles = t.tiles; contents = v }) contents
    ∙ ap (λ v. record s { scheme = t.scheme; levels = t.levels; cut = t.cut; root = t.root; tiles = t.tiles; contents = t.contents; child = v }) child

pub made_is : (layout : Layout) (words : List ℕ) (r : Tile) (s : Subtree) → AreWordsOf layout words → IsRootOf layout r → IsMadeOf layout words r s → s ≡ made_subtree layout words r
made_is layout words r s are is of =
    let some = are.limits.some_subtree_levels in
    let alike = inner_is_under layout words r some is.at_start in
    same_subtree s (made_subtree layout words r) of.scheme of.levels of.cut of.root (of.tiles ∙ nodes_alike layout (inner_words layout words r) (under layout r words) alike)
    (of.contents ∙ contents_alike layout (inner_words layout words r) (under layout r words) alike)
    (of.child ∙ ap (child_bits layout) (below_are_children layout words r some is.at_start))

pub made_is_subtree : (layout : Layout) (words : List ℕ) (r : Tile) (s : Subtree) → AreWordsOf layout words → IsRootOf layout r → IsMadeOf layout words r s → IsSubtree s
made_is_subtree layout words r s are is of =
    subst IsSubtree (sym (made_is layout words r s are is of)) (made_well layout words r are is).subtree

pub parts_of : (layout inside : Layout) (words places contents_from roots : List ℕ) (r : Tile) (tiles child : List Bool) (contents : List (List Bool)) → inside ≡ layout
    → places ≡ node_places layout (inner_words layout words r) → contents_from ≡ inner_words layout words r → roots ≡ words_below layout words r inside.subtree_levels
    → tiles ≡ bits_of_places (node_count layout.scheme layout.subtree_levels) places → contents ≡ content_bits layout contents_from → child ≡ child_bits layout roots
    → IsMadeOf layout words r (record { scheme = inside.scheme; levels = inside.subtree_levels; cut = inside.levels; root = r; tiles = tiles; contents = contents; child = child })
parts_of layout inside words places contents_from roots r tiles child contents same nodes held below tiles_are contents_are child_is = record {
  scheme = ap (λ (l : Layout). l.scheme) same;
  levels = ap (λ (l : Layout). l.subtree_levels) same;
  cut = ap (λ (l : Layout). l.levels) same;
  root = refl;
  tiles = tiles_are ∙ ap (bits_of_places (node_count layout.scheme layout.subtree_levels)) nodes;
  contents = contents_are ∙ ap (content_bits layout) held;
  child = child_is ∙ ap (child_bits layout) (below ∙ ap (λ (l : Layout). words_below layout words r l.subtree_levels) same);
}
