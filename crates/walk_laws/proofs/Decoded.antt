-- What a decoded subtree says of its tiles.
use Rattle.std.proofs.Common.{◌≡◌, ℕ, ◌+◌, ◌-◌, ◌*◌, ◌^◌, ◌<◌, Bool, true, false, List, map, sym, ap, subst, ◌∙◌, arith, add-zero}
use Rattle.std.specs.Prelude.{◌&&◌, filter}
use Rattle.std.specs.List.{range_with_len, All}
use Rattle.std.proofs.lemmas.Bool.{and_parts}
use Rattle.std.proofs.lemmas.List.Elements.{All-filter, filter_passes}
use Rattle.implicit_tiling.specs.declared.Scheme.{Scheme}
use Rattle.implicit_tiling.specs.Tile.{Tile, IsTile, branching, index, tile_at}
use Rattle.implicit_tiling.specs.Region.{Region, is_in}
use Rattle.implicit_tiling.specs.Scene.{Scene}
use Rattle.implicit_tiling.specs.Availability.{is_available, mask}
use Rattle.implicit_tiling.specs.Subtree.{Subtree, has_tile, has_orphan, contents_mask}
use Rattle.implicit_tiling.specs.Code.{word, tile_word}
use Rattle.implicit_tiling.specs.Nodes.{node_at, indices, is_tile_in, tiles_in, node_word, level_words}
use Rattle.implicit_tiling.specs.Steps.{descendants, pair_of, segment}
use Rattle.walk_laws.specs.Decoded.{IsDecoded}
use Rattle.tiling_laws.proofs.Walk.{filter_same}
use Rattle.walk_laws.proofs.Lists.{map_same, map-map, filter-map, of_range, range_shifted}
use Rattle.walk_laws.proofs.Runs.{below}
use Rattle.walk_laws.proofs.Plain.{plain_is, IsPlain, available_is_bit, mask_is}

-- a decoded subtree, spelled with the layout's scheme and levels
pub is_plain : (s : Scene) (st : Subtree) → IsDecoded s st → IsPlain s st
is_plain s st is = record {
  tile = let P : Scheme → Type 0 = λ e. IsTile e st.root in subst P is.of_layout.same_scheme is.within_limits.root_is_tile;
  start = is.of_layout.root_at_start;
  some_levels = omega (arith, is.within_limits.some_levels, is.of_layout.same_levels);
  named = is.of_layout.contents_named;
  no_orphan = ap has_orphan (plain_is s.layout st is.of_layout) ∙ is.no_orphan;
  same_bits = is.same_bits;
  reached = is.reached;
}

-- a node's tile is that of its number below the root, whatever the spelling
pub node_available : (s : Scene) (st : Subtree) (k m : ℕ) → IsDecoded s st → k < st.levels → m < branching st.scheme ^ k
    → is_available s (node_at st k m) ≡ has_tile st k m
node_available s st k m is low h =
    let P : Subtree → Type 0 = λ u. k < u.levels → m < branching u.scheme ^ k → is_available s (node_at u k m) ≡ has_tile u k m in
    subst P (plain_is s.layout st is.of_layout) (available_is_bit s st k m (is_plain s st is)) low h

pub node_mask : (s : Scene) (st : Subtree) (k m : ℕ) → IsDecoded s st → k < st.levels → m < branching st.scheme ^ k
    → has_tile st k m ≡ true → mask s (node_at st k m) ≡ contents_mask st k m
node_mask s st k m is low h there =
    let P : Subtree → Type 0 = λ u. k < u.levels → m < branching u.scheme ^ k → has_tile u k m ≡ true → mask s (node_at u k m) ≡ contents_mask u k m in
    subst P (plain_is s.layout st is.of_layout) (mask_is s st k m (is_plain s st is)) low h there

-- the descendants of a root are the nodes of its subtree
pub descendants_are : (scheme : Scheme) (k : ℕ) (r : Tile) → descendants scheme k r ≡ map (below scheme k r) (range_with_len 0 (branching scheme ^ k))
descendants_are scheme k r =
    let first = index scheme r * branching scheme ^ k in
    let f = tile_at scheme (r.level + k) in
    ap (λ a. map f (range_with_len a (branching scheme ^ k))) (sym (add-zero first)) ∙ range_shifted f first 0 (branching scheme ^ k)

-- two tests, the other way round
swapped : (a b c : Bool) → b ≡ c → (a && b) ≡ (c && a)
swapped true true c e = ap (λ w. w && true) e
swapped true false c e = ap (λ w. w && true) e
swapped false true c e = ap (λ w. w && false) e
swapped false false c e = ap (λ w. w && false) e

pub nodes_kept : (s : Scene) (region : Region) (st : Subtree) (k : ℕ) → IsDecoded s st → k < st.levels
    → filter (λ t. is_in region t && is_available s t) (map (node_at st k) (indices st k)) ≡ map (node_at st k) (tiles_in st region k)
nodes_kept s region st k is low =
    let kept : Tile → Bool = λ t. is_in region t && is_available s t in
    let same : All (λ m. kept (node_at st k m) ≡ is_tile_in st region k m) (indices st k) =
    of_range (λ m. kept (node_at st k m) ≡ is_tile_in st region k m) 0 (branching st.scheme ^ k)
    (λ m from to. swapped (is_in region (node_at st k m)) (is_available s (node_at st k m)) (has_tile st k m) (node_available s st k m is low (omega arith))) in
    filter-map kept (node_at st k) (indices st k) ∙ ap (map (node_at st k)) (filter_same (λ m. kept (node_at st k m)) (is_tile_in st region k) (indices st k) same)

pub nodes_make_a_segment : (s : Scene) (region : Region) (st : Subtree) (k : ℕ) → IsDecoded s st → k < st.levels
    → segment s region (pair_of (st.root.level + k) st.root) ≡ map (node_at st k) (tiles_in st region k)
nodes_make_a_segment s region st k is low =
    let kept : Tile → Bool = λ t. is_in region t && is_available s t in
    let local : st.root.level + k - st.root.level ≡ k = omega arith in
    let D : Scheme → List Tile = λ e. descendants e k st.root in
    ap (λ l. filter kept (descendants s.layout.scheme l st.root)) local
    ∙ ap (λ e. filter kept (D e)) (sym is.of_layout.same_scheme)
    ∙ ap (filter kept) (descendants_are st.scheme k st.root)
    ∙ nodes_kept s region st k is low

-- what holds of each node that is kept
pub of_tiles_in : (P : ℕ → Type 0) (st : Subtree) (region : Region) (k : ℕ)
    → ((m : ℕ) → m < branching st.scheme ^ k → has_tile st k m ≡ true → is_in region (node_at st k m) ≡ true → P m) → All P (tiles_in st region k)
of_tiles_in P st region k h =
    let passes = filter_passes (is_tile_in st region k) (indices st k) in
    let low : All (λ m. is_tile_in st region k m ≡ true → P m) (tiles_in st region k) =
    All-filter (is_tile_in st region k) (λ m. is_tile_in st region k m ≡ true → P m) (indices st k)
    (of_range (λ m. is_tile_in st region k m ≡ true → P m) 0 (branching st.scheme ^ k)
    (λ m from to there. let parts = and_parts (has_tile st k m) (is_in region (node_at st k m)) there in h m (omega arith) parts.0 parts.1)) in
    λ i d below. low i d below (passes i d below)

pub node_words : (s : Scene) (region : Region) (st : Subtree) (k : ℕ) → IsDecoded s st → k < st.levels
    → map (tile_word s) (segment s region (pair_of (st.root.level + k) st.root)) ≡ level_words st region k
node_words s region st k is low =
    let f : Tile → ℕ = tile_word s in
    let same : All (λ m. f (node_at st k m) ≡ node_word st k m) (tiles_in st region k) =
    of_tiles_in (λ m. f (node_at st k m) ≡ node_word st k m) st region k
    (λ m h there within. let t = node_at st k m in
    ap (λ e. word e t (mask s t)) (sym is.of_layout.same_scheme) ∙ ap (word st.scheme t) (node_mask s st k m is low h there)) in
    ap (map f) (nodes_make_a_segment s region st k is low)
    ∙ map-map f (node_at st k) (tiles_in st region k)
    ∙ map_same (λ m. f (node_at st k m)) (node_word st k) (tiles_in st region k) same
