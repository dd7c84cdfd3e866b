-- Keys are a strict order, they rise along the list of all tiles, and the list has each tile of its levels.
use Rattle.std.proofs.Common.{◌≡◌, ℕ, zero, suc, ◌+◌, ◌^◌, ◌<◌, ◌≤◌, true, false, List, [], ◌∷◌, ◌++◌, get_or, sym, ap, subst, ◌∙◌, arith, add-one, zero-add, inl, inr, ◌⊎◌}
use Rattle.std.specs.Prelude.{◌&&◌, ◌==◌, nat_lt, ◌↔◌}
use Rattle.std.specs.List.{flat_map, range_with_len, All, AllPairs, Contains}
use Rattle.std.proofs.lemmas.Bool.{and_parts, or_cases, or_left, or_right, and_from, lt-ltb, le-ltb, ltb-true, eq-eqb, eqb-true, or_from, and_right, cases_order}
use Rattle.std.proofs.lemmas.List.Elements.{All-append, All-head, All-tail, All-nil, All-contains, All-map, Contains-append_left, Contains-append_right}
use Rattle.std.proofs.lemmas.List.Kept.{AllPairs-cons}
use Rattle.std.proofs.lemmas.List.FromFn.{get_or-map-range_with_len}
use Rattle.implicit_tiling.specs.declared.Scheme.{Scheme}
use Rattle.implicit_tiling.specs.Tile.{Tile, IsTile, branching, index, is_key_below, IsInKeyOrder, tile_at, tiles_of_level, all_tiles}
use Rattle.tiling_laws.specs.Order.{IsStrictOrder}
use Rattle.tiling_laws.proofs.Index.{index_below}
use Rattle.tiling_laws.proofs.TileAt.{tile_at_level, tile_at_is_tile, index_of_tile_at, tile_at_index, tile_from_index}
use Rattle.tiling_laws.proofs.Nodes.{levels_more, length-tiles_of_level}

-- what makes a key lower
pub below_by_level : (scheme : Scheme) (t u : Tile) → t.level < u.level → is_key_below scheme t u ≡ true
below_by_level scheme t u h = or_left (nat_lt t.level u.level) (t.level == u.level && nat_lt (index scheme t) (index scheme u)) (lt-ltb t.level u.level h)

pub below_by_index : (scheme : Scheme) (t u : Tile) → t.level ≡ u.level → index scheme t < index scheme u → is_key_below scheme t u ≡ true
below_by_index scheme t u same h =
    or_right (nat_lt t.level u.level) (t.level == u.level && nat_lt (index scheme t) (index scheme u))
    (and_from (t.level == u.level) (nat_lt (index scheme t) (index scheme u)) (eq-eqb t.level u.level same) (lt-ltb (index scheme t) (index scheme u) h))

-- and what a lower key says
pub below_says : (scheme : Scheme) (t u : Tile) → is_key_below scheme t u ≡ true → (t.level < u.level) ⊎ ((t.level ≡ u.level) × (index scheme t < index scheme u))
below_says scheme t u h =
    elim (or_cases (nat_lt t.level u.level) (t.level == u.level && nat_lt (index scheme t) (index scheme u)) h) [
      | inl level ↦ inl (ltb-true t.level u.level level)
      | inr both ↦ let parts = and_parts (t.level == u.level) (nat_lt (index scheme t) (index scheme u)) both in
          inr (eqb-true t.level u.level parts.0, ltb-true (index scheme t) (index scheme u) parts.1)
    ]

not_below_itself : (scheme : Scheme) (t : Tile) → is_key_below scheme t t ≡ false
not_below_itself scheme t =
    or_from (nat_lt t.level t.level) (t.level == t.level && nat_lt (index scheme t) (index scheme t)) (le-ltb t.level t.level (omega arith))
    (and_right (t.level == t.level) (nat_lt (index scheme t) (index scheme t)) (le-ltb (index scheme t) (index scheme t) (omega arith)))

below_chain : (scheme : Scheme) (t u v : Tile) → (t.level < u.level) ⊎ ((t.level ≡ u.level) × (index scheme t < index scheme u))
    → (u.level < v.level) ⊎ ((u.level ≡ v.level) × (index scheme u < index scheme v)) → is_key_below scheme t v ≡ true
below_chain scheme t u v (inl low) (inl high) = below_by_level scheme t v (omega arith)
below_chain scheme t u v (inl low) (inr high) = below_by_level scheme t v (omega arith)
below_chain scheme t u v (inr low) (inl high) = below_by_level scheme t v (omega arith)
below_chain scheme t u v (inr low) (inr high) = below_by_index scheme t v (omega arith) (omega arith)

by_index : (scheme : Scheme) (t u : Tile) → IsTile scheme t → IsTile scheme u → t.level ≡ u.level
    → (index scheme t ≡ index scheme u) ⊎ ((index scheme t < index scheme u) ⊎ (index scheme u < index scheme t))
    → (t ≡ u) ⊎ ((is_key_below scheme t u ≡ true) ⊎ (is_key_below scheme u t ≡ true))
by_index scheme t u one other level (inl same) = inl (tile_from_index scheme t u one other level same)
by_index scheme t u one other level (inr (inl low)) = inr (inl (below_by_index scheme t u level low))
by_index scheme t u one other level (inr (inr high)) = inr (inr (below_by_index scheme u t (sym level) high))

by_level : (scheme : Scheme) (t u : Tile) → IsTile scheme t → IsTile scheme u → (t.level ≡ u.level) ⊎ ((t.level < u.level) ⊎ (u.level < t.level))
    → (t ≡ u) ⊎ ((is_key_below scheme t u ≡ true) ⊎ (is_key_below scheme u t ≡ true))
by_level scheme t u one other (inl level) = by_index scheme t u one other level (cases_order (index scheme t) (index scheme u))
by_level scheme t u one other (inr (inl low)) = inr (inl (below_by_level scheme t u low))
by_level scheme t u one other (inr (inr high)) = inr (inr (below_by_level scheme u t high))

pub keys_are_an_order : (scheme : Scheme) → IsStrictOrder scheme
keys_are_an_order scheme = record {
  irreflexive = not_below_itself scheme;
  transitive = λ t u v low high. below_chain scheme t u v (below_says scheme t u low) (below_says scheme u v high);
  total = λ t u one other. by_level scheme t u one other (cases_order t.level u.level);
}

-- lists whose elements stand in an order, pair by pair
pub all_pairs_append : {X : Type 0} (R : X → X → Type 0) (xs ys : List X) → AllPairs R xs → AllPairs R ys → All (λ x. All (R x) ys) xs → AllPairs R (xs ++ ys)
all_pairs_append R [] ys first rest cross = rest
all_pairs_append R (x ∷ xs) ys first rest cross =
    let here : All (R x) xs = λ k d below. first 0 (suc k) d (omega arith) (omega arith) in
    let later : AllPairs R xs = λ i j d low high. first (suc i) (suc j) d (omega arith) (omega arith) in
    AllPairs-cons R x (xs ++ ys) (All-append (R x) xs ys here (All-head (λ w. All (R w) ys) x xs cross))
    (all_pairs_append R xs ys later rest (All-tail (λ w. All (R w) ys) x xs cross))

-- one level
level_tile : (scheme : Scheme) (level i : ℕ) (d : Tile) → i < branching scheme ^ level → get_or (tiles_of_level scheme level) i d ≡ tile_at scheme level i
level_tile scheme level i d h = get_or-map-range_with_len (tile_at scheme level) 0 (branching scheme ^ level) i i d h (zero-add i)

level_rises : (scheme : Scheme) (level : ℕ) → IsInKeyOrder scheme (tiles_of_level scheme level)
level_rises scheme level = λ i j d low within.
    let high : j < branching scheme ^ level = omega (arith, length-tiles_of_level scheme level) in
    let before : i < branching scheme ^ level = omega arith in
    let index_i = index_of_tile_at scheme level i before in
    let index_j = index_of_tile_at scheme level j high in
    let rise : is_key_below scheme (tile_at scheme level i) (tile_at scheme level j) ≡ true =
    below_by_index scheme (tile_at scheme level i) (tile_at scheme level j) (tile_at_level scheme level i ∙ sym (tile_at_level scheme level j)) (omega (arith, index_i, index_j)) in
    ap (λ t. is_key_below scheme t (get_or (tiles_of_level scheme level) j d)) (level_tile scheme level i d before)
    ∙ ap (λ t. is_key_below scheme (tile_at scheme level i) t) (level_tile scheme level j d high) ∙ rise

-- what holds of each tile of a level, by index
of_level : (P : Tile → Type 0) (scheme : Scheme) (level : ℕ) → ((i : ℕ) → P (tile_at scheme level i)) → All P (tiles_of_level scheme level)
of_level P scheme level h = All-map P (tile_at scheme level) (range_with_len 0 (branching scheme ^ level)) (λ k d below. h (get_or (range_with_len 0 (branching scheme ^ level)) k d))

-- and of each tile of the first levels
of_levels : (P : Tile → Type 0) (scheme : Scheme) (n : ℕ) → ((level i : ℕ) → level < n → P (tile_at scheme level i)) → All P (flat_map (tiles_of_level scheme) (range_with_len 0 n))
of_levels P scheme zero h = All-nil P
of_levels P scheme (suc n) h =
    let before = of_levels P scheme n (λ level i low. h level i (omega arith)) in
    let more = All-append P (flat_map (tiles_of_level scheme) (range_with_len 0 n)) (tiles_of_level scheme n) before (of_level P scheme n (λ i. h n i (omega arith))) in
    subst (All P) (sym (ap (λ k. flat_map (tiles_of_level scheme) (range_with_len 0 k)) (sym (add-one n)) ∙ levels_more scheme n)) more

pub of_all_tiles : (P : Tile → Type 0) (scheme : Scheme) (last : ℕ) → ((level i : ℕ) → level ≤ last → P (tile_at scheme level i)) → All P (all_tiles scheme last)
of_all_tiles P scheme last h = of_levels P scheme (last + 1) (λ level i low. h level i (omega arith))

levels_rise : (scheme : Scheme) (n : ℕ) → IsInKeyOrder scheme (flat_map (tiles_of_level scheme) (range_with_len 0 n))
levels_rise scheme zero = λ i j d low within. absurd (omega arith)
levels_rise scheme (suc n) =
    let R : Tile → Tile → Type 0 = λ t u. is_key_below scheme t u ≡ true in
    let cross : All (λ t. All (R t) (tiles_of_level scheme n)) (flat_map (tiles_of_level scheme) (range_with_len 0 n)) =
    of_levels (λ t. All (R t) (tiles_of_level scheme n)) scheme n (λ level i low. of_level (R (tile_at scheme level i)) scheme n
    (λ j. below_by_level scheme (tile_at scheme level i) (tile_at scheme n j) (omega (arith, tile_at_level scheme level i, tile_at_level scheme n j)))) in
    let more = all_pairs_append R (flat_map (tiles_of_level scheme) (range_with_len 0 n)) (tiles_of_level scheme n) (levels_rise scheme n) (level_rises scheme n) cross in
    subst (AllPairs R) (sym (ap (λ k. flat_map (tiles_of_level scheme) (range_with_len 0 k)) (sym (add-one n)) ∙ levels_more scheme n)) more

pub keys_rise : (scheme : Scheme) (last : ℕ) → IsInKeyOrder scheme (all_tiles scheme last)
keys_rise scheme last = levels_rise scheme (last + 1)

-- membership
in_level : (scheme : Scheme) (t : Tile) → IsTile scheme t → Contains (tiles_of_level scheme t.level) t
in_level scheme t tile = (
  index scheme t,
  omega (arith, index_below scheme t, length-tiles_of_level scheme t.level),
  level_tile scheme t.level (index scheme t) t (index_below scheme t) ∙ tile_at_index scheme t tile,
)

in_levels : (scheme : Scheme) (t : Tile) (n : ℕ) → IsTile scheme t → t.level < n → Contains (flat_map (tiles_of_level scheme) (range_with_len 0 n)) t
in_levels scheme t zero tile low = absurd (omega arith)
in_levels scheme t (suc n) tile low =
    let parts = sym (ap (λ k. flat_map (tiles_of_level scheme) (range_with_len 0 k)) (sym (add-one n)) ∙ levels_more scheme n) in
    let back : Contains (flat_map (tiles_of_level scheme) (range_with_len 0 n) ++ tiles_of_level scheme n) t → Contains (flat_map (tiles_of_level scheme) (range_with_len 0 (suc n))) t =
    subst (λ w. Contains w t) parts in
    elim (cases_order t.level n) [
      | inl same ↦ back (Contains-append_right (flat_map (tiles_of_level scheme) (range_with_len 0 n)) (tiles_of_level scheme n) t
          (subst (λ l. Contains (tiles_of_level scheme l) t) same (in_level scheme t tile)))
      | inr (inl lower) ↦ back (Contains-append_left (flat_map (tiles_of_level scheme) (range_with_len 0 n)) (tiles_of_level scheme n) t (in_levels scheme t n tile lower))
      | inr (inr higher) ↦ absurd (omega arith)
    ]

pub in_all_tiles : (scheme : Scheme) (last : ℕ) (t : Tile) → Contains (all_tiles scheme last) t ↔ (IsTile scheme t × (t.level ≤ last))
in_all_tiles scheme last t = (
  λ there. All-contains (λ u. IsTile scheme u × (u.level ≤ last)) (all_tiles scheme last) t
      (of_all_tiles (λ u. IsTile scheme u × (u.level ≤ last)) scheme last (λ level i low. (tile_at_is_tile scheme level i, omega (arith, tile_at_level scheme level i)))) there,
  λ is. in_levels scheme t (last + 1) is.0 (omega arith),
)
