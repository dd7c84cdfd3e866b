-- The pairs of a walk stand in the order of the keys of their tiles.
use Rattle.std.proofs.Common.{◌≡◌, ℕ, zero, suc, ◌+◌, ◌-◌, ◌^◌, ◌<◌, ◌≤◌, Bool, true, false, List, [], ◌∷◌, ◌++◌, Option, Some, get_or, map, refl, sym, ap, subst, ◌∙◌, arith, inl, inr}
use Rattle.std.specs.Prelude.{◌&&◌, ◌==◌}
use Rattle.std.specs.List.{flat_map, range_with_len, All, AllPairs}
use Rattle.std.proofs.lemmas.Bool.{eqb-true, false_from_ne_true}
use Rattle.std.proofs.lemmas.List.Elements.{All-nil, All-append, All-head, All-tail, All-map, All-filter}
use Rattle.std.proofs.lemmas.List.Kept.{AllPairs-cons, AllPairs-filter}
use Rattle.implicit_tiling.specs.declared.Scheme.{Scheme}
use Rattle.implicit_tiling.specs.Tile.{Tile, IsTile, branching, index, is_key_below, tile_at, tiles_of_level}
use Rattle.implicit_tiling.specs.Region.{Region, is_in}
use Rattle.implicit_tiling.specs.Scene.{Scene, fault_of}
use Rattle.implicit_tiling.specs.Availability.{is_available}
use Rattle.implicit_tiling.specs.Answer.{is_on_walk}
use Rattle.implicit_tiling.specs.Steps.{Pair, pair_of, pairs, root_level, walk_roots, descendants, segment, fault_at_start, pair_fault}
use Rattle.tiling_laws.proofs.TileAt.{tile_at_is_tile, tile_at_level, index_of_tile_at}
use Rattle.tiling_laws.proofs.Order.{all_pairs_append, below_by_level, below_by_index, below_says, keys_are_an_order}
use Rattle.tiling_laws.proofs.Subtrees.{ancestor_none}
use Rattle.walk_laws.proofs.Lists.{of_range}
use Rattle.walk_laws.proofs.Runs.{below, below_level, below_ancestor, of_descendants}
use Rattle.walk_laws.proofs.Segments.{of_walk_roots}

-- lists whose elements stand in an order, pair by pair
pub all_pairs_map : {X Y : Type 0} (R : Y → Y → Type 0) (f : X → Y) (xs : List X) → AllPairs (λ a b. R (f a) (f b)) xs → AllPairs R (map f xs)
all_pairs_map R f [] h = λ i j d low high. absurd (omega arith)
all_pairs_map R f (x ∷ xs) h =
    let here : All (λ b. R (f x) (f b)) xs = λ k d below. h 0 (suc k) d (omega arith) (omega arith) in
    let later : AllPairs (λ a b. R (f a) (f b)) xs = λ i j d low high. h (suc i) (suc j) d (omega arith) (omega arith) in
    AllPairs-cons R (f x) (map f xs) (All-map (R (f x)) f xs here) (all_pairs_map R f xs later)

pub all_pairs_range : (R : ℕ → ℕ → Type 0) (a n : ℕ) → ((i j : ℕ) → a ≤ i → i < j → j < a + n → R i j) → AllPairs R (range_with_len a n)
all_pairs_range R a zero h = λ i j d low high. absurd (omega arith)
all_pairs_range R a (suc n) h =
    AllPairs-cons R a (range_with_len (a + 1) n) (of_range (R a) (a + 1) n (λ j low high. h a j (omega arith) (omega arith) (omega arith)))
    (all_pairs_range R (a + 1) n (λ i j low less high. h i j (omega arith) less (omega arith)))

pub all_flat_map : {X Y : Type 0} (P : Y → Type 0) (f : X → List Y) (xs : List X) → All (λ x. All P (f x)) xs → All P (flat_map f xs)
all_flat_map P f [] h = All-nil P
all_flat_map P f (x ∷ xs) h = All-append P (f x) (flat_map f xs) (All-head (λ w. All P (f w)) x xs h) (all_flat_map P f xs (All-tail (λ w. All P (f w)) x xs h))

pub all_pairs_flat_map : {X : Type 0} (R : X → X → Type 0) (f : ℕ → List X) (a n : ℕ) → ((l : ℕ) → AllPairs R (f l))
    → ((l m : ℕ) → l < m → All (λ x. All (R x) (f m)) (f l)) → AllPairs R (flat_map f (range_with_len a n))
all_pairs_flat_map R f a zero within cross = λ i j d low high. absurd (omega arith)
all_pairs_flat_map {X} R f a (suc n) within cross =
    let later = flat_map f (range_with_len (a + 1) n) in
    let over : All (λ x. All (R x) later) (f a) =
    λ k d below. let x : X = get_or (f a) k d in
    all_flat_map (R x) f (range_with_len (a + 1) n) (of_range (λ m. All (R x) (f m)) (a + 1) n (λ m low high. cross a m (omega arith) k d below)) in
    all_pairs_append R (f a) later (within a) (all_pairs_flat_map R f (a + 1) n within cross) over

-- a pair whose root has a fault to tell has the root's own level
fault_level : (b : Bool) (found : Option ℕ) (n : ℕ) → fault_at_start b found ≡ Some n → b ≡ true
fault_level true found n h = refl
fault_level false found n h = absurd (cc)

pub own_level : (s : Scene) (l : ℕ) (r : Tile) (n : ℕ) → pair_fault s (pair_of l r) ≡ Some n → l ≡ r.level
own_level s l r n h = eqb-true l r.level (fault_level (l == r.level) (fault_of (s.outcome r)) n h)

-- the tiles of a pair have its level, and at the root's own level there is the root alone
pub segment_level : (s : Scene) (region : Region) (l : ℕ) (r : Tile) → r.level ≤ l → All (λ t. t.level ≡ l) (segment s region (pair_of l r))
segment_level s region l r le =
    All-filter (λ t. is_in region t && is_available s t) (λ t. t.level ≡ l) (descendants s.layout.scheme (l - r.level) r)
    (of_descendants (λ t. t.level ≡ l) s.layout.scheme (l - r.level) r (λ j h. omega (arith, below_level s.layout.scheme (l - r.level) r j)))

descendants_none : (scheme : Scheme) (k : ℕ) (r : Tile) → k ≡ 0 → IsTile scheme r → All (λ t. t ≡ r) (descendants scheme k r)
descendants_none scheme k r none tile =
    let D : ℕ → Type 0 = λ e. All (λ t. t ≡ r) (descendants scheme e r) in
    subst D (sym none)
    (of_descendants (λ t. t ≡ r) scheme 0 r (λ j h. sym (ancestor_none (below scheme 0 r j)) ∙ below_ancestor scheme 0 r j tile h))

pub segment_own : (s : Scene) (region : Region) (l : ℕ) (r : Tile) → IsTile s.layout.scheme r → l ≡ r.level → All (λ t. t ≡ r) (segment s region (pair_of l r))
segment_own s region l r tile own =
    All-filter (λ t. is_in region t && is_available s t) (λ t. t ≡ r) (descendants s.layout.scheme (l - r.level) r)
    (descendants_none s.layout.scheme (l - r.level) r (omega arith) tile)

-- a key that isn't below another
pub not_below_level : (scheme : Scheme) (t u : Tile) → u.level < t.level → is_key_below scheme t u ≡ false
not_below_level scheme t u h =
    false_from_ne_true (is_key_below scheme t u) (λ is. elim (below_says scheme t u is) [ inl low ↦ omega arith | inr same ↦ omega (arith, same.0) ])

pub not_below_index : (scheme : Scheme) (t u : Tile) → index scheme u ≤ index scheme t → u.level ≡ t.level → is_key_below scheme t u ≡ false
not_below_index scheme t u h level =
    false_from_ne_true (is_key_below scheme t u) (λ is. elim (below_says scheme t u is) [ inl low ↦ omega arith | inr same ↦ omega (arith, same.1) ])

-- the tiles of p stand below the root of a later pair q that has a fault, and those of q not below the root of p if it has one
pub record IsAhead (s : Scene) (region : Region) (p q : Pair) : Type 0 where
  pub ahead : (n : ℕ) → pair_fault s q ≡ Some n → All (λ t. is_key_below s.layout.scheme t q.root ≡ true) (segment s region p)
  pub behind : (n : ℕ) → pair_fault s p ≡ Some n → All (λ t. is_key_below s.layout.scheme t p.root ≡ false) (segment s region q)

-- the tiles of a pair with a fault don't stand below its root
pub record IsAlone (s : Scene) (region : Region) (p : Pair) : Type 0 where
  pub own : (n : ℕ) → pair_fault s p ≡ Some n → All (λ t. is_key_below s.layout.scheme t p.root ≡ false) (segment s region p)

-- pairs of two levels
pub levels_ahead : (s : Scene) (region : Region) (l m : ℕ) (r u : Tile) → l < m → r.level ≤ l → u.level ≤ m → IsAhead s region (pair_of l r) (pair_of m u)
levels_ahead s region l m r u less low high = record {
  ahead = λ n h. let own = own_level s m u n h in
      λ k d below. let t = segment_level s region l r low k d below in
      below_by_level s.layout.scheme (get_or (segment s region (pair_of l r)) k d) u (omega (arith, t, own));
  behind = λ n h. let own = own_level s l r n h in
      λ k d below. let t = segment_level s region m u high k d below in
      not_below_level s.layout.scheme (get_or (segment s region (pair_of m u)) k d) r (omega (arith, t, own));
}

-- pairs of one level
pub roots_ahead : (s : Scene) (region : Region) (l : ℕ) (r u : Tile) → IsTile s.layout.scheme r → IsTile s.layout.scheme u → r.level ≡ u.level
    → index s.layout.scheme r < index s.layout.scheme u → IsAhead s region (pair_of l r) (pair_of l u)
roots_ahead s region l r u r_tile u_tile level less = record {
  ahead = λ n h. let own = own_level s l u n h in
      λ k d below. ap (λ t. is_key_below s.layout.scheme t u) (segment_own s region l r r_tile (omega arith) k d below) ∙ below_by_index s.layout.scheme r u level less;
  behind = λ n h. let own = own_level s l r n h in
      λ k d below. ap (λ t. is_key_below s.layout.scheme t r) (segment_own s region l u u_tile (omega arith) k d below) ∙ not_below_index s.layout.scheme u r (omega arith) level;
}

pub root_alone : (s : Scene) (region : Region) (l : ℕ) (r : Tile) → IsTile s.layout.scheme r → IsAlone s region (pair_of l r)
root_alone s region l r tile = record {
  own = λ n h. λ k d below. ap (λ t. is_key_below s.layout.scheme t r) (segment_own s region l r tile (own_level s l r n h) k d below) ∙ (keys_are_an_order s.layout.scheme).irreflexive r;
}

-- all pairs of a walk
of_level_pairs : (P : Pair → Type 0) (s : Scene) (region : Region) (l : ℕ)
    → ((r : Tile) → IsTile s.layout.scheme r → r.level ≡ root_level s.layout l → P (pair_of l r)) → All P (map (pair_of l) (walk_roots s region l))
of_level_pairs P s region l h =
    All-map P (pair_of l) (walk_roots s region l) (of_walk_roots (λ r. P (pair_of l r)) s region l
    (λ i low. h (tile_at s.layout.scheme (root_level s.layout l) i) (tile_at_is_tile s.layout.scheme (root_level s.layout l) i) (tile_at_level s.layout.scheme (root_level s.layout l) i)))

pub pairs_alone : (s : Scene) (region : Region) → All (IsAlone s region) (pairs s region)
pairs_alone s region =
    all_flat_map (IsAlone s region) (λ l. map (pair_of l) (walk_roots s region l)) (range_with_len 0 (region.level + 1))
    (of_range (λ l. All (IsAlone s region) (map (pair_of l) (walk_roots s region l))) 0 (region.level + 1)
    (λ l low high. of_level_pairs (IsAlone s region) s region l (λ r tile level. root_alone s region l r tile)))

level_ahead : (s : Scene) (region : Region) (l : ℕ) → AllPairs (IsAhead s region) (map (pair_of l) (walk_roots s region l))
level_ahead s region l =
    let scheme = s.layout.scheme in
    let start = root_level s.layout l in
    let R : Tile → Tile → Type 0 = λ r u. IsAhead s region (pair_of l r) (pair_of l u) in
    all_pairs_map (IsAhead s region) (pair_of l) (walk_roots s region l)
    (AllPairs-filter R (is_on_walk s region) (tiles_of_level scheme start)
    (all_pairs_map R (tile_at scheme start) (range_with_len 0 (branching scheme ^ start))
    (all_pairs_range (λ i j. R (tile_at scheme start i) (tile_at scheme start j)) 0 (branching scheme ^ start)
    (λ i j low less high. let r = tile_at scheme start i in let u = tile_at scheme start j in
    let at_i = index_of_tile_at scheme start i (omega arith) in
    let at_j = index_of_tile_at scheme start j (omega arith) in
    roots_ahead s region l r u (tile_at_is_tile scheme start i) (tile_at_is_tile scheme start j)
    (tile_at_level scheme start i ∙ sym (tile_at_level scheme start j)) (omega (arith, at_i, at_j))))))

pub pairs_ahead : (s : Scene) (region : Region) → AllPairs (IsAhead s region) (pairs s region)
pairs_ahead s region =
    all_pairs_flat_map (IsAhead s region) (λ l. map (pair_of l) (walk_roots s region l)) 0 (region.level + 1) (level_ahead s region)
    (λ l m less. of_level_pairs (λ p. All (IsAhead s region p) (map (pair_of m) (walk_roots s region m))) s region l
    (λ r r_tile r_level. of_level_pairs (IsAhead s region (pair_of l r)) s region m
    (λ u u_tile u_level. levels_ahead s region l m r u less (omega (arith, r_level)) (omega (arith, u_level)))))
