-- The faults on a walk, level by level.
use Rattle.std.proofs.Common.{◌≡◌, ℕ, suc, ◌+◌, ◌-◌, ◌%◌, ◌≤◌, true, false, List, [], ◌∷◌, ◌++◌, Option, Some, None, get_or, map, sym, ap, ◌∙◌, arith, inl, inr, zero-add}
use Rattle.std.specs.Prelude.{◌&&◌, ◌||◌, ◌==◌, nat_lt, filter, option_map}
use Rattle.std.specs.List.{flat_map, range_with_len, filter_map, cons_option, All}
use Rattle.std.proofs.lemmas.Bool.{and_parts, eq-eqb, eqb-true, ne_eqb, cases_eq, false_from_ne_true}
use Rattle.std.proofs.lemmas.List.Elements.{filter_map-append}
use Rattle.std.proofs.lemmas.Grind.{flat_map-append}
use Rattle.implicit_tiling.specs.Tile.{Tile, parent, tile_at, tiles_of_level, all_tiles}
use Rattle.implicit_tiling.specs.Region.{Region, is_in}
use Rattle.implicit_tiling.specs.Scene.{Scene, fault_of}
use Rattle.implicit_tiling.specs.Availability.{local_level, is_subtree_root, child_bit, is_available, is_reached}
use Rattle.implicit_tiling.specs.Answer.{is_on_walk, fault_at, first, first_fault}
use Rattle.implicit_tiling.specs.Steps.{Pair, pair_of, pairs, root_level, walk_roots, fault_at_start}
use Rattle.tiling_laws.proofs.TileAt.{tile_at_level}
use Rattle.walk_laws.specs.Faults.{NoFaults, NoFaultsAbove}
use Rattle.walk_laws.proofs.Lists.{filter_none, filter-flat_map, filter_map-flat_map, flat_map_same, flat_map_none, filter_map_same, filter_map_none, filter_map-map, of_range, range-append}
use Rattle.walk_laws.proofs.Runs.{of_level}
use Rattle.walk_laws.proofs.Segments.{of_walk_roots, local_low}
use Rattle.walk_laws.proofs.StepList.{pair_fault_at}

-- a root on the walk stands where subtrees begin
pub walk_is_root : (s : Scene) (region : Region) (r : Tile) → is_on_walk s region r ≡ true → is_subtree_root s.layout r ≡ true
walk_is_root s region r on =
    let reached = (and_parts (is_reached s r) (is_in region r) on).0 in
    let parts = and_parts (is_subtree_root s.layout r && nat_lt r.level s.layout.levels) ((r.level == 0) || (is_available s (parent r) && child_bit s r)) reached in
    (and_parts (is_subtree_root s.layout r) (nat_lt r.level s.layout.levels) parts.0).0

-- the roots on the walk of a level where subtrees begin, and of another level
pub roots_of_start : (s : Scene) (region : Region) (l : ℕ) → l % s.layout.subtree_levels ≡ 0
    → filter (is_on_walk s region) (tiles_of_level s.layout.scheme l) ≡ walk_roots s region l
roots_of_start s region l start =
    let here : l ≡ root_level s.layout l = omega (arith, start) in
    ap (λ e. filter (is_on_walk s region) (tiles_of_level s.layout.scheme e)) here

pub roots_of_inner : (s : Scene) (region : Region) (l : ℕ) → (l % s.layout.subtree_levels ≡ 0 → ⊥)
    → filter (is_on_walk s region) (tiles_of_level s.layout.scheme l) ≡ []
roots_of_inner s region l inner =
    let on = is_on_walk s region in
    filter_none on (tiles_of_level s.layout.scheme l) (of_level (λ t. on t ≡ false) s.layout.scheme l
    (λ i h. let t = tile_at s.layout.scheme l i in
    false_from_ne_true (on t) (λ is. inner (sym (ap (λ w. w % s.layout.subtree_levels) (tile_at_level s.layout.scheme l i))
    ∙ eqb-true (local_level s.layout t) 0 (walk_is_root s region t is)))))

-- the faults of a level, by its tiles and by its pairs
abbrev pub faults_of : Scene → Region → ℕ → List (Tile × ℕ)
faults_of s region l = filter_map (fault_at s) (filter (is_on_walk s region) (tiles_of_level s.layout.scheme l))

start_faults : (s : Scene) (region : Region) (l : ℕ) → l % s.layout.subtree_levels ≡ 0
    → faults_of s region l ≡ filter_map (pair_fault_at s) (map (pair_of l) (walk_roots s region l))
start_faults s region l start =
    let same : All (λ r. fault_at s r ≡ pair_fault_at s (pair_of l r)) (walk_roots s region l) =
    of_walk_roots (λ r. fault_at s r ≡ pair_fault_at s (pair_of l r)) s region l
    (λ i h. let r = tile_at s.layout.scheme (root_level s.layout l) i in
    let own : (l == r.level) ≡ true = eq-eqb l r.level (omega (arith, start, tile_at_level s.layout.scheme (root_level s.layout l) i)) in
    ap {B = Option (Tile × ℕ)} (λ b. option_map (λ n. (r, n)) (fault_at_start b (fault_of (s.outcome r)))) (sym own)) in
    ap (filter_map (fault_at s)) (roots_of_start s region l start)
    ∙ filter_map_same (fault_at s) (λ r. pair_fault_at s (pair_of l r)) (walk_roots s region l) same
    ∙ sym (filter_map-map (pair_fault_at s) (pair_of l) (walk_roots s region l))

inner_faults : (s : Scene) (region : Region) (l : ℕ) → (l % s.layout.subtree_levels ≡ 0 → ⊥)
    → faults_of s region l ≡ filter_map (pair_fault_at s) (map (pair_of l) (walk_roots s region l))
inner_faults s region l inner =
    let none : All (λ r. pair_fault_at s (pair_of l r) ≡ None) (walk_roots s region l) =
    of_walk_roots (λ r. pair_fault_at s (pair_of l r) ≡ None) s region l
    (λ i h. let r = tile_at s.layout.scheme (root_level s.layout l) i in
    let at = tile_at_level s.layout.scheme (root_level s.layout l) i in
    let own : (l == r.level) ≡ false = ne_eqb l r.level (λ e. inner (omega (arith, at, e, local_low l s.layout.subtree_levels))) in
    ap {B = Option (Tile × ℕ)} (λ b. option_map (λ n. (r, n)) (fault_at_start b (fault_of (s.outcome r)))) own) in
    ap (filter_map (fault_at s)) (roots_of_inner s region l inner)
    ∙ sym (filter_map_none (λ r. pair_fault_at s (pair_of l r)) (walk_roots s region l) none)
    ∙ sym (filter_map-map (pair_fault_at s) (pair_of l) (walk_roots s region l))

pub level_faults : (s : Scene) (region : Region) (l : ℕ) → faults_of s region l ≡ filter_map (pair_fault_at s) (map (pair_of l) (walk_roots s region l))
level_faults s region l =
    elim (cases_eq (l % s.layout.subtree_levels) 0) [ inl start ↦ start_faults s region l start | inr inner ↦ inner_faults s region l inner ]

-- all faults on the walk
abbrev pub walk_faults : Scene → Region → List (Tile × ℕ)
walk_faults s region = filter_map (fault_at s) (filter (is_on_walk s region) (all_tiles s.layout.scheme region.level))

pub faults_by_level : (s : Scene) (region : Region) → walk_faults s region ≡ flat_map (faults_of s region) (range_with_len 0 (region.level + 1))
faults_by_level s region =
    let on = is_on_walk s region in
    let levels = range_with_len 0 (region.level + 1) in
    ap (filter_map (fault_at s)) (filter-flat_map on (tiles_of_level s.layout.scheme) levels)
    ∙ filter_map-flat_map (fault_at s) (λ l. filter on (tiles_of_level s.layout.scheme l)) levels

pub faults_by_pair : (s : Scene) (region : Region) → walk_faults s region ≡ filter_map (pair_fault_at s) (pairs s region)
faults_by_pair s region =
    let levels = range_with_len 0 (region.level + 1) in
    let of_pairs : ℕ → List Pair = λ l. map (pair_of l) (walk_roots s region l) in
    faults_by_level s region
    ∙ flat_map_same (faults_of s region) (λ l. filter_map (pair_fault_at s) (of_pairs l)) levels
    (of_range (λ l. faults_of s region l ≡ filter_map (pair_fault_at s) (of_pairs l)) 0 (region.level + 1) (λ l low high. level_faults s region l))
    ∙ sym (filter_map-flat_map (pair_fault_at s) of_pairs levels)

-- roots without a fault tell none
no_faults : (s : Scene) (roots : List Tile) → NoFaults s roots → filter_map (fault_at s) roots ≡ []
no_faults s roots none =
    filter_map_none (fault_at s) roots (λ k d below. ap {B = Option (Tile × ℕ)} (λ o. option_map (λ n. (get_or roots k d, n)) o) (none k d below))

none_of_level : (s : Scene) (region : Region) (l : ℕ) → (l % s.layout.subtree_levels ≡ 0 → NoFaults s (walk_roots s region l)) → faults_of s region l ≡ []
none_of_level s region l none =
    elim (cases_eq (l % s.layout.subtree_levels) 0) [
      | inl start ↦ ap (filter_map (fault_at s)) (roots_of_start s region l start) ∙ no_faults s (walk_roots s region l) (none start)
      | inr inner ↦ ap (filter_map (fault_at s)) (roots_of_inner s region l inner)
    ]

none_above : (s : Scene) (region : Region) (l : ℕ) → NoFaultsAbove s region l → flat_map (faults_of s region) (range_with_len 0 l) ≡ []
none_above s region l none =
    flat_map_none (faults_of s region) (range_with_len 0 l)
    (of_range (λ m. faults_of s region m ≡ []) 0 l (λ m low high. none_of_level s region m (none m (omega arith))))

pub no_fault_is_first : (s : Scene) (region : Region) → NoFaultsAbove s region (region.level + 1) → first_fault s region ≡ None
no_fault_is_first s region none = ap first (faults_by_level s region ∙ none_above s region (region.level + 1) none)

found_at : (s : Scene) (b : Tile) (n : ℕ) → fault_of (s.outcome b) ≡ Some n → fault_at s b ≡ Some (b, n)
found_at s b n fault = ap {B = Option (Tile × ℕ)} (λ o. option_map (λ k. (b, k)) o) fault

found_in_level : (s : Scene) (region : Region) (l n : ℕ) (before : List Tile) (b : Tile) (after : List Tile) → l % s.layout.subtree_levels ≡ 0
    → walk_roots s region l ≡ before ++ b ∷ after → NoFaults s before → fault_of (s.outcome b) ≡ Some n
    → faults_of s region l ≡ (b, n) ∷ filter_map (fault_at s) after
found_in_level s region l n before b after start roots none fault =
    ap (filter_map (fault_at s)) (roots_of_start s region l start ∙ roots)
    ∙ filter_map-append (fault_at s) before (b ∷ after)
    ∙ ap (λ w. w ++ filter_map (fault_at s) (b ∷ after)) (no_faults s before none)
    ∙ ap (λ o. cons_option o (filter_map (fault_at s) after)) (found_at s b n fault)

pub first_fault_is_the_first : (s : Scene) (region : Region) (l n : ℕ) (before : List Tile) (b : Tile) (after : List Tile)
    → l ≤ region.level → l % s.layout.subtree_levels ≡ 0 → NoFaultsAbove s region l
    → walk_roots s region l ≡ before ++ b ∷ after → NoFaults s before → fault_of (s.outcome b) ≡ Some n
    → first_fault s region ≡ Some (b, n)
first_fault_is_the_first s region l n before b after within start none roots none_before fault =
    let count : region.level + 1 ≡ l + suc (region.level - l) = omega (arith, within) in
    let f = faults_of s region in
    let rest = flat_map f (range_with_len (l + 1) (region.level - l)) in
    ap first (faults_by_level s region
    ∙ ap (λ c. flat_map f (range_with_len 0 c)) count
    ∙ ap (flat_map f) (range-append 0 l (suc (region.level - l)))
    ∙ flat_map-append f (range_with_len 0 l) (range_with_len (0 + l) (suc (region.level - l)))
    ∙ ap (λ w. w ++ flat_map f (range_with_len (0 + l) (suc (region.level - l)))) (none_above s region l none)
    ∙ ap (λ a. flat_map f (range_with_len a (suc (region.level - l)))) (zero-add l)
    ∙ ap (λ w. w ++ rest) (found_in_level s region l n before b after start roots none_before fault))
