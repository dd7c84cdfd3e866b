-- The roots that are reached, level by level.
use Rattle.std.proofs.Common.{◌≡◌, ℕ, zero, suc, ◌+◌, ◌-◌, ◌*◌, ◌/◌, ◌%◌, ◌<◌, ◌≤◌, true, false, [], ◌++◌, sym, ap, subst, ◌∙◌, arith, inl, inr, zero-add, append-nil}
use Rattle.std.specs.Prelude.{◌&&◌, ◌||◌, ◌==◌, nat_lt, filter}
use Rattle.std.specs.List.{flat_map, range_with_len}
use Rattle.std.proofs.Math.Nat.{div-add-mod}
use Rattle.std.proofs.lemmas.Nat.{mod_below}
use Rattle.std.proofs.lemmas.Bool.{and_parts, and_from, ltb-true, cases_eq, false_from_ne_true}
use Rattle.std.proofs.lemmas.Grind.{flat_map-append}
use Rattle.implicit_tiling.specs.Tile.{Tile, IsTile, parent, tile_at, tiles_of_level}
use Rattle.implicit_tiling.specs.Region.{Region, is_in}
use Rattle.implicit_tiling.specs.Scene.{Scene}
use Rattle.implicit_tiling.specs.Availability.{is_subtree_root, child_bit, is_available, is_reached}
use Rattle.implicit_tiling.specs.Answer.{is_on_walk}
use Rattle.implicit_tiling.specs.Checked.{reached_roots}
use Rattle.implicit_tiling.specs.Steps.{root_level, walk_roots}
use Rattle.tiling_laws.proofs.TileAt.{tile_at_is_tile, tile_at_level}
use Rattle.walk_laws.specs.Children.{roots_below}
use Rattle.walk_laws.specs.Frontiers.{whole_of, reached_above, reached_at}
use Rattle.tiling_laws.proofs.Walk.{filter_same}
use Rattle.walk_laws.proofs.Lists.{filter_none, filter-flat_map, flat_map_none, of_range, range-append}
use Rattle.walk_laws.proofs.Runs.{of_level}
use Rattle.walk_laws.proofs.Segments.{local_of}
use Rattle.walk_laws.proofs.Plain.{same_test}
use Rattle.walk_laws.proofs.Children.{next_level, roots_go_down}
use Rattle.walk_laws.proofs.Faults.{roots_of_start, roots_of_inner}
use Rattle.walk_laws.proofs.Whole.{whole_has_each_tile}

-- a root that is reached is below the levels in all
pub reached_level : (s : Scene) (r : Tile) → is_reached s r ≡ true → r.level < s.layout.levels
reached_level s r h =
    let parts = and_parts (is_subtree_root s.layout r && nat_lt r.level s.layout.levels) ((r.level == 0) || (is_available s (parent r) && child_bit s r)) h in
    ltb-true r.level s.layout.levels (and_parts (is_subtree_root s.layout r) (nat_lt r.level s.layout.levels) parts.0).1

pub reached_is_on_the_whole_walk : (s : Scene) (t : Tile) → IsTile s.layout.scheme t → is_on_walk s (whole_of s) t ≡ is_reached s t
reached_is_on_the_whole_walk s t tile =
    same_test (is_on_walk s (whole_of s) t) (is_reached s t) (λ on. (and_parts (is_reached s t) (is_in (whole_of s) t) on).0)
    (λ reached. and_from (is_reached s t) (is_in (whole_of s) t) reached (whole_has_each_tile s.layout.scheme s.layout.levels t tile (reached_level s t reached)))

reached_walk : (s : Scene) (l : ℕ) → reached_at s l ≡ filter (is_on_walk s (whole_of s)) (tiles_of_level s.layout.scheme l)
reached_walk s l =
    filter_same (is_reached s) (is_on_walk s (whole_of s)) (tiles_of_level s.layout.scheme l)
    (of_level (λ t. is_reached s t ≡ is_on_walk s (whole_of s) t) s.layout.scheme l
    (λ i h. sym (reached_is_on_the_whole_walk s (tile_at s.layout.scheme l i) (tile_at_is_tile s.layout.scheme l i))))

pub reached_at_start : (s : Scene) (l : ℕ) → l % s.layout.subtree_levels ≡ 0 → reached_at s l ≡ walk_roots s (whole_of s) l
reached_at_start s l start = reached_walk s l ∙ roots_of_start s (whole_of s) l start

reached_at_inner : (s : Scene) (l : ℕ) → (l % s.layout.subtree_levels ≡ 0 → ⊥) → reached_at s l ≡ []
reached_at_inner s l inner = reached_walk s l ∙ roots_of_inner s (whole_of s) l inner

pub reached_by_level : (s : Scene) (l : ℕ) → reached_above s l ≡ flat_map (reached_at s) (range_with_len 0 l)
reached_by_level s l = filter-flat_map (is_reached s) (tiles_of_level s.layout.scheme) (range_with_len 0 l)

-- n levels more
pub reached_more : (s : Scene) (l n : ℕ) → reached_above s (l + n) ≡ reached_above s l ++ flat_map (reached_at s) (range_with_len l n)
reached_more s l n =
    let f = reached_at s in
    reached_by_level s (l + n) ∙ ap (flat_map f) (range-append 0 l n)
    ∙ flat_map-append f (range_with_len 0 l) (range_with_len (0 + l) n)
    ∙ ap (λ a. flat_map f (range_with_len 0 l) ++ flat_map f (range_with_len a n)) (zero-add l)
    ∙ ap (λ w. w ++ flat_map f (range_with_len l n)) (sym (reached_by_level s l))

-- levels that have none
reached_same : (s : Scene) (l n : ℕ) → ((m : ℕ) → l ≤ m → m < l + n → reached_at s m ≡ []) → reached_above s (l + n) ≡ reached_above s l
reached_same s l n none =
    reached_more s l n
    ∙ ap (λ w. reached_above s l ++ w) (flat_map_none (reached_at s) (range_with_len l n) (of_range (λ m. reached_at s m ≡ []) l n none))
    ∙ append-nil (reached_above s l)

pub inner_level : (l m levels : ℕ) → l % levels ≡ 0 → l < m → m < l + levels → m % levels ≡ 0 → ⊥
inner_level l m levels start low high is =
    let local : m % levels ≡ m - l = ap (λ w. w % levels) (omega arith) ∙ local_of l (m - l) levels start (omega arith) in
    omega (arith, local)

pub reached_go_down : (s : Scene) (l : ℕ) → 1 ≤ s.layout.subtree_levels → l % s.layout.subtree_levels ≡ 0
    → reached_above s (l + s.layout.subtree_levels) ≡ reached_above s l ++ walk_roots s (whole_of s) l
reached_go_down s l some start =
    let n = s.layout.subtree_levels in
    let count : l + n ≡ l + 1 + (n - 1) = omega (arith, some) in
    ap (reached_above s) count
    ∙ reached_same s (l + 1) (n - 1) (λ m low high. reached_at_inner s m (inner_level l m n start (omega arith) (omega arith)))
    ∙ reached_more s l 1
    ∙ ap (λ w. reached_above s l ++ w) (append-nil (reached_at s l) ∙ reached_at_start s l start)

pub reached_are_all : (s : Scene) (l : ℕ) → 1 ≤ s.layout.levels → s.layout.levels ≤ l → reached_above s l ≡ reached_roots s
reached_are_all s l some high =
    let levels = s.layout.levels in
    let up : l ≡ levels - 1 + 1 + (l - levels) = omega arith in
    ap (reached_above s) up
    ∙ reached_same s (levels - 1 + 1) (l - levels)
    (λ m low below. filter_none (is_reached s) (tiles_of_level s.layout.scheme m) (of_level (λ t. is_reached s t ≡ false) s.layout.scheme m
    (λ i h. let t = tile_at s.layout.scheme m i in
    false_from_ne_true (is_reached s t) (λ is. let high_up = reached_level s t is in let at = tile_at_level s.layout.scheme m i in omega (arith, high_up, at)))))

-- on any walk
roots_end_by : (s : Scene) (region : Region) (l j : ℕ) → 1 ≤ s.layout.subtree_levels → l % s.layout.subtree_levels ≡ 0 → walk_roots s region l ≡ []
    → ((l + j * s.layout.subtree_levels) % s.layout.subtree_levels ≡ 0) × (walk_roots s region (l + j * s.layout.subtree_levels) ≡ [])
roots_end_by s region l zero some start none =
    let same : l ≡ l + 0 * s.layout.subtree_levels = omega arith in
    let P : ℕ → Type 0 = λ m. (m % s.layout.subtree_levels ≡ 0) × (walk_roots s region m ≡ []) in
    subst P same (start, none)
roots_end_by s region l (suc j) some start none =
    let n = s.layout.subtree_levels in
    let before = roots_end_by s region l j some start none in
    let same : l + j * n + n ≡ l + suc j * n = omega arith in
    let P : ℕ → Type 0 = λ m. (m % n ≡ 0) × (walk_roots s region m ≡ []) in
    subst P same (next_level (l + j * n) n some before.0, roots_go_down s region (l + j * n) some before.0 ∙ ap (flat_map (roots_below s region)) before.1)

pub roots_end : (s : Scene) (region : Region) (l m : ℕ) → 1 ≤ s.layout.subtree_levels → l % s.layout.subtree_levels ≡ 0 → l ≤ m
    → walk_roots s region l ≡ [] → walk_roots s region m ≡ []
roots_end s region l m some start le none =
    let n = s.layout.subtree_levels in
    let j = (m - l) / n in
    let at = l + j * n in
    let found = roots_end_by s region l j some start none in
    let whole : m ≡ at + (m - l) % n = omega (arith, div-add-mod (m - l) n, le) in
    let local : m % n ≡ (m - l) % n = ap (λ w. w % n) whole ∙ local_of at ((m - l) % n) n found.0 (mod_below (m - l) n some) in
    let here : root_level s.layout m ≡ root_level s.layout at = omega (arith, whole, local, found.0) in
    ap (λ e. filter (is_on_walk s region) (tiles_of_level s.layout.scheme e)) here ∙ found.1

reached_end_at : (s : Scene) (l m : ℕ) → 1 ≤ s.layout.subtree_levels → l % s.layout.subtree_levels ≡ 0 → l ≤ m → walk_roots s (whole_of s) l ≡ [] → reached_at s m ≡ []
reached_end_at s l m some start le none =
    elim (cases_eq (m % s.layout.subtree_levels) 0) [
      | inl begins ↦ reached_at_start s m begins ∙ roots_end s (whole_of s) l m some start le none
      | inr inner ↦ reached_at_inner s m inner
    ]

pub reached_end : (s : Scene) (l : ℕ) → 1 ≤ s.layout.subtree_levels → 1 ≤ s.layout.levels → l % s.layout.subtree_levels ≡ 0
    → walk_roots s (whole_of s) l ≡ [] → reached_above s l ≡ reached_roots s
reached_end s l some_subtree some start none =
    sym (reached_same s l s.layout.levels (λ m low high. reached_end_at s l m some_subtree start low none))
    ∙ reached_are_all s (l + s.layout.levels) some (omega arith)
