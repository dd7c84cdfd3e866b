-- The pairs of a walk, level by level.
use Rattle.std.proofs.Common.{◌≡◌, ℕ, ◌+◌, ◌-◌, ◌%◌, ◌<◌, ◌≤◌, Bool, true, false, List, [], ◌++◌, None, get_or, map, refl, sym, ap, ◌∙◌, arith, zero-add, append-nil}
use Rattle.std.specs.Prelude.{◌==◌, filter}
use Rattle.std.specs.List.{flat_map, range_with_len}
use Rattle.std.proofs.lemmas.Bool.{eq-eqb, ne_eqb}
use Rattle.std.proofs.lemmas.List.Elements.{All-map}
use Rattle.std.proofs.lemmas.Grind.{flat_map-append}
use Rattle.implicit_tiling.specs.Tile.{Tile, tile_at, tiles_of_level}
use Rattle.implicit_tiling.specs.Region.{Region}
use Rattle.implicit_tiling.specs.Scene.{Scene, fault_of}
use Rattle.implicit_tiling.specs.Answer.{is_on_walk}
use Rattle.implicit_tiling.specs.Steps.{pair_of, root_level, walk_roots, pairs, fault_at_start, pair_fault}
use Rattle.tiling_laws.proofs.TileAt.{tile_at_level}
use Rattle.walk_laws.specs.Faults.{NoFaults}
use Rattle.walk_laws.specs.Pairs.{level_pairs, pairs_above, NoPairFaults}
use Rattle.walk_laws.proofs.Lists.{flat_map_none, of_range, range-append}
use Rattle.walk_laws.proofs.Segments.{local_of, local_low, of_walk_roots}
use Rattle.walk_laws.proofs.Frontiers.{roots_end}

-- n levels more
pub pairs_more : (s : Scene) (region : Region) (l n : ℕ)
    → pairs_above s region (l + n) ≡ pairs_above s region l ++ flat_map (level_pairs s region) (range_with_len l n)
pairs_more s region l n =
    let f = level_pairs s region in
    ap (flat_map f) (range-append 0 l n)
    ∙ flat_map-append f (range_with_len 0 l) (range_with_len (0 + l) n)
    ∙ ap (λ a. pairs_above s region l ++ flat_map f (range_with_len a n)) (zero-add l)

pub pairs_go_down : (s : Scene) (region : Region) (l : ℕ) → pairs_above s region (l + 1) ≡ pairs_above s region l ++ level_pairs s region l
pairs_go_down s region l = pairs_more s region l 1 ∙ ap (λ w. pairs_above s region l ++ w) (append-nil (level_pairs s region l))

pub pairs_above_come_first : (s : Scene) (region : Region) (l : ℕ) → l ≤ region.level + 1
    → pairs s region ≡ pairs_above s region l ++ flat_map (level_pairs s region) (range_with_len l (region.level + 1 - l))
pairs_above_come_first s region l le =
    let count : region.level + 1 ≡ l + (region.level + 1 - l) = omega arith in
    ap (pairs_above s region) count ∙ pairs_more s region l (region.level + 1 - l)

pub pairs_end : (s : Scene) (region : Region) (l : ℕ) → 1 ≤ s.layout.subtree_levels → l ≤ region.level + 1 → l % s.layout.subtree_levels ≡ 0
    → walk_roots s region l ≡ [] → pairs_above s region l ≡ pairs s region
pairs_end s region l some le start none =
    let n = region.level + 1 - l in
    let rest = flat_map_none (level_pairs s region) (range_with_len l n) (of_range (λ m. level_pairs s region m ≡ []) l n
    (λ m low high. ap (map (pair_of m)) (roots_end s region l m some start low none))) in
    sym (append-nil (pairs_above s region l)) ∙ ap (λ w. pairs_above s region l ++ w) (sym rest) ∙ sym (pairs_above_come_first s region l le)

pub roots_of_inner_levels : (s : Scene) (region : Region) (l k : ℕ) → l % s.layout.subtree_levels ≡ 0 → k < s.layout.subtree_levels
    → walk_roots s region (l + k) ≡ walk_roots s region l
roots_of_inner_levels s region l k start low =
    let local = local_of l k s.layout.subtree_levels start low in
    let same : root_level s.layout (l + k) ≡ root_level s.layout l = omega (arith, local, start) in
    ap (λ e. filter (is_on_walk s region) (tiles_of_level s.layout.scheme e)) same

-- the fault of a pair at its root's own level, and below it
pub fault_at_own_level : (s : Scene) (l : ℕ) (r : Tile) → l ≡ r.level → pair_fault s (pair_of l r) ≡ fault_of (s.outcome r)
fault_at_own_level s l r own = ap (λ b. fault_at_start b (fault_of (s.outcome r))) (eq-eqb l r.level own)

pub no_fault_below : (s : Scene) (l : ℕ) (r : Tile) → (l ≡ r.level → ⊥) → pair_fault s (pair_of l r) ≡ None
no_fault_below s l r below = ap (λ b. fault_at_start b (fault_of (s.outcome r))) (ne_eqb l r.level below)

never_started : (b : Bool) → fault_at_start b None ≡ None
never_started true = refl
never_started false = refl

pub no_fault_of_good : (s : Scene) (l : ℕ) (r : Tile) → fault_of (s.outcome r) ≡ None → pair_fault s (pair_of l r) ≡ None
no_fault_of_good s l r good = ap (fault_at_start (l == r.level)) good ∙ never_started (l == r.level)

-- pairs of roots without a fault, and of a level within the subtrees
pub no_faults_of_roots : (s : Scene) (l : ℕ) (roots : List Tile) → NoFaults s roots → NoPairFaults s (map (pair_of l) roots)
no_faults_of_roots s l roots none =
    All-map (λ p. pair_fault s p ≡ None) (pair_of l) roots (λ k d below. no_fault_of_good s l (get_or roots k d) (none k d below))

pub no_faults_within : (s : Scene) (region : Region) (l : ℕ) → (l % s.layout.subtree_levels ≡ 0 → ⊥) → NoPairFaults s (level_pairs s region l)
no_faults_within s region l inner =
    All-map (λ p. pair_fault s p ≡ None) (pair_of l) (walk_roots s region l)
    (of_walk_roots (λ r. pair_fault s (pair_of l r) ≡ None) s region l
    (λ i h. let r = tile_at s.layout.scheme (root_level s.layout l) i in
    let at = tile_at_level s.layout.scheme (root_level s.layout l) i in
    no_fault_below s l r (λ e. inner (omega (arith, at, e, local_low l s.layout.subtree_levels)))))
