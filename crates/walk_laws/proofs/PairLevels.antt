-- The pairs above a level: their tiles, their faults, and the pair of a root after them.
use Rattle.std.proofs.Common.{◌≡◌, ℕ, suc, ◌+◌, ◌-◌, ◌%◌, ◌≤◌, Bool, List, ◌∷◌, ◌++◌, None, map, sym, ap, subst, ◌∙◌, arith, append_assoc, inl, inr}
use Rattle.std.specs.Prelude.{◌&&◌, filter}
use Rattle.std.specs.List.{flat_map, range_with_len, All}
use Rattle.std.proofs.lemmas.Bool.{cases_eq, cases_order}
use Rattle.std.proofs.lemmas.List.{map-append}
use Rattle.implicit_tiling.specs.Tile.{Tile, tiles_of_level}
use Rattle.implicit_tiling.specs.Region.{Region, is_in}
use Rattle.implicit_tiling.specs.Scene.{Scene}
use Rattle.implicit_tiling.specs.Availability.{is_available}
use Rattle.implicit_tiling.specs.Steps.{pair_of, walk_roots, pairs, segment, pair_fault}
use Rattle.walk_laws.specs.Faults.{NoFaults, NoFaultsAbove}
use Rattle.walk_laws.specs.Pairs.{level_pairs, pairs_above, NoPairFaults, tiles_of_pairs}
use Rattle.walk_laws.proofs.Lists.{filter-flat_map, flat_map-flat_map, flat_map-map, flat_map_same, of_range}
use Rattle.walk_laws.proofs.PairOrder.{all_flat_map}
use Rattle.walk_laws.proofs.Segments.{segments_make_a_level}
use Rattle.walk_laws.proofs.Frontiers.{inner_level}
use Rattle.walk_laws.proofs.Pairs.{pairs_above_come_first, no_faults_of_roots, no_faults_within}

-- a list in the midst of another one
pub midst : {X : Type 0} (above before : List X) (x : X) (after rest : List X) → above ++ ((before ++ x ∷ after) ++ rest) ≡ (above ++ before) ++ x ∷ (after ++ rest)
midst above before x after rest =
    ap (λ w. above ++ w) (append_assoc before (x ∷ after) rest) ∙ sym (append_assoc above before (x ∷ (after ++ rest)))

pub pairs_at_a_root : (s : Scene) (region : Region) (l : ℕ) (before : List Tile) (r : Tile) (after : List Tile) → l ≤ region.level
    → walk_roots s region l ≡ before ++ r ∷ after
    → pairs s region ≡ (pairs_above s region l ++ map (pair_of l) before) ++ pair_of l r ∷ (map (pair_of l) after ++ flat_map (level_pairs s region) (range_with_len (l + 1) (region.level - l)))
pairs_at_a_root s region l before r after le roots =
    let above = pairs_above s region l in
    let f = level_pairs s region in
    let rest = flat_map f (range_with_len (l + 1) (region.level - l)) in
    let count : region.level + 1 - l ≡ suc (region.level - l) = omega arith in
    let own : f l ≡ map (pair_of l) before ++ pair_of l r ∷ map (pair_of l) after = ap (map (pair_of l)) roots ∙ map-append (pair_of l) before (r ∷ after) in
    pairs_above_come_first s region l (omega arith)
    ∙ ap (λ c. above ++ flat_map f (range_with_len l c)) count
    ∙ ap (λ w. above ++ (w ++ rest)) own
    ∙ midst above (map (pair_of l) before) (pair_of l r) (map (pair_of l) after) rest

pub tiles_above_a_level : (s : Scene) (region : Region) (l : ℕ) → 1 ≤ s.layout.subtree_levels
    → tiles_of_pairs s region (pairs_above s region l)
    ≡ filter (λ t. is_in region t && is_available s t) (flat_map (tiles_of_level s.layout.scheme) (range_with_len 0 l))
tiles_above_a_level s region l some =
    let kept : Tile → Bool = λ t. is_in region t && is_available s t in
    let levels = range_with_len 0 l in
    let level : ℕ → List Tile = λ m. filter kept (tiles_of_level s.layout.scheme m) in
    let same : All (λ m. flat_map (segment s region) (level_pairs s region m) ≡ level m) levels =
    of_range (λ m. flat_map (segment s region) (level_pairs s region m) ≡ level m) 0 l
    (λ m low high. flat_map-map (segment s region) (pair_of m) (walk_roots s region m) ∙ sym (segments_make_a_level s region m some)) in
    flat_map-flat_map (segment s region) (level_pairs s region) levels
    ∙ flat_map_same (λ m. flat_map (segment s region) (level_pairs s region m)) level levels same
    ∙ sym (filter-flat_map kept (tiles_of_level s.layout.scheme) levels)

no_faults_in_level : (s : Scene) (region : Region) (m : ℕ) → (m % s.layout.subtree_levels ≡ 0 → NoFaults s (walk_roots s region m)) → NoPairFaults s (level_pairs s region m)
no_faults_in_level s region m none =
    elim (cases_eq (m % s.layout.subtree_levels) 0) [
      | inl start ↦ no_faults_of_roots s m (walk_roots s region m) (none start)
      | inr inner ↦ no_faults_within s region m inner
    ]

pub no_faults_above_tell_none : (s : Scene) (region : Region) (l : ℕ) → NoFaultsAbove s region l → NoPairFaults s (pairs_above s region l)
no_faults_above_tell_none s region l none =
    all_flat_map (λ p. pair_fault s p ≡ None) (level_pairs s region) (range_with_len 0 l)
    (of_range (λ m. NoPairFaults s (level_pairs s region m)) 0 l (λ m low high. no_faults_in_level s region m (none m (omega arith))))

pub no_faults_go_down : (s : Scene) (region : Region) (l k : ℕ) → l % s.layout.subtree_levels ≡ 0 → k ≤ s.layout.subtree_levels
    → NoFaultsAbove s region l → NoFaults s (walk_roots s region l) → NoFaultsAbove s region (l + k)
no_faults_go_down s region l k start few above own = λ m low begins.
    elim (cases_order m l) [
      | inl same ↦ let P : ℕ → Type 0 = λ e. NoFaults s (walk_roots s region e) in subst P (sym same) own
      | inr (inl lower) ↦ above m lower begins
      | inr (inr higher) ↦ absurd (inner_level l m s.layout.subtree_levels start higher (omega arith) begins)
    ]
