-- The steps of a walk are its answer.
use Rattle.std.proofs.Common.{◌≡◌, ℕ, suc, ◌+◌, ◌≤◌, Bool, true, false, List, [], ◌∷◌, ◌++◌, Option, Some, None, length, take, map, refl, sym, ap, ◌∙◌, arith, zero-add}
use Rattle.std.specs.Prelude.{◌&&◌, nat_lt, filter, option_map}
use Rattle.std.specs.List.{flat_map, range_with_len, filter_map, cons_option, All, AllPairs}
use Rattle.std.proofs.lemmas.List.Elements.{All-cons, All-head, All-tail, filter-append}
use Rattle.implicit_tiling.specs.Tile.{Tile, is_key_below, tiles_of_level, all_tiles, root}
use Rattle.implicit_tiling.specs.Region.{Region, is_in}
use Rattle.implicit_tiling.specs.Scene.{Scene}
use Rattle.implicit_tiling.specs.Availability.{is_available}
use Rattle.implicit_tiling.specs.Answer.{first, first_fault, is_before, tiles, most_tiles, end_from, end_of, answer}
use Rattle.implicit_tiling.specs.Steps.{Pair, pair_of, pairs, walk_roots, segment, partial, ended, pair_fault, steps}
use Rattle.walk_laws.specs.Regions.{IsRegion}
use Rattle.walk_laws.specs.Stepped.{last_end}
use Rattle.walk_laws.proofs.Lists.{filter_none, filter_all, filter-filter, filter-flat_map, flat_map-flat_map, flat_map-map, flat_map_same, of_range}
use Rattle.walk_laws.proofs.Segments.{segments_make_a_level}
use Rattle.walk_laws.proofs.Regions.{roots_begin_at_the_root}
use Rattle.walk_laws.proofs.Faults.{faults_by_pair}
use Rattle.walk_laws.proofs.StepList.{pair_fault_at, unless_fault, before_fault, tiles_before, end_or, end_of_pairs, steps_tiles, steps_end, steps_follow, steps_few}
use Rattle.walk_laws.proofs.PairOrder.{IsAhead, IsAlone, all_flat_map, pairs_alone, pairs_ahead}

-- what holds of a value that is there
abbrev holds : {F : Type 0} → (F → Type 0) → Option F → Type 0
holds P None = Unit {0}
holds P (Some found) = P found

-- the first fault of some pairs is that of one of them
first_one : (P : Tile × ℕ → Type 0) (r : Tile) (found : Option ℕ) (rest : List (Tile × ℕ)) → ((n : ℕ) → found ≡ Some n → P (r, n)) → holds P (first rest)
    → holds P (first (cons_option (option_map (λ n. (r, n)) found) rest))
first_one P r (Some n) rest h later = h n refl
first_one P r None rest h later = later

first_holds : (P : Tile × ℕ → Type 0) (s : Scene) (ps : List Pair) → All (λ q. (n : ℕ) → pair_fault s q ≡ Some n → P (q.root, n)) ps
    → holds P (first (filter_map (pair_fault_at s) ps))
first_holds P s [] h = tt
first_holds P s (p ∷ ps) h =
    let Q : Pair → Type 0 = λ q. (n : ℕ) → pair_fault s q ≡ Some n → P (q.root, n) in
    first_one P p.root (pair_fault s p) (filter_map (pair_fault_at s) ps) (All-head Q p ps h) (first_holds P s ps (All-tail Q p ps h))

-- the tiles of a pair before a fault are kept, and those from it on are not
kept_before : (s : Scene) (found : Option (Tile × ℕ)) (ts : List Tile) → holds (λ f. All (λ t. is_key_below s.layout.scheme t f.0 ≡ true) ts) found
    → filter (is_before s.layout.scheme found) ts ≡ ts
kept_before s None ts h = filter_all (is_before s.layout.scheme None) ts (λ k d below. refl)
kept_before s (Some found) ts h = filter_all (is_before s.layout.scheme (Some found)) ts h

one_pair : (s : Scene) (region : Region) (p : Pair) (ps : List Pair) (found : Option ℕ) → pair_fault s p ≡ found → IsAlone s region p → All (IsAhead s region p) ps
    → filter (is_before s.layout.scheme (first (filter_map (pair_fault_at s) ps))) (flat_map (segment s region) ps) ≡ tiles_before s region ps
    → filter (is_before s.layout.scheme (first (cons_option (option_map (λ n. (p.root, n)) found) (filter_map (pair_fault_at s) ps)))) (segment s region p ++ flat_map (segment s region) ps)
    ≡ flat_map (segment s region) (unless_fault found (p ∷ before_fault s ps))
one_pair s region p ps (Some n) is own ahead more =
    let before = is_before s.layout.scheme (Some (p.root, n)) in
    let out : Tile → Type 0 = λ t. before t ≡ false in
    filter_none before (segment s region p ++ flat_map (segment s region) ps)
    (all_flat_map out (segment s region) (p ∷ ps)
    (All-cons (λ q. All out (segment s region q)) p ps (own.own n is) (λ k d below. (ahead k d below).behind n is)))
one_pair s region p ps None is own ahead more =
    let found = first (filter_map (pair_fault_at s) ps) in
    let before = is_before s.layout.scheme found in
    let here = segment s region p in
    let low = first_holds (λ f. All (λ t. is_key_below s.layout.scheme t f.0 ≡ true) here) s ps (λ k d below. (ahead k d below).ahead) in
    filter-append before here (flat_map (segment s region) ps)
    ∙ ap (λ w. w ++ filter before (flat_map (segment s region) ps)) (kept_before s found here low)
    ∙ ap (λ w. here ++ w) more

pairs_before : (s : Scene) (region : Region) (ps : List Pair) → All (IsAlone s region) ps → AllPairs (IsAhead s region) ps
    → filter (is_before s.layout.scheme (first (filter_map (pair_fault_at s) ps))) (flat_map (segment s region) ps) ≡ tiles_before s region ps
pairs_before s region [] own ahead = refl
pairs_before s region (p ∷ ps) own ahead =
    let here : All (IsAhead s region p) ps = λ k d below. ahead 0 (suc k) d (omega arith) (omega arith) in
    let later : AllPairs (IsAhead s region) ps = λ i j d low high. ahead (suc i) (suc j) d (omega arith) (omega arith) in
    one_pair s region p ps (pair_fault s p) refl (All-head (IsAlone s region) p ps own) here
    (pairs_before s region ps (All-tail (IsAlone s region) p ps own) later)

-- the available tiles of a region are those of all pairs
pub tiles_by_pair : (s : Scene) (region : Region) → 1 ≤ s.layout.subtree_levels
    → filter (λ t. is_in region t && is_available s t) (all_tiles s.layout.scheme region.level) ≡ flat_map (segment s region) (pairs s region)
tiles_by_pair s region some =
    let kept : Tile → Bool = λ t. is_in region t && is_available s t in
    let levels = range_with_len 0 (region.level + 1) in
    let of_pairs : ℕ → List Pair = λ l. map (pair_of l) (walk_roots s region l) in
    let level : ℕ → List Tile = λ l. filter kept (tiles_of_level s.layout.scheme l) in
    let same : All (λ l. level l ≡ flat_map (segment s region) (of_pairs l)) levels =
    of_range (λ l. level l ≡ flat_map (segment s region) (of_pairs l)) 0 (region.level + 1)
    (λ l low high. segments_make_a_level s region l some ∙ sym (flat_map-map (segment s region) (pair_of l) (walk_roots s region l))) in
    filter-flat_map kept (tiles_of_level s.layout.scheme) levels
    ∙ flat_map_same level (λ l. flat_map (segment s region) (of_pairs l)) levels same
    ∙ sym (flat_map-flat_map (segment s region) of_pairs levels)

-- and those of the answer are those of the pairs before the first fault
pub tiles_are : (s : Scene) (region : Region) → 1 ≤ s.layout.subtree_levels → tiles s region ≡ tiles_before s region (pairs s region)
tiles_are s region some =
    let kept : Tile → Bool = λ t. is_in region t && is_available s t in
    let before = is_before s.layout.scheme (first_fault s region) in
    let found : first_fault s region ≡ first (filter_map (pair_fault_at s) (pairs s region)) = ap first (faults_by_pair s region) in
    sym (filter-filter kept before (all_tiles s.layout.scheme region.level))
    ∙ ap (filter before) (tiles_by_pair s region some)
    ∙ ap (λ f. filter (is_before s.layout.scheme f) (flat_map (segment s region) (pairs s region))) found
    ∙ pairs_before s region (pairs s region) (pairs_alone s region) (pairs_ahead s region)

pub steps_have_the_tiles : (s : Scene) (region : Region) → 1 ≤ s.layout.subtree_levels → flat_map (λ step. step.tiles) (steps s region) ≡ (answer s region).tiles
steps_have_the_tiles s region some =
    steps_tiles s region (pairs s region) 0 (omega arith) ∙ ap (take most_tiles) (sym (tiles_are s region some))

-- a walk has a first pair, that of the root
first_pair : (s : Scene) (region : Region) → 1 ≤ s.layout.levels → IsRegion region
    → pairs s region ≡ pair_of 0 root ∷ flat_map (λ l. map (pair_of l) (walk_roots s region l)) (range_with_len 1 region.level)
first_pair s region some is =
    let of_pairs : ℕ → List Pair = λ l. map (pair_of l) (walk_roots s region l) in
    let count : region.level + 1 ≡ suc region.level = omega arith in
    ap (λ c. flat_map of_pairs (range_with_len 0 c)) count
    ∙ ap (λ w. map (pair_of 0) w ++ flat_map of_pairs (range_with_len 1 region.level)) (roots_begin_at_the_root s region some is)

pub steps_end_as_the_answer : (s : Scene) (region : Region) → 1 ≤ s.layout.subtree_levels → 1 ≤ s.layout.levels → IsRegion region
    → last_end partial (steps s region) ≡ ended (answer s region).end
steps_end_as_the_answer s region some_subtree some is =
    let found : first (filter_map (pair_fault_at s) (pairs s region)) ≡ first_fault s region = sym (ap first (faults_by_pair s region)) in
    let size : 0 + length (tiles_before s region (pairs s region)) ≡ length (tiles s region) =
    zero-add (length (tiles_before s region (pairs s region))) ∙ ap length (sym (tiles_are s region some_subtree)) in
    steps_end s region (pairs s region) 0 partial (omega arith)
    ∙ ap (λ ps. end_or partial ps (end_of_pairs s region 0 (pairs s region))) (first_pair s region some is)
    ∙ ap (λ n. ended (end_from (nat_lt most_tiles n) (first (filter_map (pair_fault_at s) (pairs s region))))) size
    ∙ ap (λ f. ended (end_of (length (tiles s region)) f)) found

pub earlier_steps_are_partial : (s : Scene) (region : Region) → AllPairs (λ earlier later. earlier.end ≡ partial) (steps s region)
earlier_steps_are_partial s region = steps_follow s region (pairs s region) 0

pub steps_are_few : (s : Scene) (region : Region) → length (steps s region) ≤ length (pairs s region)
steps_are_few s region = steps_few s region (pairs s region) 0
