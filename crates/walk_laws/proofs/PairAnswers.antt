-- The answer and the steps of a walk by the pairs that are done.
use Rattle.std.proofs.Common.{◌≡◌, ℕ, ◌+◌, ◌<◌, ◌≤◌, List, [], ◌∷◌, ◌++◌, Option, Some, None, get_or, length, take, map, refl, sym, ap, ◌∙◌, arith, add-zero, zero-add, append-nil, length-append}
use Rattle.std.specs.Prelude.{nat_lt, option_map}
use Rattle.std.specs.List.{flat_map, filter_map, cons_option}
use Rattle.std.proofs.lemmas.Bool.{lt-ltb, le-ltb}
use Rattle.std.proofs.lemmas.List.{take_all, take-append-le}
use Rattle.std.proofs.lemmas.List.Elements.{All-head, All-tail, filter_map-append}
use Rattle.std.proofs.lemmas.Grind.{flat_map-append}
use Rattle.implicit_tiling.specs.Tile.{Tile}
use Rattle.implicit_tiling.specs.Region.{Region}
use Rattle.implicit_tiling.specs.Scene.{Scene}
use Rattle.implicit_tiling.specs.Answer.{complete, too_many, fault, first, tiles, most_tiles, end_at, end_from, end_of, Answer, answer}
use Rattle.implicit_tiling.specs.Steps.{Pair, pairs, segment, pair_fault, partial, Step, step_then, steps, steps_from, last_or_not}
use Rattle.walk_laws.specs.Pairs.{NoPairFaults, tiles_of_pairs, step_on}
use Rattle.walk_laws.proofs.Lists.{filter_map_none}
use Rattle.walk_laws.proofs.Faults.{faults_by_pair}
use Rattle.walk_laws.proofs.StepList.{pair_fault_at, unless_fault, before_fault, tiles_before}
use Rattle.walk_laws.proofs.StepLaw.{tiles_are}

-- an answer of its tiles, as many as it may hold, and the first fault
abbrev answer_of : List Tile → Option (Tile × ℕ) → Answer
answer_of ts found = record { tiles = take most_tiles ts; end = end_of (length ts) found }

pub answer_by_pairs : (s : Scene) (region : Region) → 1 ≤ s.layout.subtree_levels
    → answer s region ≡ record {
      tiles = take most_tiles (tiles_before s region (pairs s region));
      end = end_of (length (tiles_before s region (pairs s region))) (first (filter_map (pair_fault_at s) (pairs s region)));
    }
answer_by_pairs s region some =
    ap (λ f. answer_of (tiles s region) f) (ap first (faults_by_pair s region))
    ∙ ap (λ ts. answer_of ts (first (filter_map (pair_fault_at s) (pairs s region)))) (tiles_are s region some)

-- pairs without a fault come first
pub before_fault-append : (s : Scene) (done rest : List Pair) → NoPairFaults s done → before_fault s (done ++ rest) ≡ done ++ before_fault s rest
before_fault-append s [] rest none = refl
before_fault-append s (p ∷ ps) rest none =
    ap (λ found. unless_fault found (p ∷ before_fault s (ps ++ rest))) (All-head (λ q. pair_fault s q ≡ None) p ps none)
    ∙ ap (λ w. p ∷ w) (before_fault-append s ps rest (All-tail (λ q. pair_fault s q ≡ None) p ps none))

pub tiles_before-append : (s : Scene) (region : Region) (done rest : List Pair) → NoPairFaults s done
    → tiles_before s region (done ++ rest) ≡ tiles_of_pairs s region done ++ tiles_before s region rest
tiles_before-append s region done rest none =
    ap (flat_map (segment s region)) (before_fault-append s done rest none) ∙ flat_map-append (segment s region) done (before_fault s rest)

pub no_pair_faults : (s : Scene) (done : List Pair) → NoPairFaults s done → filter_map (pair_fault_at s) done ≡ []
no_pair_faults s done none =
    filter_map_none (pair_fault_at s) done
    (λ k d below. ap {B = Option (Tile × ℕ)} (λ o. option_map (λ n. ((get_or done k d).root, n)) o) (none k d below))

pub faults-append : (s : Scene) (done rest : List Pair) → NoPairFaults s done → filter_map (pair_fault_at s) (done ++ rest) ≡ filter_map (pair_fault_at s) rest
faults-append s done rest none =
    filter_map-append (pair_fault_at s) done rest ∙ ap (λ w. w ++ filter_map (pair_fault_at s) rest) (no_pair_faults s done none)

-- the answer by the pairs that are done, and the rest
abbrev rest_answer : Scene → Region → List Pair → List Pair → Answer
rest_answer s region done rest = answer_of (tiles_of_pairs s region done ++ tiles_before s region rest) (first (filter_map (pair_fault_at s) rest))

answer_of_parts : (s : Scene) (region : Region) (done rest : List Pair) → 1 ≤ s.layout.subtree_levels → pairs s region ≡ done ++ rest → NoPairFaults s done
    → answer s region ≡ rest_answer s region done rest
answer_of_parts s region done rest some parts none =
    answer_by_pairs s region some
    ∙ ap (λ ps. answer_of (tiles_before s region ps) (first (filter_map (pair_fault_at s) ps))) parts
    ∙ ap (λ ts. answer_of ts (first (filter_map (pair_fault_at s) (done ++ rest)))) (tiles_before-append s region done rest none)
    ∙ ap (λ fs. answer_of (tiles_of_pairs s region done ++ tiles_before s region rest) (first fs)) (faults-append s done rest none)

-- tiles that fit, and tiles that don't
fitting : (ts : List Tile) (found : Option (Tile × ℕ)) → length ts ≤ most_tiles → answer_of (ts ++ []) found ≡ record { tiles = ts; end = end_at found }
fitting ts found few =
    ap (λ w. answer_of w found) (append-nil ts)
    ∙ ap (λ w. let made : Answer = record { tiles = w; end = end_of (length ts) found } in made) (take_all most_tiles ts few)
    ∙ ap (λ b. let made : Answer = record { tiles = ts; end = end_from b found } in made) (le-ltb most_tiles (length ts) few)

cut_off : (ts more : List Tile) (found : Option (Tile × ℕ)) → most_tiles < length ts → answer_of (ts ++ more) found ≡ record { tiles = take most_tiles ts; end = too_many }
cut_off ts more found many =
    let high = lt-ltb most_tiles (length (ts ++ more)) (omega (arith, many, length-append ts more)) in
    ap (λ w. let made : Answer = record { tiles = w; end = end_of (length (ts ++ more)) found } in made) (take-append-le most_tiles ts more (omega (arith, many)))
    ∙ ap (λ b. let made : Answer = record { tiles = take most_tiles ts; end = end_from b found } in made) high

pub answer_is_complete : (s : Scene) (region : Region) → 1 ≤ s.layout.subtree_levels → NoPairFaults s (pairs s region)
    → length (tiles_of_pairs s region (pairs s region)) ≤ most_tiles
    → answer s region ≡ record { tiles = tiles_of_pairs s region (pairs s region); end = complete }
answer_is_complete s region some none few =
    answer_of_parts s region (pairs s region) [] some (sym (append-nil (pairs s region))) none
    ∙ fitting (tiles_of_pairs s region (pairs s region)) None few

pub answer_stops_at_a_fault : (s : Scene) (region : Region) (done : List Pair) (p : Pair) (rest : List Pair) (n : ℕ) → 1 ≤ s.layout.subtree_levels
    → pairs s region ≡ done ++ p ∷ rest → NoPairFaults s done → pair_fault s p ≡ Some n
    → length (tiles_of_pairs s region done) ≤ most_tiles
    → answer s region ≡ record { tiles = tiles_of_pairs s region done; end = fault p.root n }
answer_stops_at_a_fault s region done p rest n some parts none found few =
    let ts = tiles_of_pairs s region done in
    answer_of_parts s region done (p ∷ rest) some parts none
    ∙ ap (λ o. answer_of (ts ++ flat_map (segment s region) (unless_fault o (p ∷ before_fault s rest))) (first (cons_option (option_map (λ k. (p.root, k)) o) (filter_map (pair_fault_at s) rest)))) found
    ∙ fitting ts (Some (p.root, n)) few

pub answer_is_cut : (s : Scene) (region : Region) (done rest : List Pair) → 1 ≤ s.layout.subtree_levels
    → pairs s region ≡ done ++ rest → NoPairFaults s done → most_tiles < length (tiles_of_pairs s region done)
    → answer s region ≡ record { tiles = take most_tiles (tiles_of_pairs s region done); end = too_many }
answer_is_cut s region done rest some parts none many =
    answer_of_parts s region done rest some parts none
    ∙ cut_off (tiles_of_pairs s region done) (tiles_before s region rest) (first (filter_map (pair_fault_at s) rest)) many

-- the steps after the pairs that are done
more_follow : (qs : List Pair) (p : Pair) (rest : List Pair) → last_or_not (qs ++ p ∷ rest) ≡ partial
more_follow [] p rest = refl
more_follow (q ∷ qs) p rest = refl

pub steps_after : (s : Scene) (region : Region) (done : List Pair) (p : Pair) (rest : List Pair) (n : ℕ) → NoPairFaults s done
    → n + length (tiles_of_pairs s region done) ≤ most_tiles
    → steps_from s region n (done ++ p ∷ rest) ≡ map (step_on s region) done ++ steps_from s region (n + length (tiles_of_pairs s region done)) (p ∷ rest)
steps_after s region [] p rest n none few = ap (λ m. steps_from s region m (p ∷ rest)) (sym (add-zero n))
steps_after s region (q ∷ qs) p rest n none few =
    let here = segment s region q in
    let later = tiles_of_pairs s region qs in
    let count = n + length here in
    let size = length-append here later in
    let within = le-ltb most_tiles count (omega (arith, size, few)) in
    let rest_steps = steps_from s region count (qs ++ p ∷ rest) in
    let total : count + length later ≡ n + length (here ++ later) = omega (arith, size) in
    ap (λ o. step_then q.root o (nat_lt most_tiles count) n here (last_or_not (qs ++ p ∷ rest)) rest_steps) (All-head (λ q. pair_fault s q ≡ None) q qs none)
    ∙ ap (λ b. step_then q.root None b n here (last_or_not (qs ++ p ∷ rest)) rest_steps) within
    ∙ ap {B = List Step} (λ e. record { tiles = here; end = e } ∷ rest_steps) (more_follow qs p rest)
    ∙ ap (λ w. step_on s region q ∷ w) (steps_after s region qs p rest count (All-tail (λ q. pair_fault s q ≡ None) q qs none) (omega (arith, size, few)))
    ∙ ap (λ m. step_on s region q ∷ (map (step_on s region) qs ++ steps_from s region m (p ∷ rest))) total

pub steps_follow_the_pairs : (s : Scene) (region : Region) (done : List Pair) (p : Pair) (rest : List Pair) → pairs s region ≡ done ++ p ∷ rest → NoPairFaults s done
    → length (tiles_of_pairs s region done) ≤ most_tiles
    → steps s region ≡ map (step_on s region) done ++ steps_from s region (length (tiles_of_pairs s region done)) (p ∷ rest)
steps_follow_the_pairs s region done p rest parts none few =
    ap (steps_from s region 0) parts
    ∙ steps_after s region done p rest 0 none (omega (arith, few))
    ∙ ap (λ m. map (step_on s region) done ++ steps_from s region m (p ∷ rest)) (zero-add (length (tiles_of_pairs s region done)))
