-- The steps of a list of pairs: their tiles and their end, by the pairs before the first fault.
use Rattle.std.proofs.Common.{◌≡◌, ℕ, suc, ◌+◌, ◌-◌, ◌≤◌, Bool, true, false, List, [], ◌∷◌, ◌++◌, Option, Some, None, length, take, refl, sym, ap, ◌∙◌, arith, append-nil, length-append}
use Rattle.std.specs.Prelude.{nat_lt, option_map}
use Rattle.std.specs.List.{flat_map, filter_map, cons_option, All, AllPairs}
use Rattle.std.proofs.Math.Seq.{take-nil, take-append-add}
use Rattle.std.proofs.lemmas.Bool.{ltb-true, ltb-false, lt-ltb, le-ltb}
use Rattle.std.proofs.lemmas.List.{take-append-le}
use Rattle.std.proofs.lemmas.List.Elements.{All-nil}
use Rattle.std.proofs.lemmas.List.Kept.{AllPairs-cons}
use Rattle.implicit_tiling.specs.Tile.{Tile}
use Rattle.implicit_tiling.specs.Region.{Region}
use Rattle.implicit_tiling.specs.Scene.{Scene}
use Rattle.implicit_tiling.specs.Answer.{too_many, fault, first, most_tiles, end_from}
use Rattle.implicit_tiling.specs.Steps.{Pair, segment, StepEnd, partial, ended, Step, last_or_not, pair_fault, step_then, steps_from}
use Rattle.walk_laws.specs.Stepped.{last_end}

-- a pair's fault with its root
abbrev pub pair_fault_at : Scene → Pair → Option (Tile × ℕ)
pair_fault_at s p = option_map (λ n. (p.root, n)) (pair_fault s p)

-- the pairs before the first fault
abbrev pub unless_fault : Option ℕ → List Pair → List Pair
unless_fault (Some n) ps = []
unless_fault None ps = ps

abbrev pub before_fault : Scene → List Pair → List Pair
before_fault s [] = []
before_fault s (p ∷ ps) = unless_fault (pair_fault s p) (p ∷ before_fault s ps)

-- their tiles
abbrev pub tiles_before : Scene → Region → List Pair → List Tile
tiles_before s region ps = flat_map (segment s region) (before_fault s ps)

abbrev pub tiles_of : List Step → List Tile
tiles_of steps = flat_map (λ step. step.tiles) steps

-- the tiles of one step and those that follow
one_step : (s : Scene) (region : Region) (p : Pair) (qs : List Pair) (n : ℕ) (end : StepEnd) (rest : List Step) (found : Option ℕ) (cut : Bool)
    → nat_lt most_tiles (n + length (segment s region p)) ≡ cut → n ≤ most_tiles
    → (n + length (segment s region p) ≤ most_tiles → tiles_of rest ≡ take (most_tiles - (n + length (segment s region p))) (flat_map (segment s region) qs))
    → tiles_of (step_then p.root found cut n (segment s region p) end rest) ≡ take (most_tiles - n) (flat_map (segment s region) (unless_fault found (p ∷ qs)))
one_step s region p qs n end rest (Some k) cut is few more = sym (take-nil (most_tiles - n))
one_step s region p qs n end rest None true is few more =
    let here = segment s region p in
    let over = ltb-true most_tiles (n + length here) is in
    append-nil (take (most_tiles - n) here) ∙ sym (take-append-le (most_tiles - n) here (flat_map (segment s region) qs) (omega (arith, over)))
one_step s region p qs n end rest None false is few more =
    let here = segment s region p in
    let within = ltb-false most_tiles (n + length here) is in
    let left : length here + (most_tiles - (n + length here)) ≡ most_tiles - n = omega (arith, within) in
    ap (λ w. here ++ w) (more within)
    ∙ sym (take-append-add here (flat_map (segment s region) qs) (most_tiles - (n + length here)))
    ∙ ap (λ m. take m (here ++ flat_map (segment s region) qs)) left

pub steps_tiles : (s : Scene) (region : Region) (ps : List Pair) (n : ℕ) → n ≤ most_tiles → tiles_of (steps_from s region n ps) ≡ take (most_tiles - n) (tiles_before s region ps)
steps_tiles s region [] n few = sym (take-nil (most_tiles - n))
steps_tiles s region (p ∷ ps) n few =
    let count = n + length (segment s region p) in
    one_step s region p (before_fault s ps) n (last_or_not ps) (steps_from s region count ps) (pair_fault s p) (nat_lt most_tiles count) refl few
    (steps_tiles s region ps count)

-- the end of the last step
abbrev pub end_or : StepEnd → List Pair → StepEnd → StepEnd
end_or e [] last = e
end_or e (p ∷ ps) last = last

abbrev pub end_of_pairs : Scene → Region → ℕ → List Pair → StepEnd
end_of_pairs s region n ps = ended (end_from (nat_lt most_tiles (n + length (tiles_before s region ps))) (first (filter_map (pair_fault_at s) ps)))

end_after : (s : Scene) (region : Region) (p : Pair) (ps : List Pair) (n : ℕ) → n + length (segment s region p) ≤ most_tiles
    → end_or (last_or_not ps) ps (end_of_pairs s region (n + length (segment s region p)) ps)
    ≡ ended (end_from (nat_lt most_tiles (n + length (segment s region p ++ tiles_before s region ps))) (first (filter_map (pair_fault_at s) ps)))
end_after s region p [] n within =
    let here = segment s region p in
    let size = length-append here [] in
    let low = le-ltb most_tiles (n + length (here ++ [])) (omega (arith, size, within)) in
    ap (λ b. ended (end_from b None)) (sym low)
end_after s region p (q ∷ qs) n within =
    let here = segment s region p in
    let rest = tiles_before s region (q ∷ qs) in
    let size : n + length here + length rest ≡ n + length (here ++ rest) = omega (arith, length-append here rest) in
    ap (λ m. ended (end_from (nat_lt most_tiles m) (first (filter_map (pair_fault_at s) (q ∷ qs))))) size

one_end : (s : Scene) (region : Region) (p : Pair) (ps : List Pair) (n : ℕ) (e : StepEnd) (rest : List Step) (found : Option ℕ) (cut : Bool)
    → nat_lt most_tiles (n + length (segment s region p)) ≡ cut → n ≤ most_tiles
    → (n + length (segment s region p) ≤ most_tiles → last_end (last_or_not ps) rest ≡ end_or (last_or_not ps) ps (end_of_pairs s region (n + length (segment s region p)) ps))
    → last_end e (step_then p.root found cut n (segment s region p) (last_or_not ps) rest)
    ≡ ended (end_from (nat_lt most_tiles (n + length (flat_map (segment s region) (unless_fault found (p ∷ before_fault s ps)))))
    (first (cons_option (option_map (λ k. (p.root, k)) found) (filter_map (pair_fault_at s) ps))))
one_end s region p ps n e rest (Some k) cut is few more =
    let low = le-ltb most_tiles (n + 0) (omega (arith, few)) in
    ap (λ b. ended (end_from b (Some (p.root, k)))) (sym low)
one_end s region p ps n e rest None true is few more =
    let here = segment s region p in
    let over = ltb-true most_tiles (n + length here) is in
    let high = lt-ltb most_tiles (n + length (here ++ tiles_before s region ps)) (omega (arith, over, length-append here (tiles_before s region ps))) in
    ap (λ b. ended (end_from b (first (filter_map (pair_fault_at s) ps)))) (sym high)
one_end s region p ps n e rest None false is few more =
    let within = ltb-false most_tiles (n + length (segment s region p)) is in
    more within ∙ end_after s region p ps n within

pub steps_end : (s : Scene) (region : Region) (ps : List Pair) (n : ℕ) (e : StepEnd) → n ≤ most_tiles
    → last_end e (steps_from s region n ps) ≡ end_or e ps (end_of_pairs s region n ps)
steps_end s region [] n e few = refl
steps_end s region (p ∷ ps) n e few =
    let count = n + length (segment s region p) in
    one_end s region p ps n e (steps_from s region count ps) (pair_fault s p) (nat_lt most_tiles count) refl few
    (steps_end s region ps count (last_or_not ps))

-- each step that another one follows is partial
abbrev pub goes_on : Step → Step → Type 0
goes_on a b = a.end ≡ partial

follow : (s : Scene) (region : Region) (ps : List Pair) (n : ℕ) (tiles : List Tile) → All (goes_on (record { tiles = tiles; end = last_or_not ps })) (steps_from s region n ps)
follow s region [] n tiles = All-nil (goes_on (record { tiles = tiles; end = last_or_not {X = Pair} [] }))
follow s region (p ∷ ps) n tiles = λ k d below. refl

alone : (x : Step) → AllPairs goes_on (x ∷ [])
alone x = λ i j d low high. absurd (omega arith)

one_follows : (root : Tile) (found : Option ℕ) (cut : Bool) (n : ℕ) (tiles : List Tile) (end : StepEnd) (rest : List Step) → AllPairs goes_on (record { tiles = tiles; end = end } ∷ rest)
    → AllPairs goes_on (step_then root found cut n tiles end rest)
one_follows root (Some k) cut n tiles end rest more = alone (record { tiles = []; end = ended (fault root k) })
one_follows root None true n tiles end rest more = alone (record { tiles = take (most_tiles - n) tiles; end = ended too_many })
one_follows root None false n tiles end rest more = more

pub steps_follow : (s : Scene) (region : Region) (ps : List Pair) (n : ℕ) → AllPairs goes_on (steps_from s region n ps)
steps_follow s region [] n = λ i j d low high. absurd (omega arith)
steps_follow s region (p ∷ ps) n =
    let here = segment s region p in
    let count = n + length here in
    one_follows p.root (pair_fault s p) (nat_lt most_tiles count) n here (last_or_not ps) (steps_from s region count ps)
    (AllPairs-cons goes_on (record { tiles = here; end = last_or_not ps }) (steps_from s region count ps) (follow s region ps count here) (steps_follow s region ps count))

-- there is at most one step a pair
one_more : (root : Tile) (found : Option ℕ) (cut : Bool) (n : ℕ) (tiles : List Tile) (end : StepEnd) (rest : List Step) (m : ℕ) → length rest ≤ m
    → length (step_then root found cut n tiles end rest) ≤ suc m
one_more root (Some k) cut n tiles end rest m few = omega arith
one_more root None true n tiles end rest m few = omega arith
one_more root None false n tiles end rest m few = omega arith

pub steps_few : (s : Scene) (region : Region) (ps : List Pair) (n : ℕ) → length (steps_from s region n ps) ≤ length ps
steps_few s region [] n = omega arith
steps_few s region (p ∷ ps) n =
    let here = segment s region p in
    let count = n + length here in
    one_more p.root (pair_fault s p) (nat_lt most_tiles count) n here (last_or_not ps) (steps_from s region count ps) (length ps) (steps_few s region ps count)
