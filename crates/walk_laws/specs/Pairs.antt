-- The pairs of a walk, level by level, and its answer and steps by the pairs that are done (this project's own).
use Rattle.std.specs.Prelude.{ℕ, ◌≡◌, ◌+◌, ◌-◌, ◌%◌, ◌<◌, ◌≤◌, ◌&&◌, List, [], ◌∷◌, ◌++◌, Some, None, length, take}
use Rattle.std.specs.Prelude.{map, filter}
use Rattle.std.specs.List.{flat_map, range_with_len, All}
use Rattle.implicit_tiling.specs.Tile.{Tile, tiles_of_level}
use Rattle.implicit_tiling.specs.Region.{Region, is_in}
use Rattle.implicit_tiling.specs.Scene.{Scene}
use Rattle.implicit_tiling.specs.Availability.{is_available}
use Rattle.implicit_tiling.specs.Answer.{complete, too_many, fault, most_tiles, answer}
use Rattle.implicit_tiling.specs.Steps.{Pair, pair_of, walk_roots, pairs, segment, pair_fault, partial, Step, steps}
use Rattle.implicit_tiling.specs.Steps.{steps_from}
use Rattle.walk_laws.specs.Faults.{NoFaults, NoFaultsAbove}

-- the pairs of a level, and those of the levels above it
abbrev pub level_pairs : Scene → Region → ℕ → List Pair
level_pairs s region l = map (pair_of l) (walk_roots s region l)

abbrev pub pairs_above : Scene → Region → ℕ → List Pair
pairs_above s region l = flat_map (level_pairs s region) (range_with_len 0 l)

-- no pair tells a fault
abbrev pub NoPairFaults : Scene → List Pair → Type 0
NoPairFaults s ps = All (λ p. pair_fault s p ≡ None) ps

abbrev pub tiles_of_pairs : Scene → Region → List Pair → List Tile
tiles_of_pairs s region ps = flat_map (segment s region) ps

-- the pairs above a level are followed by those of that level
abbrev pub PairsGoDown : Type 0
PairsGoDown = (s : Scene) (region : Region) (l : ℕ)
    → pairs_above s region (l + 1) ≡ pairs_above s region l ++ level_pairs s region l

-- those above a level come first
abbrev pub PairsAboveComeFirst : Type 0
PairsAboveComeFirst = (s : Scene) (region : Region) (l : ℕ) → l ≤ region.level + 1
    → pairs s region ≡ pairs_above s region l ++ flat_map (level_pairs s region)
    (range_with_len l (region.level + 1 - l))

-- a root of a level in the midst of the pairs
abbrev pub PairsAtARoot : Type 0
PairsAtARoot = (s : Scene) (region : Region) (l : ℕ) (before : List Tile) (r : Tile) (after : List Tile)
    → l ≤ region.level
    → walk_roots s region l ≡ before ++ r ∷ after
    → pairs s region ≡ (pairs_above s region l ++ map (pair_of l) before) ++ pair_of l r ∷ (map (pair_of l) after
    ++ flat_map (level_pairs s region) (range_with_len (l + 1) (region.level - l)))

-- the tiles of the pairs above a level are the available tiles of the region there
abbrev pub TilesAboveALevel : Type 0
TilesAboveALevel = (s : Scene) (region : Region) (l : ℕ) → 1 ≤ s.layout.subtree_levels
    → tiles_of_pairs s region (pairs_above s region l)
    ≡ filter (λ t. is_in region t && is_available s t) (flat_map (tiles_of_level s.layout.scheme) (range_with_len 0 l))

-- where no root above a level has a fault, no pair there tells one; and one subtree more is without a fault where its
-- roots are
abbrev pub NoFaultsAboveTellNone : Type 0
NoFaultsAboveTellNone = (s : Scene) (region : Region) (l : ℕ) → NoFaultsAbove s region l
    → NoPairFaults s (pairs_above s region l)

abbrev pub NoFaultsGoDown : Type 0
NoFaultsGoDown = (s : Scene) (region : Region) (l k : ℕ) → l % s.layout.subtree_levels ≡ 0 → k ≤ s.layout.subtree_levels
    → NoFaultsAbove s region l → NoFaults s (walk_roots s region l) → NoFaultsAbove s region (l + k)

-- the pairs above a level where no roots follow are all
abbrev pub PairsEnd : Type 0
PairsEnd = (s : Scene) (region : Region) (l : ℕ) → 1 ≤ s.layout.subtree_levels → l ≤ region.level + 1
    → l % s.layout.subtree_levels ≡ 0
    → walk_roots s region l ≡ [] → pairs_above s region l ≡ pairs s region

-- in a subtree each level has the same roots
abbrev pub RootsOfInnerLevels : Type 0
RootsOfInnerLevels = (s : Scene) (region : Region) (l k : ℕ) → l % s.layout.subtree_levels ≡ 0
    → k < s.layout.subtree_levels
    → walk_roots s region (l + k) ≡ walk_roots s region l

-- an answer of all pairs without a fault, one that stops at a pair's fault, and one that has too many tiles
abbrev pub AnswerIsComplete : Type 0
AnswerIsComplete = (s : Scene) (region : Region) → 1 ≤ s.layout.subtree_levels → NoPairFaults s (pairs s region)
    → length (tiles_of_pairs s region (pairs s region)) ≤ most_tiles
    → answer s region ≡ record { tiles = tiles_of_pairs s region (pairs s region); end = complete }

abbrev pub AnswerStopsAtAFault : Type 0
AnswerStopsAtAFault = (s : Scene) (region : Region) (done : List Pair) (p : Pair) (rest : List Pair) (n : ℕ)
    → 1 ≤ s.layout.subtree_levels
    → pairs s region ≡ done ++ p ∷ rest → NoPairFaults s done → pair_fault s p ≡ Some n
    → length (tiles_of_pairs s region done) ≤ most_tiles
    → answer s region ≡ record { tiles = tiles_of_pairs s region done; end = fault p.root n }

abbrev pub AnswerIsCut : Type 0
AnswerIsCut = (s : Scene) (region : Region) (done rest : List Pair) → 1 ≤ s.layout.subtree_levels
    → pairs s region ≡ done ++ rest → NoPairFaults s done → most_tiles < length (tiles_of_pairs s region done)
    → answer s region ≡ record { tiles = take most_tiles (tiles_of_pairs s region done); end = too_many }

-- the step of a pair that goes on, and the steps after some pairs without a fault that others follow
abbrev pub step_on : Scene → Region → Pair → Step
step_on s region p = record { tiles = segment s region p; end = partial }

abbrev pub StepsFollowThePairs : Type 0
StepsFollowThePairs = (s : Scene) (region : Region) (done : List Pair) (p : Pair) (rest : List Pair)
    → pairs s region ≡ done ++ p ∷ rest → NoPairFaults s done
    → length (tiles_of_pairs s region done) ≤ most_tiles
    → steps s region ≡ map (step_on s region) done ++ steps_from s region (length (tiles_of_pairs s region done))
    (p ∷ rest)
