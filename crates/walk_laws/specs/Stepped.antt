-- The steps of a walk and its answer (this project's own).
use Rattle.std.specs.Prelude.{◌≡◌, ◌≤◌, List, [], ◌∷◌, length}
use Rattle.std.specs.List.{flat_map, AllPairs}
use Rattle.implicit_tiling.specs.Region.{Region}
use Rattle.implicit_tiling.specs.Scene.{Scene}
use Rattle.implicit_tiling.specs.Answer.{answer}
use Rattle.implicit_tiling.specs.Steps.{StepEnd, partial, ended, Step, pairs, steps}
use Rattle.walk_laws.specs.Regions.{IsRegion}

-- the end of the last step, or another one where there is no step
abbrev pub last_end : StepEnd → List Step → StepEnd
last_end e [] = e
last_end e (step ∷ rest) = last_end step.end rest

-- the tiles of the steps, one after another, are the answer's tiles
abbrev pub StepsHaveTheTiles : Type 0
StepsHaveTheTiles = (s : Scene) (region : Region) → 1 ≤ s.layout.subtree_levels
    → flat_map (λ step. step.tiles) (steps s region) ≡ (answer s region).tiles

-- there is a last step, and it ends as the answer does
abbrev pub StepsEndAsTheAnswer : Type 0
StepsEndAsTheAnswer = (s : Scene) (region : Region) → 1 ≤ s.layout.subtree_levels → 1 ≤ s.layout.levels
    → IsRegion region
    → last_end partial (steps s region) ≡ ended (answer s region).end

-- a step that another one follows is partial
abbrev pub EarlierStepsArePartial : Type 0
EarlierStepsArePartial = (s : Scene) (region : Region)
    → AllPairs (λ earlier later. earlier.end ≡ partial) (steps s region)

-- there is at most one step for each pair
abbrev pub StepsAreFew : Type 0
StepsAreFew = (s : Scene) (region : Region) → length (steps s region) ≤ length (pairs s region)
