-- The first fault on a walk, by the levels of its subtree roots (this project's own).
use Rattle.std.specs.Prelude.{ℕ, ◌≡◌, ◌+◌, ◌%◌, ◌<◌, ◌≤◌, List, ◌∷◌, ◌++◌, Some, None}
use Rattle.std.specs.List.{All}
use Rattle.implicit_tiling.specs.Tile.{Tile}
use Rattle.implicit_tiling.specs.Region.{Region}
use Rattle.implicit_tiling.specs.Scene.{Scene, fault_of}
use Rattle.implicit_tiling.specs.Answer.{first_fault}
use Rattle.implicit_tiling.specs.Steps.{walk_roots}

-- the files of some roots are without a fault
abbrev pub NoFaults : Scene → List Tile → Type 0
NoFaults s roots = All (λ r. fault_of (s.outcome r) ≡ None) roots

-- and so are those of all roots on the walk above a level
abbrev pub NoFaultsAbove : Scene → Region → ℕ → Type 0
NoFaultsAbove s region l = (m : ℕ) → m < l → m % s.layout.subtree_levels ≡ 0 → NoFaults s (walk_roots s region m)

-- the first root with a fault, where those above its level and those before it have none
abbrev pub FirstFaultIsTheFirst : Type 0
FirstFaultIsTheFirst = (s : Scene) (region : Region) (l n : ℕ) (before : List Tile) (b : Tile) (after : List Tile)
    → l ≤ region.level → l % s.layout.subtree_levels ≡ 0 → NoFaultsAbove s region l
    → walk_roots s region l ≡ before ++ b ∷ after → NoFaults s before → fault_of (s.outcome b) ≡ Some n
    → first_fault s region ≡ Some (b, n)

-- a walk without a fault
abbrev pub NoFaultIsFirst : Type 0
NoFaultIsFirst = (s : Scene) (region : Region) → NoFaultsAbove s region (region.level + 1) → first_fault s region ≡ None
