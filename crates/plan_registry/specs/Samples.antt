-- For proofs and inner functions: the course of the tests, and its laws. This project's own.
use Rattle.std.specs.Prelude.{◌≡◌, ℕ, ◌^◌, ◌<◌, ◌≤◌, [], ◌∷◌}
use Rattle.std.proofs.Common.{refl, sym, subst, arith}
use Rattle.implicit_tiling.specs.Region.{Plan}
use Rattle.implicit_tiling.specs.declared.Scheme.TheVariants.{Quad}
use Rattle.tile_coords.specs.declared.walk_end.WalkEnd.{WalkEnd}
use Rattle.tile_coords.specs.declared.walk_end.WalkEnd.TheVariants.{Partial}
use Rattle.published_prefix.specs.Heads.{FitsFaultWord}

-- the plan of the root
abbrev pub root_plan : Plan
root_plan = record { scheme = Quad; region = record { level = 0; lo = 0 ∷ 0 ∷ 0 ∷ []; hi = 0 ∷ 0 ∷ 0 ∷ [] } }

-- a course of at most 16 steps, each of one word, that has no end
abbrev pub IsCountedHead : ℕ → ℕ → WalkEnd → Type 0
IsCountedHead steps count end = (count ≡ steps) × (steps ≤ 16) × (end ≡ Partial)

pub counted_steps_are_few : (steps count : ℕ) (end : WalkEnd) → IsCountedHead steps count end → steps < 2 ^ 45
counted_steps_are_few steps count end head = omega (arith, head.1)

pub counted_faults_fit : (steps count : ℕ) (end : WalkEnd) → IsCountedHead steps count end → FitsFaultWord end
counted_faults_fit steps count end head = subst FitsFaultWord (sym head.2) tt

pub counted_begins : IsCountedHead 0 0 Partial
counted_begins = (refl, omega arith, refl)
