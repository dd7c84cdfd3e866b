-- For proofs and inner functions: the laws of the courses of the tests. This project's own.
use Rattle.std.specs.Prelude.{◌≡◌, ℕ, ◌*◌, ◌^◌, ◌<◌, ◌≤◌}
use Rattle.std.proofs.Common.{refl, sym, subst, inl, inr, arith}
use Rattle.std.proofs.Math.Nat.{eq-or-lt_of_le}
use Rattle.tile_coords.specs.declared.walk_end.WalkEnd.{WalkEnd}
use Rattle.tile_coords.specs.declared.walk_end.WalkEnd.TheVariants.{Partial, Complete}
use Rattle.published_prefix.specs.Heads.{FitsFaultWord}

-- of a walk of which nothing is known but that it gives 21 tiles at most
pub any_begins : (0 < 2 ^ 45) × (0 ≤ 21) × FitsFaultWord Partial
any_begins = (omega arith, omega arith, tt)

-- of a walk of 256 steps, each of 256 words, which is complete after the last
abbrev pub IsNumberedHead : ℕ → ℕ → WalkEnd → Type 0
IsNumberedHead steps count end = (steps ≤ 256) × (count ≡ 256 * steps) × (steps < 256 → end ≡ Partial)
    × (steps ≡ 256 → end ≡ Complete)

pub numbered_steps_are_few : (steps count : ℕ) (end : WalkEnd) → IsNumberedHead steps count end → steps < 2 ^ 45
numbered_steps_are_few steps count end head = omega (arith, head.0)

pub numbered_faults_fit : (steps count : ℕ) (end : WalkEnd) → IsNumberedHead steps count end → FitsFaultWord end
numbered_faults_fit steps count end head = elim (eq-or-lt_of_le head.0) [
  | inl last ↦ subst FitsFaultWord (sym (head.3 last)) tt
  | inr more ↦ subst FitsFaultWord (sym (head.2 more)) tt
]

pub numbered_begins : IsNumberedHead 0 0 Partial
numbered_begins = (omega arith, refl, λ more. refl, λ last. absurd (omega (arith, last)))
