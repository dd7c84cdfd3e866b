-- A table of conditions in its order: what a row means that is passed.
use Rattle.std.proofs.Common.{◌≡◌, ℕ, Bool, true, false, Result, Ok, Err, refl, ap}
use Rattle.implicit_tiling.specs.Checks.{refuse}

-- where the test doesn't hold, the rows that follow answer
pub refuse-past : {B : Type 0} (number : ℕ) (test : Bool) (rest : Result B ℕ) → test ≡ false → refuse number test rest ≡ rest
refuse-past number test rest e = ap (λ b. refuse number b rest) e

-- where there is no fault, the test didn't hold, and the rows that follow have none
pub refuse-good : {B : Type 0} (number : ℕ) (test : Bool) (rest : Result B ℕ) (b : B) → refuse number test rest ≡ Ok b → (test ≡ false) × (rest ≡ Ok b)
refuse-good number true rest b is = cc
refuse-good number false rest b is = (refl, is)
