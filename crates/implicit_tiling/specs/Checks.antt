-- A table of conditions in its order, of which the first that holds gives the answer (this project's own).
-- A fault table then reads as its rows.
use Rattle.std.specs.Prelude.{ℕ, Bool, true, false, Option, Some, None, Result, Err}

-- there has to be a value, which the rest goes on with; else the answer is this number
abbrev pub need : {A B : Type 0} → ℕ → Option A → (A → Result B ℕ) → Result B ℕ
need number None rest = Err number
need number (Some a) rest = rest a

-- where the test holds the answer is this number
abbrev pub refuse : {B : Type 0} → ℕ → Bool → Result B ℕ → Result B ℕ
refuse number true rest = Err number
refuse number false rest = rest
