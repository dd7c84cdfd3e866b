-- What an object is beside an outlet (this project's own).
use Rattle.std.specs.Prelude.{ℕ, List, Option}

-- an inlet: the bytes not yet taken, where it tells them, and how many were taken
pub record InletAside : Type 0 where
  pub left : Option (List ℕ)
  pub taken : ℕ
