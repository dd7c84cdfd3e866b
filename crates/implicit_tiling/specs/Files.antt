-- Files: names and bytes. The first of a name counts; sources and keepers hold each name once (this project's own).
use Rattle.std.specs.Prelude.{ℕ, List, [], ◌∷◌, Option, Some, None, if◌then◌else◌}
use Rattle.std.specs.Str.{bytes_eq}

abbrev pub Files : Type 0
Files = List (List ℕ × List ℕ)

-- the bytes under a name
abbrev pub file : List ℕ → Files → Option (List ℕ)
file name [] = None
file name (pair ∷ rest) = if bytes_eq pair.0 name then Some pair.1 else file name rest
