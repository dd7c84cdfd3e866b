-- Files as values: pairs of a name and bytes in memory, that no name stands there twice, and lists of files in which
-- the same is found (this project's own).
use Rattle.std.specs.Prelude.{ℕ, ◌≡◌, List, [], ◌∷◌, IsNone, map, String, string_bytes, Vec}
use Rattle.std.specs.declared.alloc.Global.{Global}
use mathlib.Core.HLevel.{×_prop, Unit-prop}
use Rattle.std.proofs.Math.Bool.{Bool-set}
use Rattle.implicit_tiling.specs.Files.{Files, file}

-- no pair has the name of one before it
abbrev pub HasDistinctNames : Files → Type 0
HasDistinctNames [] = Unit {0}
HasDistinctNames (pair ∷ rest) = IsNone (file pair.0 rest) × HasDistinctNames rest

pub HasDistinctNames-prop : (files : Files) → IsProp (HasDistinctNames files)
HasDistinctNames-prop [] = Unit-prop
HasDistinctNames-prop (pair ∷ rest) = ×_prop (Bool-set _ _) (HasDistinctNames-prop rest)

-- under every name the same is found
abbrev pub HaveSameFiles : Files → Files → Type 0
HaveSameFiles these those = (name : List ℕ) → file name these ≡ file name those

-- the files that a vector of texts and bytes holds
abbrev pub files_of : List (String Global × Vec ℕ Global) → Files
files_of pairs = map (λ p. (string_bytes p.0, p.1.items)) pairs
