-- The lines of an input (this project's own).
use Rattle.std.specs.Prelude.{ℕ, ◌≡◌, ◌==◌, ◌<◌, List, [], ◌∷◌, length, map, Option, Some, None, if◌then◌else◌}
use Rattle.std.specs.List.{slice_split}
use Rattle.std.specs.Str.Lines.{strip_carriage_return}
use denote.Ref.{Bor}

-- pieces of which the last is left out where it is empty
abbrev pub without_empty_end : List (List ℕ) → List (List ℕ)
without_empty_end [] = []
without_empty_end (piece ∷ []) = if length piece == 0 then [] else piece ∷ []
without_empty_end (piece ∷ next ∷ more) = piece ∷ without_empty_end (next ∷ more)

-- The pieces between LF, each without one CR at its end. What stands behind the last LF is a line where it isn't empty.
abbrev pub input_lines : List ℕ → List (List ℕ)
input_lines input = map strip_carriage_return (without_empty_end (slice_split (λ c. c == 10) input))

-- the first line of an input and what stands behind it, or that it has none
abbrev pub IsNextLine : List ℕ → Option (Bor (List ℕ) × Bor (List ℕ)) → Type 0
IsNextLine input None = input_lines input ≡ []
IsNextLine input (Some found) = (input_lines input ≡ found.0.now ∷ input_lines found.1.now)
    × (length found.1.now < length input)
