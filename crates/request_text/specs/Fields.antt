-- For proofs and inner functions: the fields of a line, which a TAB joins (this project's own).
use Rattle.std.specs.Prelude.{ℕ, List, ◌∷◌}
use Rattle.std.specs.List.{join_with_byte}

abbrev pub joined : List (List ℕ) → List ℕ
joined fields = join_with_byte 9 fields

-- a field behind the first
abbrev pub after_tab : List ℕ → List ℕ
after_tab field = 9 ∷ field
