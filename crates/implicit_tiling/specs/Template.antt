-- URI templates, and what stands for their variables (OGC 22-025r4, implicit tiling: template URIs). Text that is no
-- variable is copied, `{z}` in a quadtree among it. The limits of a template are this project's own.
use Rattle.std.specs.Prelude.{ℕ, zero, suc, ◌-◌, ◌&&◌, ◌==◌, nat_le, not, Bool, List, [], ◌∷◌, ◌++◌, length, Option}
use Rattle.std.specs.Prelude.{Some, None, codes, nat_eq, if◌then◌else◌}
use Rattle.std.specs.List.{starts_with, list_all}
use Rattle.std.specs.Fmt.{decimal}
use Rattle.implicit_tiling.specs.declared.Scheme.{Scheme}
use Rattle.implicit_tiling.specs.declared.Scheme.TheVariants.{Quad, Oct}
use Rattle.implicit_tiling.specs.Tile.{Tile}

-- the most bytes of a template
abbrev pub most_template_bytes : ℕ
most_template_bytes = 1024

-- none of the bytes is a control character
abbrev pub is_printable : List ℕ → Bool
is_printable text = list_all (λ c. nat_le 32 c && not (c == 127)) text

abbrev pub is_template : List ℕ → Bool
is_template text = nat_le (length text) most_template_bytes && is_printable text

-- the variables of a scheme with their numbers at a tile
abbrev pub variables : Scheme → Tile → List (List ℕ × ℕ)
variables Quad t = (codes "{level}", t.level) ∷ (codes "{x}", t.x) ∷ (codes "{y}", t.y) ∷ []
variables Oct t = (codes "{level}", t.level) ∷ (codes "{x}", t.x) ∷ (codes "{y}", t.y) ∷ (codes "{z}", t.z) ∷ []

-- the variable that a text begins with
abbrev pub variable_at : List (List ℕ × ℕ) → List ℕ → Option (List ℕ × ℕ)
variable_at [] text = None
variable_at (v ∷ vs) text = if starts_with nat_eq text v.0 then Some v else variable_at vs text

-- what is written for a byte: itself, or the number of the variable that begins there
abbrev pub written : ℕ → Option (List ℕ × ℕ) → List ℕ
written c None = c ∷ []
written c (Some v) = decimal v.1

-- how many bytes after the first belong to the variable
abbrev pub bytes_passed : Option (List ℕ × ℕ) → ℕ
bytes_passed None = 0
bytes_passed (Some v) = length v.0 - 1

-- the text with each variable replaced by its number, from left to right; the first n bytes belong to the last variable
abbrev pub filled_past : List (List ℕ × ℕ) → ℕ → List ℕ → List ℕ
filled_past vs n [] = []
filled_past vs (suc n) (c ∷ text) = filled_past vs n text
filled_past vs zero (c ∷ text) = let found = variable_at vs (c ∷ text) in written c found
    ++ filled_past vs (bytes_passed found) text

abbrev pub filled : Scheme → List ℕ → Tile → List ℕ
filled scheme template t = filled_past (variables scheme t) 0 template
