-- What the parts of a request line are read to (this project's own).
use Rattle.std.specs.Prelude.{ℕ, ◌≡◌, ◌==◌, List, [], ◌∷◌, length, Option, Some, None, if◌then◌else◌}
use Rattle.std.specs.List.{slice_split}
use denote.Ref.{Bor}
use Rattle.implicit_tiling.specs.declared.Scheme.{Scheme}
use Rattle.implicit_tiling.specs.Tile.{axes}
use Rattle.implicit_tiling.specs.Request.{Line as line, three}
use Rattle.request_text.specs.declared.line.Coordinates.{Coordinates}
use Rattle.request_text.specs.declared.line.Coordinates.TheVariants.{Two, Three}
use Rattle.request_text.specs.declared.line.Line.{Line}
use Rattle.request_text.specs.declared.line.Refusal.{Refusal}
use Rattle.request_text.specs.declared.line.Refusal.TheVariants.{NotALine, OtherAxes, LevelHigh, BoxOrder, BoxOut}

abbrev pub coordinates_seen : Coordinates → List ℕ
coordinates_seen (Two x y) = x ∷ y ∷ []
coordinates_seen (Three x y z) = x ∷ y ∷ z ∷ []

abbrev pub line_seen : Line → line
line_seen l = record { level = l.level; lo = coordinates_seen l.lo; hi = coordinates_seen l.hi }

-- as many coordinates as the scheme has axes, with a third place
abbrev pub places_of : Scheme → List ℕ → Option (List ℕ)
places_of scheme cs = if length cs == axes scheme then Some (three cs) else None

-- the numbers of the refusals
abbrev pub refusal_number : Refusal → ℕ
refusal_number NotALine = 1
refusal_number OtherAxes = 2
refusal_number LevelHigh = 3
refusal_number BoxOrder = 4
refusal_number BoxOut = 5

-- the parts before and behind the first separator, or the text alone
abbrev pub IsSplitOnce : ℕ → List ℕ → Option (Bor (List ℕ) × Bor (List ℕ)) → Type 0
IsSplitOnce separator text None = slice_split (λ c. c == separator) text ≡ text ∷ []
IsSplitOnce separator text (Some r) = slice_split (λ c. c == separator) text ≡ r.0.now ∷ slice_split
    (λ c. c == separator) r.1.now
