-- What a template is filled with: the tile of a level and coordinates, in the scheme of two or three axes, and a
-- variable that was found behind a brace (OGC 22-025r4, implicit tiling: template URIs).
use Rattle.std.specs.Prelude.{ℕ, ◌≡◌, ◌==◌, List, ◌∷◌, ◌++◌, Option, Some, None, slice_index, if◌then◌else◌}
use Rattle.std.specs.Str.{IsUtf8}
use denote.Ref.{Bor}
use Rattle.implicit_tiling.specs.declared.Scheme.{Scheme}
use Rattle.implicit_tiling.specs.declared.Scheme.TheVariants.{Quad, Oct}
use Rattle.implicit_tiling.specs.Tile.{Tile}

-- the scheme that divides so many axes, of 2 or 3
abbrev pub scheme_of : ℕ → Scheme
scheme_of axes = if axes == 3 then Oct else Quad

abbrev pub tile_of : ℕ → List ℕ → Tile
tile_of level coords = record {
  level = level;
  x = slice_index coords 0;
  y = slice_index coords 1;
  z = slice_index
      coords 2;
}

-- the number of the variable that was found, and the text behind its name
abbrev pub FindsVariable : Option (List ℕ × ℕ) → List ℕ → Option (ℕ × Bor (List ℕ)) → Type 0
FindsVariable found text None = found ≡ None
FindsVariable found text (Some r) = (name : List ℕ) × (found ≡ Some (123 ∷ name, r.0)) × (text ≡ name ++ r.1.now)
    × IsUtf8 r.1.now
