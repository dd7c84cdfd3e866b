-- The two forms of a subtree file, and the parts of each (OGC 22-025r4, subtree binary format, subtree JSON format; that
-- the first byte tells the form is this project's own).
use Rattle.std.specs.Prelude.{ℕ, ◌==◌, ◌||◌, Bool, false, List, [], ◌∷◌, Option, Some, None, Result, Ok, if◌then◌else◌}
use Rattle.implicit_tileset.specs.SubtreeFile.{Parts, parts_of, and_then}

-- a space, a tab, LF or CR
abbrev pub is_blank : ℕ → Bool
is_blank byte = byte == 32 || byte == 9 || byte == 10 || byte == 13

-- the JSON form: the first byte that isn't a blank is `{`
abbrev pub is_json_form : List ℕ → Bool
is_json_form [] = false
is_json_form (byte ∷ bytes) = if is_blank byte then is_json_form bytes else byte == 123

-- JSON text, and the bytes of a buffer that has no `uri`, which a file in the JSON form hasn't
pub record FileParts : Type 0 where
  pub json : List ℕ
  pub binary : Option (List ℕ)

abbrev pub both_parts : Parts → FileParts
both_parts parts = record { json = parts.json; binary = Some parts.binary }

-- The parts of a file: in the JSON form all its bytes are JSON text; in the binary form they are the two parts, or the
-- first of the faults 3 to 6.
abbrev pub file_parts : List ℕ → Result FileParts ℕ
file_parts bytes = if is_json_form bytes then Ok (record { json = bytes; binary = None }) else and_then (parts_of bytes)
    (λ parts. Ok (both_parts parts))
