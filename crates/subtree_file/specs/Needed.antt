-- What the search for needed files answers, beside what is stated (this project's own).
use Rattle.std.specs.Prelude.{ℕ, ◌≡◌, ◌&&◌, Bool, not, List, [], ◌∷◌, ◌++◌, map, Option, Some, None, Result, Ok, Err, String, string_bytes, Vec}
use Rattle.std.specs.declared.alloc.Global.{Global}
use Rattle.std.specs.List.{list_any}
use denote.Ref.{Bor}
use Rattle.implicit_tiling.specs.Checks.{refuse}
use Rattle.implicit_tileset.specs.SubtreeFile.{Used, names_no_view}
use Rattle.implicit_tileset.specs.Record.{SubtreeRecord}
use Rattle.implicit_tileset.specs.BufferFiles.{buffer_at}
use Rattle.implicit_tileset.specs.FileOutcome.{has_no_bytes}
use Rattle.subtree_file.specs.declared.fault.DecodeFault.{DecodeFault}
use Rattle.subtree_file.specs.declared.fault.DecodeFault.TheVariants.{Fault, Memory}

-- the names that are stated, or their fault, unless there isn't enough memory
abbrev pub DecodesNames : Result (List (List ℕ)) ℕ → Result (Vec (String Global) Global) DecodeFault → Type 0
DecodesNames stated (Ok names) = stated ≡ Ok (map string_bytes names.items)
DecodesNames stated (Err (Fault n)) = stated ≡ Err n
DecodesNames stated (Err Memory) = Unit {0}

-- texts as lists of bytes
abbrev pub shown : List (Bor (List ℕ)) → List (List ℕ)
shown texts = map (λ t. t.now) texts

-- the rows 12 and 13 of a record, in a file that has bytes of its own or not
abbrev pub buffer_rows : SubtreeRecord → Bool → List Used → Result (Unit {0}) ℕ
buffer_rows r has_bytes used =
    refuse 12 (list_any (λ u. names_no_view (record { parts = r; binary = [] }) u.availability) used)
    (refuse 13 (not has_bytes && list_any (λ u. has_no_bytes None (buffer_at r u.availability)) used)
    (Ok tt))

-- the folder, by the two texts around a last slash
abbrev pub joined : Option (List ℕ × List ℕ) → List ℕ
joined None = []
joined (Some split) = split.0 ++ 47 ∷ []
