-- The files of buffers that were fetched, and what they say of the rows 19 and 20 (this project's own).
use Rattle.std.specs.Prelude.{ℕ, ◌≡◌, ◌-◌, ◌<◌, ◌≤◌, Bool, true, false, List, [], ◌∷◌, length, Option, Some, None}
use Rattle.std.specs.Prelude.{IsSomeAnd, Result, Ok, if◌then◌else◌}
use Rattle.std.specs.List.{list_any}
use Rattle.std.specs.Str.{bytes_eq}
use Rattle.implicit_tiling.specs.Checks.{refuse}
use Rattle.implicit_tileset.specs.Record.{SubtreeRecord}
use Rattle.implicit_tileset.specs.BufferFiles.{Find}
use Rattle.implicit_tileset.specs.FileOutcome.{Sources}
use Rattle.subtree_file.specs.declared.buffers.BufferFile.{BufferFile}
use Rattle.subtree_file.specs.declared.buffers.BufferFile.TheVariants.{Whole, Missing, TooLong}

-- The outcomes of some names, each fetched with what is left of a limit: a whole file leaves as much less, and one that
-- is too long leaves nothing.
abbrev pub AreFetched : Find → ℕ → List (List ℕ) → List BufferFile → Type 0
AreFetched find left [] [] = Unit {0}
AreFetched find left [] (file ∷ files) = ⊥
AreFetched find left (name ∷ names) [] = ⊥
AreFetched find left (name ∷ names) (Whole bytes ∷ files) = (find name ≡ Some bytes.items)
    × (length bytes.items ≤ left)
    × AreFetched find (left - length bytes.items) names files
AreFetched find left (name ∷ names) (Missing ∷ files) = (find name ≡ None) × AreFetched find left names files
AreFetched find left (name ∷ names) (TooLong ∷ files) = IsSomeAnd (find name) (λ bytes. left < length bytes)
    × AreFetched find 0 names files

-- what is left behind them
abbrev pub left_after : ℕ → List BufferFile → ℕ
left_after left [] = left
left_after left (Whole bytes ∷ files) = left_after (left - length bytes.items) files
left_after left (Missing ∷ files) = left_after left files
left_after left (TooLong ∷ files) = left_after 0 files

-- the bytes that were fetched
abbrev pub whole_bytes : BufferFile → Option (List ℕ)
whole_bytes (Whole bytes) = Some bytes.items
whole_bytes Missing = None
whole_bytes TooLong = None

-- those under a `uri`, where the files are of these `uri`s, in their order
abbrev pub bytes_under : List (List ℕ) → List BufferFile → Find
bytes_under [] files uri = None
bytes_under (known ∷ uris) [] uri = None
bytes_under (known ∷ uris) (file ∷ files) uri = if bytes_eq uri known then whole_bytes file else bytes_under uris files uri

-- a record, the file's own bytes for a buffer, where it has such, and the files of its external buffers
pub record Gathered : Type 0 where
  pub parts : SubtreeRecord
  pub binary : Option (List ℕ)
  pub uris : List (List ℕ)
  pub files : List BufferFile

abbrev pub sources_seen : Gathered → Sources
sources_seen g = record { parts = g.parts; binary = g.binary; named = bytes_under g.uris g.files }

abbrev pub is_missing : BufferFile → Bool
is_missing (Whole bytes) = false
is_missing Missing = true
is_missing TooLong = false

abbrev pub is_too_long : BufferFile → Bool
is_too_long (Whole bytes) = false
is_too_long Missing = false
is_too_long TooLong = true

-- the rows 19 and 20
abbrev pub files_rows : List BufferFile → Result (Unit {0}) ℕ
files_rows files = refuse 19 (list_any is_missing files) (refuse 20 (list_any is_too_long files) (Ok tt))
