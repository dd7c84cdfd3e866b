-- What a subtree file and the files of its used external buffers hold together: the bits that it names, or its first
-- fault by the table of 20 rows (OGC 22-025r4, subtree binary format, subtree JSON format, availability; the numbers
-- and the order of the faults are this project's own).
use Rattle.std.specs.Prelude.{ℕ, ◌+◌, ◌&&◌, nat_lt, Bool, false, List, [], length, map, Option, Some, None}
use Rattle.std.specs.Prelude.{is_none, Result, Ok, Err, if◌then◌else◌}
use Rattle.std.specs.List.{list_any}
use Rattle.implicit_tiling.specs.Limits.{most_file_bytes}
use Rattle.implicit_tiling.specs.Checks.{need, refuse}
use Rattle.implicit_tiling.specs.Files.{Files, file}
use Rattle.implicit_tiling.specs.Template.{filled}
use Rattle.implicit_tiling.specs.Tile.{Tile}
use Rattle.implicit_tiling.specs.Scene.{Layout, Outcome, bad}
use Rattle.implicit_tiling.specs.Subtree.{Subtree}
use Rattle.implicit_tileset.specs.Record.{Buffer, Availability, SubtreeRecord, record_of}
use Rattle.implicit_tileset.specs.SubtreeFile.{Used, Held, names_no_view, is_out, is_short, is_miscounted, raw_bits}
use Rattle.implicit_tileset.specs.SubtreeFile.{wanted_contents, for_nodes, for_children, used_of, subtree_checked}
use Rattle.implicit_tileset.specs.SubtreeFile.{and_then, outcome_from}
use Rattle.implicit_tileset.specs.FileForms.{file_parts}
use Rattle.implicit_tileset.specs.BufferFiles.{Find, buffer_name, buffer_at, used_names, bytes_together}

-- a record, the bytes of a buffer that has no `uri`, where the file has such, and the bytes that a `uri` names
pub record Sources : Type 0 where
  pub parts : SubtreeRecord
  pub binary : Option (List ℕ)
  pub named : Find

-- the bytes of a buffer: those that its `uri` names, or the file's own
abbrev pub bytes_named : Find → Option (List ℕ) → Option (List ℕ) → Option (List ℕ)
bytes_named named binary None = binary
bytes_named named binary (Some uri) = named uri

-- bytes that aren't there are none
abbrev pub or_nothing : Option (List ℕ) → List ℕ
or_nothing None = []
or_nothing (Some bytes) = bytes

-- the bytes of the buffer in which the view of an availability stands
abbrev pub bytes_of : Sources → Option Buffer → List ℕ
bytes_of s None = []
bytes_of s (Some buffer) = or_nothing (bytes_named s.named s.binary buffer.uri)

-- the record beside the bytes that an availability is of
abbrev pub held_at : Sources → Availability → Held
held_at s a = record { parts = s.parts; binary = bytes_of s (buffer_at s.parts a) }

-- 13: the buffer has neither a `uri` nor bytes in the file, which is in the JSON form
abbrev pub has_no_bytes : Option (List ℕ) → Option Buffer → Bool
has_no_bytes binary None = false
has_no_bytes binary (Some buffer) = is_none buffer.uri && is_none binary

abbrev pub is_nowhere : Sources → Availability → Bool
is_nowhere s a = has_no_bytes s.binary (buffer_at s.parts a)

-- the subtree of these bits
abbrev pub subtree_at : Layout → Tile → Sources → List Availability → Subtree
subtree_at layout root s contents = record {
  scheme = layout.scheme;
  levels = layout.subtree_levels;
  cut = layout.levels;
  root = root;
  tiles = raw_bits (held_at s s.parts.tiles) (for_nodes layout s.parts.tiles);
  contents = map (λ a. raw_bits (held_at s a) (for_nodes layout a)) contents;
  child = raw_bits (held_at s s.parts.child) (for_children layout s.parts.child);
}

-- the rows 12 and 13, which no other file has a part in; each row is asked over all that are used
abbrev pub buffers_checked : {B : Type 0} → Sources → List Used → Result B ℕ → Result B ℕ
buffers_checked s used rest =
    refuse 12 (list_any (λ u. names_no_view (held_at s u.availability) u.availability) used)
    (refuse 13 (list_any (λ u. is_nowhere s u.availability) used)
    rest)

-- 19: a file of a used external buffer isn't there; 20: such files have together too many bytes
abbrev pub files_checked : {B : Type 0} → Find → List (List ℕ) → Result B ℕ → Result B ℕ
files_checked find names rest =
    refuse 19 (list_any (λ name. is_none (find name)) names)
    (refuse 20 (nat_lt most_file_bytes (bytes_together find names))
    rest)

-- the rows 14 to 18, and the subtree
abbrev pub bits_checked : Layout → Tile → Sources → List Availability → List Used → Result Subtree ℕ
bits_checked layout root s contents used =
    refuse 14 (list_any (λ u. is_out (held_at s u.availability) u.availability) used)
    (refuse 15 (list_any (λ u. is_short (held_at s u.availability) u) used)
    (refuse 16 (list_any (λ u. is_miscounted (held_at s u.availability) u) used)
    (subtree_checked (subtree_at layout root s contents))))

-- what is found beside the file of a root under a `uri`
abbrev pub beside : Find → Layout → Tile → Find
beside find layout root uri = find (buffer_name layout root uri)

abbrev pub sources_of : Find → Layout → Tile → Option (List ℕ) → SubtreeRecord → Sources
sources_of find layout root binary r = record { parts = r; binary = binary; named = beside find layout root }

-- the subtree of a record, or the first of the faults 12, 13, 19, 20 and 14 to 18
abbrev pub subtree_of_record : Find → Layout → Tile → Option (List ℕ) → SubtreeRecord → List Availability → List Used
    → Result Subtree ℕ
subtree_of_record find layout root binary r contents used =
    let s = sources_of find layout root binary r in
    buffers_checked s used
    (files_checked find (used_names layout root r used)
    (bits_checked layout root s contents used))

-- The subtree of a root that the bytes of its file and the files beside it hold, or the number of their first fault:
-- 3 to 6 of the binary form, 7 to 13, 19, 20, and 14 to 18.
abbrev pub subtree_found : Find → Layout → Tile → List ℕ → Result Subtree ℕ
subtree_found find layout root bytes =
    and_then (file_parts bytes) (λ parts.
    and_then (record_of parts.json) (λ r.
    need 11 (wanted_contents layout r) (λ contents.
    subtree_of_record find layout root parts.binary r contents (used_of layout r contents))))

-- The names of the files of the used external buffers, each once, or the first of the faults 3 to 13.
abbrev pub needed_names : Layout → Tile → List ℕ → Result (List (List ℕ)) ℕ
needed_names layout root bytes =
    and_then (file_parts bytes) (λ parts.
    and_then (record_of parts.json) (λ r.
    need 11 (wanted_contents layout r) (λ contents.
    let used = used_of layout r contents in
    buffers_checked (sources_of (λ name. None) layout root parts.binary r) used
    (Ok (used_names layout root r used)))))

-- what is found for a root: 1 there is no file of its name, 2 it is too long
abbrev pub outcome_of_bytes : Find → Layout → Tile → Option (List ℕ) → Outcome
outcome_of_bytes find layout root None = bad 1
outcome_of_bytes find layout root (Some bytes) = if nat_lt most_file_bytes (length bytes) then bad 2 else outcome_from
    (subtree_found find layout root bytes)

abbrev pub outcome_among : Files → Layout → Tile → Outcome
outcome_among files layout root = outcome_of_bytes (λ name. file name files) layout root
    (file (filled layout.scheme layout.subtree root) files)

-- The cost of a root: one fetch for its file, and one for each name of a used external buffer; one alone where one of
-- the faults 1 to 13 stands first.
abbrev pub names_cost : Result (List (List ℕ)) ℕ → ℕ
names_cost (Ok names) = 1 + length names
names_cost (Err n) = 1

abbrev pub cost_of_bytes : Layout → Tile → Option (List ℕ) → ℕ
cost_of_bytes layout root None = 1
cost_of_bytes layout root (Some bytes) = if nat_lt most_file_bytes (length bytes) then 1 else names_cost
    (needed_names layout root bytes)

abbrev pub cost : Files → Layout → Tile → ℕ
cost files layout root = cost_of_bytes layout root (file (filled layout.scheme layout.subtree root) files)
