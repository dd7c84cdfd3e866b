-- A subtree file of which the record was read, and what it needs and holds (this project's own).
use Rattle.std.specs.Prelude.{ℕ, List, Option, is_some, IfOk, Result, Ok}
use Rattle.implicit_tiling.specs.Checks.{need}
use Rattle.implicit_tiling.specs.Limits.{most_file_bytes}
use Rattle.implicit_tiling.specs.Tile.{Tile}
use Rattle.implicit_tiling.specs.Scene.{Layout}
use Rattle.implicit_tiling.specs.Subtree.{Subtree}
use Rattle.implicit_tileset.specs.SubtreeFile.{Used, wanted_contents, and_then}
use Rattle.implicit_tileset.specs.FileForms.{file_parts}
use Rattle.implicit_tileset.specs.Record.{SubtreeRecord, record_of}
use Rattle.implicit_tileset.specs.BufferFiles.{Find, used_names}
use Rattle.implicit_tileset.specs.FileOutcome.{subtree_of_record, needed_names}
use Rattle.subtree_file.specs.declared.buffers.BufferFile.{BufferFile}
use Rattle.subtree_file.specs.Decoding.{used_in}
use Rattle.subtree_file.specs.Needed.{buffer_rows}
use Rattle.subtree_file.specs.Buffers.{AreFetched}

-- the record, the file's own bytes for a buffer, where it has such, and the availabilities that are used
pub record Opened : Type 0 where
  pub parts : SubtreeRecord
  pub binary : Option (List ℕ)
  pub used : List Used

-- the record of a file, or the first of the faults 3 to 11
abbrev pub opened : Layout → List ℕ → Result Opened ℕ
opened layout bytes =
    and_then (file_parts bytes) (λ parts.
    and_then (record_of parts.json) (λ r.
    and_then (used_in layout r) (λ used.
    Ok (record { parts = r; binary = parts.binary; used = used }))))

-- the names of the files that it needs, or fault 12 or 13
abbrev pub opened_names : Layout → Tile → Opened → Result (List (List ℕ)) ℕ
opened_names layout root o = and_then (buffer_rows o.parts (is_some o.binary) o.used)
    (λ done. Ok (used_names layout root o.parts o.used))

-- the subtree that it holds with the files beside it, or one of the faults from 12 on
abbrev pub opened_subtree : Find → Layout → Tile → Opened → Result Subtree ℕ
opened_subtree find layout root o =
    need 11 (wanted_contents layout o.parts) (λ contents.
    subtree_of_record find layout root o.binary o.parts contents o.used)

-- these are the outcomes of the names that it needs, where it needs some
abbrev pub AreOpenedBuffers : Find → Layout → Tile → Opened → List BufferFile → Type 0
AreOpenedBuffers find layout root o files = IfOk (opened_names layout root o)
    (λ names. AreFetched find most_file_bytes names files)

-- the same of the bytes of a file
abbrev pub AreBuffers : Find → Layout → Tile → List ℕ → List BufferFile → Type 0
AreBuffers find layout root bytes files = IfOk (needed_names layout root bytes)
    (λ names. AreFetched find most_file_bytes names files)
