-- The external buffers that a subtree file uses, and the names of their files (OGC 22-025r4, subtree JSON format:
-- buffers; each name once is this project's own).
use Rattle.std.specs.Prelude.{ℕ, zero, suc, ◌+◌, ◌==◌, Bool, List, [], ◌∷◌, ◌++◌, length, map, Option, Some, None}
use Rattle.std.specs.Prelude.{option_and_then, if◌then◌else◌}
use Rattle.std.specs.Str.{bytes_eq}
use Rattle.std.specs.List.{list_any, slice_get}
use Rattle.implicit_tiling.specs.Tile.{Tile}
use Rattle.implicit_tiling.specs.Scene.{Layout}
use Rattle.implicit_tiling.specs.Template.{filled}
use Rattle.implicit_tileset.specs.Record.{Buffer, BufferView, Availability, constant, stream, SubtreeRecord}
use Rattle.implicit_tileset.specs.SubtreeFile.{Used, view_is}

-- what stands under a name, if anything
abbrev pub Find : Type 0
Find = List ℕ → Option (List ℕ)

-- a name up to and with its last `/`; nothing where it has none
abbrev pub folder_of : List ℕ → List ℕ
folder_of [] = []
folder_of (byte ∷ name) = if list_any (λ b. b == 47) (byte ∷ name) then byte ∷ folder_of name else []

-- the folder of the file of a root, of the name as the template is filled, before any decoding
abbrev pub root_folder : Layout → Tile → List ℕ
root_folder layout root = folder_of (filled layout.scheme layout.subtree root)

-- the name of the file that a `uri` names beside the file of a root
abbrev pub buffer_name : Layout → Tile → List ℕ → List ℕ
buffer_name layout root uri = root_folder layout root ++ uri

-- the view of an availability and the buffer of that view, where there are such
abbrev pub view_at : SubtreeRecord → Availability → Option BufferView
view_at r (constant b) = None
view_at r (stream view count) = slice_get r.views view

abbrev pub buffer_at : SubtreeRecord → Availability → Option Buffer
buffer_at r a = option_and_then (λ v. slice_get r.buffers v.buffer) (view_at r a)

-- some used view stands in the buffer of this number
abbrev pub is_used_buffer : SubtreeRecord → List Used → ℕ → Bool
is_used_buffer r used n = list_any (λ u. view_is (λ v. v.buffer == n) (view_at r u.availability)) used

-- the `uri` of that buffer, where it is used and has one
abbrev pub used_uri : SubtreeRecord → List Used → ℕ → Option (List ℕ)
used_uri r used n = if is_used_buffer r used n then option_and_then (λ b. b.uri) (slice_get r.buffers n) else None

-- a list with one more, unless it is there
abbrev pub put_once : List (List ℕ) → Option (List ℕ) → List (List ℕ)
put_once uris None = uris
put_once uris (Some uri) = if list_any (bytes_eq uri) uris then uris else uris ++ uri ∷ []

-- the `uri`s of the used external buffers below a number, each once, in the order of the buffers
abbrev pub uris_below : SubtreeRecord → List Used → ℕ → List (List ℕ)
uris_below r used zero = []
uris_below r used (suc n) = put_once (uris_below r used n) (used_uri r used n)

abbrev pub used_uris : SubtreeRecord → List Used → List (List ℕ)
used_uris r used = uris_below r used (length r.buffers)

-- The names of their files: one folder stands before all, so that two have one name exactly where they have one `uri`.
abbrev pub used_names : Layout → Tile → SubtreeRecord → List Used → List (List ℕ)
used_names layout root r used = map (buffer_name layout root) (used_uris r used)

-- how many bytes these names have together
abbrev pub bytes_found : Option (List ℕ) → ℕ
bytes_found None = 0
bytes_found (Some bytes) = length bytes

abbrev pub bytes_together : Find → List (List ℕ) → ℕ
bytes_together find [] = 0
bytes_together find (name ∷ names) = bytes_found (find name) + bytes_together find names
