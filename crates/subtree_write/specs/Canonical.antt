-- The canonical file of a subtree: of the files that hold the same bits this one is written (OGC 22-025r4, subtree
-- binary format, subtree JSON format, availability; the choice is this project's own).
use Rattle.std.specs.Prelude.{ℕ, ◌+◌, ◌-◌, ◌*◌, ◌/◌, ◌&&◌, not, Bool, List, [], ◌∷◌, ◌++◌, length, replicate, codes}
use Rattle.std.specs.Prelude.{if◌then◌else◌}
use Rattle.std.specs.List.{list_any, filter, flat_map, count_by}
use Rattle.std.specs.Int.{w32, w64, to_le_bytes}
use Rattle.serde_json.specs.Data.{Data, array, object, Members, no_members, member}
use Rattle.serde_json.specs.View.{items_of}
use Rattle.serde_json.specs.Written.{compact_text}
use Rattle.bitstream.specs.Bytes.{bytes_filled, bytes_of_bits}
use Rattle.implicit_tileset.specs.Json.{whole_number}
use Rattle.implicit_tiling.specs.Subtree.{Subtree}

-- the least multiple of 8 that isn't below n, and bytes that are filled up to it
abbrev pub aligned : ℕ → ℕ
aligned n = (n + 7) / 8 * 8

abbrev pub padded : ℕ → List ℕ → List ℕ
padded fill bytes = bytes ++ replicate (aligned (length bytes) - length bytes) fill

-- some of the bits are 1 and some are 0: these need a bitstream, others are a constant
abbrev pub has_one : List Bool → Bool
has_one bits = list_any (λ bit. bit) bits

abbrev pub is_mixed : List Bool → Bool
is_mixed bits = has_one bits && list_any not bits

-- those of some availabilities that have a bitstream
abbrev pub streams_of : List (List Bool) → List (List Bool)
streams_of availabilities = filter is_mixed availabilities

-- the availabilities of tiles, of contents and of child subtrees, in this order
abbrev pub availabilities_of : Subtree → List (List Bool)
availabilities_of s = s.tiles ∷ (s.contents ++ s.child ∷ [])

abbrev pub streams : Subtree → List (List Bool)
streams s = streams_of (availabilities_of s)

-- ---- the binary part

-- the bitstreams one after another, each from a multiple of 8 on
abbrev pub stream_bytes : List (List Bool) → List ℕ
stream_bytes bitstreams = flat_map (λ bits. padded 0 (bytes_of_bits bits)) bitstreams

abbrev pub binary : Subtree → List ℕ
binary s = stream_bytes (streams s)

-- ---- the JSON part: members in the order of their names

abbrev pub view_value : ℕ → ℕ → Data
view_value offset size = object (member (codes "buffer") (whole_number 0) (member (codes "byteLength")
    (whole_number size) (member (codes "byteOffset") (whole_number offset) no_members)))

-- a view of each bitstream, of which the first begins at `offset`
abbrev pub view_values : ℕ → List (List Bool) → List Data
view_values offset [] = []
view_values offset (bits ∷ bitstreams) = view_value offset (bytes_filled (length bits)) ∷ view_values
    (offset + aligned (bytes_filled (length bits))) bitstreams

-- one buffer, where there is a view
abbrev pub buffer_values : ℕ → List Data → List Data
buffer_values size [] = []
buffer_values size (view ∷ views) = object (member (codes "byteLength") (whole_number size) no_members) ∷ []

abbrev pub constant_value : Bool → Data
constant_value bit = object (member (codes "constant") (whole_number (if bit then 1 else 0)) no_members)

abbrev pub stream_value : ℕ → ℕ → Data
stream_value ones view = object (member (codes "availableCount") (whole_number ones)
    (member (codes "bitstream") (whole_number view) no_members))

-- `view` is the number of its view, where it has one
abbrev pub availability_value : ℕ → List Bool → Data
availability_value view bits = if is_mixed bits then stream_value (count_by
    (λ bit. bit) bits) view else constant_value (has_one bits)

-- views are numbered in the order of the availabilities, here from `view` on
abbrev pub availability_values : ℕ → List (List Bool) → List Data
availability_values view [] = []
availability_values view (bits ∷ rest) = availability_value view bits ∷ availability_values
    (view + length (streams_of (bits ∷ []))) rest

-- a member that is a list, and isn't there where the list is empty
abbrev pub list_member : List ℕ → List Data → Members → Members
list_member name [] members = members
list_member name (value ∷ values) members = member name (array (items_of (value ∷ values))) members

-- the value of a file with these views, in a buffer of `size` bytes, and these availabilities
abbrev pub file_value : List Data → ℕ → Data → List Data → Data → Data
file_value views size tiles contents child = object
    (list_member (codes "bufferViews") views
    (list_member (codes "buffers") (buffer_values size views)
    (member (codes "childSubtreeAvailability") child
    (list_member (codes "contentAvailability") contents
    (member (codes "tileAvailability") tiles
    no_members)))))

abbrev pub json_value : Subtree → Data
json_value s = file_value
    (view_values 0 (streams s)) (length (binary s))
    (availability_value 0 s.tiles)
    (availability_values (length (streams_of (s.tiles ∷ []))) s.contents)
    (availability_value (length (streams_of (s.tiles ∷ s.contents))) s.child)

-- ---- the file

-- the two parts behind a header of 24 bytes
abbrev pub file_of : List ℕ → List ℕ → List ℕ
file_of json bytes = codes "subt" ++ to_le_bytes w32 1 ++ to_le_bytes w64 (length json)
    ++ to_le_bytes w64 (length bytes) ++ json ++ bytes

-- JSON is filled up by spaces
abbrev pub json_part : Subtree → List ℕ
json_part s = padded 32 (compact_text (json_value s))

abbrev pub canonical : Subtree → List ℕ
canonical s = file_of (json_part s) (binary s)
