-- The members of a subtree's JSON that are read (OGC 22-025r4, subtree JSON format: buffers, buffer views,
-- availability objects).
use Rattle.std.specs.Prelude.{ℕ, ◌==◌, Bool, true, false, List, [], codes, Option, Some, None, option_and_then}
use Rattle.std.specs.Prelude.{option_map, Result, Ok, if◌then◌else◌}
use Rattle.serde_json.specs.Data.{Data}
use Rattle.serde_json.specs.Find.{get, as_array, as_number, as_u64, as_str}
use Rattle.implicit_tiling.specs.Checks.{need}
use Rattle.implicit_tileset.specs.Json.{json_of, object_of, number_at, list_of, each_read}

-- a buffer: its length, and the `uri` that names its file, where it stands in a file of its own
pub record Buffer : Type 0 where
  pub length : ℕ
  pub uri : Option (List ℕ)

-- a buffer view: the number of its buffer, and its place and length there
pub record BufferView : Type 0 where
  pub buffer : ℕ
  pub offset : ℕ
  pub length : ℕ

-- an availability: one bit for all, or the bits of a buffer view, maybe with the number of ones among them
pub data Availability : Type 0 where
  constant : Bool → Availability
  stream : ℕ → Option ℕ → Availability

-- the availability of a content, which is a fault only where it is wanted
pub data ContentPart : Type 0 where
  well_formed : Availability → ContentPart
  malformed : ContentPart

pub record SubtreeRecord : Type 0 where
  pub buffers : List Buffer
  pub views : List BufferView
  pub tiles : Availability
  pub contents : List ContentPart
  pub child : Availability

-- the number that a value is, as `serde_json` gives it: a whole number that isn't negative
abbrev pub number_in : Data → Option ℕ
number_in value = option_and_then as_u64 (as_number value)

-- a list that may be absent, which is then empty
abbrev pub list_read : {A : Type 0} → (Data → Option A) → Option Data → Option (List A)
list_read of None = Some []
list_read of (Some value) = option_and_then (λ items. each_read of (list_of items)) (as_array value)

-- a `uri` may be absent, and is a text
abbrev pub uri_from : Option Data → Option (Option (List ℕ))
uri_from None = Some None
uri_from (Some value) = option_map Some (as_str value)

abbrev pub buffer_of : Data → Option Buffer
buffer_of value = option_and_then (λ size. option_map (λ uri. record { length = size; uri = uri })
    (uri_from (get (codes "uri") value))) (number_at (codes "byteLength") value)

abbrev pub view_of : Data → Option BufferView
view_of value = option_and_then
    (λ buffer. option_and_then
    (λ offset. option_map (λ size. record { buffer = buffer; offset = offset; length = size })
    (number_at (codes "byteLength") value)) (number_at (codes "byteOffset") value)) (number_at (codes "buffer") value)

-- 0 or 1
abbrev pub constant_named : ℕ → Option Availability
constant_named n = if n == 0 then Some (constant false) else (if n == 1 then Some (constant true) else None)

-- a count may be absent, and is a number
abbrev pub count_from : Option Data → Option (Option ℕ)
count_from None = Some None
count_from (Some value) = option_map Some (number_in value)

abbrev pub stream_from : Data → Option Data → Option Availability
stream_from view count = option_and_then (λ v. option_map (λ c. stream v c) (count_from count)) (number_in view)

-- exactly one of `constant` and `bitstream` is there; beside `bitstream` there may be an `availableCount`
abbrev pub availability_from : Option Data → Option Data → Option Data → Option Availability
availability_from (Some value) (Some view) count = None
availability_from (Some value) None count = option_and_then constant_named (number_in value)
availability_from None (Some view) count = stream_from view count
availability_from None None count = None

abbrev pub availability_of : Data → Option Availability
availability_of value = availability_from (get (codes "constant") value) (get (codes "bitstream") value)
    (get (codes "availableCount") value)

abbrev pub availability_at : List ℕ → Data → Option Availability
availability_at name value = option_and_then availability_of (get name value)

abbrev pub content_from : Option Availability → ContentPart
content_from (Some availability) = well_formed availability
content_from None = malformed

abbrev pub content_of : Data → Option ContentPart
content_of value = Some (content_from (availability_of value))

-- The record that a JSON value states, or the first of the faults 8 to 11: 8 it is no object, 9 a buffer is faulty,
-- 10 a buffer view is, 11 the availability of tiles or of child subtrees is, or that of contents is no list.
abbrev pub record_of_value : Data → Result SubtreeRecord ℕ
record_of_value any =
    need 8 (object_of any) (λ value.
    need 9 (list_read buffer_of (get (codes "buffers") value)) (λ buffers.
    need 10 (list_read view_of (get (codes "bufferViews") value)) (λ views.
    need 11 (availability_at (codes "tileAvailability") value) (λ tiles.
    need 11 (list_read content_of (get (codes "contentAvailability") value)) (λ contents.
    need 11 (availability_at (codes "childSubtreeAvailability") value) (λ child.
    Ok (record { buffers = buffers; views = views; tiles = tiles; contents = contents; child = child })))))))

-- the record of the JSON text: 7 it is no JSON
abbrev pub record_of : List ℕ → Result SubtreeRecord ℕ
record_of part = need 7 (json_of part) record_of_value
