-- The record that the JSON part of a canonical file states.
use Rattle.std.proofs.Common.{◌≡◌, ◌∙◌, ℕ, ◌+◌, Bool, true, false, cond, List, [], ◌∷◌, length, map, codes, Option, Some, None, option_map, option_and_then, refl, ap}
use Rattle.std.specs.Prelude.{Ok}
use Rattle.serde_json.specs.Data.{Data, array}
use Rattle.serde_json.specs.Find.{get}
use Rattle.serde_json.specs.View.{items_of}
use Rattle.implicit_tiling.specs.Checks.{need}
use Rattle.implicit_tileset.specs.Json.{json_of, object_of, each_read}
use Rattle.implicit_tileset.specs.Record.{Buffer, BufferView, Availability, constant, stream, ContentPart, well_formed, SubtreeRecord, record_of, list_read, buffer_of, view_of, availability_of, availability_at, content_from, content_of}
use Rattle.implicit_tileset.proofs.EachRead.{list_of-items_of}
use Rattle.bitstream.specs.Bytes.{bytes_filled}
use Rattle.subtree_write.specs.Canonical.{aligned, is_mixed, has_one, streams_of, view_values, buffer_values, constant_value, stream_value, availability_value, availability_values, file_value}
use Rattle.subtree_write.proofs.Mixed.{ones}

-- ---- what is stated

abbrev pub view_record : ℕ → ℕ → BufferView
view_record offset size = record { buffer = 0; offset = offset; length = size }

abbrev pub view_records : ℕ → List (List Bool) → List BufferView
view_records offset [] = []
view_records offset (bits ∷ rest) = view_record offset (bytes_filled (length bits)) ∷ view_records (offset + aligned (bytes_filled (length bits))) rest

abbrev pub buffer_records : ℕ → List BufferView → List Buffer
buffer_records size [] = []
buffer_records size (view ∷ views) = record { length = size; uri = None } ∷ []

abbrev pub stated : ℕ → List Bool → Availability
stated view bits = cond (is_mixed bits) (stream view (Some (ones bits))) (constant (has_one bits))

abbrev pub all_stated : ℕ → List (List Bool) → List Availability
all_stated view [] = []
all_stated view (bits ∷ rest) = stated view bits ∷ all_stated (view + length (streams_of (bits ∷ []))) rest

-- ---- reading it

views_stated : (offset : ℕ) (bitstreams : List (List Bool)) → each_read view_of (view_values offset bitstreams) ≡ Some (view_records offset bitstreams)
views_stated offset [] = refl
views_stated offset (bits ∷ rest) = ap (option_map (λ l. view_record offset (bytes_filled (length bits)) ∷ l)) (views_stated (offset + aligned (bytes_filled (length bits))) rest)

constant_stated : (b : Bool) → availability_of (constant_value b) ≡ Some (constant b)
constant_stated true = refl
constant_stated false = refl

chosen_stated : (m b : Bool) (n view : ℕ) → availability_of (cond m (stream_value n view) (constant_value b)) ≡ Some (cond m (stream view (Some n)) (constant b))
chosen_stated true b n view = refl
chosen_stated false b n view = constant_stated b

pub availability_stated : (view : ℕ) (bits : List Bool) → availability_of (availability_value view bits) ≡ Some (stated view bits)
availability_stated view bits = chosen_stated (is_mixed bits) (has_one bits) (ones bits) view

content_stated : (view : ℕ) (bits : List Bool) → content_of (availability_value view bits) ≡ Some (well_formed (stated view bits))
content_stated view bits = ap (λ a. Some (content_from a)) (availability_stated view bits)

contents_stated : (view : ℕ) (rest : List (List Bool)) → each_read content_of (availability_values view rest) ≡ Some (map well_formed (all_stated view rest))
contents_stated view [] = refl
contents_stated view (bits ∷ rest) =
    let next = view + length (streams_of (bits ∷ [])) in
    ap (λ o. option_and_then (λ a. option_map (λ l. a ∷ l) (each_read content_of (availability_values next rest))) o) (content_stated view bits)
    ∙ ap (option_map (λ l. well_formed (stated view bits) ∷ l)) (contents_stated next rest)

-- ---- the members of the value

abbrev listed : List Data → Option Data
listed [] = None
listed (value ∷ values) = Some (array (items_of (value ∷ values)))

list_read-listed : {A : Type 0} (of : Data → Option A) (values : List Data) (all : List A) → each_read of values ≡ Some all → list_read of (listed values) ≡ Some all
list_read-listed of [] all e = e
list_read-listed of (value ∷ values) all e = ap (each_read of) (list_of-items_of (value ∷ values)) ∙ e

views_member : (views : List Data) (size : ℕ) (tiles : Data) (contents : List Data) (child : Data) → get (codes "bufferViews") (file_value views size tiles contents child) ≡ listed views
views_member [] size tiles [] child = refl
views_member [] size tiles (content ∷ contents) child = refl
views_member (view ∷ views) size tiles [] child = refl
views_member (view ∷ views) size tiles (content ∷ contents) child = refl

buffers_member : (views : List Data) (size : ℕ) (tiles : Data) (contents : List Data) (child : Data) → get (codes "buffers") (file_value views size tiles contents child) ≡ listed (buffer_values size views)
buffers_member [] size tiles [] child = refl
buffers_member [] size tiles (content ∷ contents) child = refl
buffers_member (view ∷ views) size tiles [] child = refl
buffers_member (view ∷ views) size tiles (content ∷ contents) child = refl

tiles_member : (views : List Data) (size : ℕ) (tiles : Data) (contents : List Data) (child : Data) → get (codes "tileAvailability") (file_value views size tiles contents child) ≡ Some tiles
tiles_member [] size tiles [] child = refl
tiles_member [] size tiles (content ∷ contents) child = refl
tiles_member (view ∷ views) size tiles [] child = refl
tiles_member (view ∷ views) size tiles (content ∷ contents) child = refl

contents_member : (views : List Data) (size : ℕ) (tiles : Data) (contents : List Data) (child : Data) → get (codes "contentAvailability") (file_value views size tiles contents child) ≡ listed contents
contents_member [] size tiles [] child = refl
contents_member [] size tiles (content ∷ contents) child = refl
contents_member (view ∷ views) size tiles [] child = refl
contents_member (view ∷ views) size tiles (content ∷ contents) child = refl

child_member : (views : List Data) (size : ℕ) (tiles : Data) (contents : List Data) (child : Data) → get (codes "childSubtreeAvailability") (file_value views size tiles contents child) ≡ Some child
child_member [] size tiles [] child = refl
child_member [] size tiles (content ∷ contents) child = refl
child_member (view ∷ views) size tiles [] child = refl
child_member (view ∷ views) size tiles (content ∷ contents) child = refl

buffers_stated : (offset size : ℕ) (bitstreams : List (List Bool)) → each_read buffer_of (buffer_values size (view_values offset bitstreams)) ≡ Some (buffer_records size (view_records offset bitstreams))
buffers_stated offset size [] = refl
buffers_stated offset size (bits ∷ rest) = refl

abbrev pub record_from : List Buffer → List BufferView → Availability → List ContentPart → Availability → SubtreeRecord
record_from buffers views tiles contents child = record { buffers = buffers; views = views; tiles = tiles; contents = contents; child = child }

-- of some bitstreams, and of the availabilities with the numbers of their views
pub record_stated : (part : List ℕ) (bitstreams : List (List Bool)) (size a b c : ℕ) (tiles : List Bool) (contents : List (List Bool)) (child : List Bool)
    → json_of part ≡ Some (file_value (view_values 0 bitstreams) size (availability_value a tiles) (availability_values b contents) (availability_value c child))
    → record_of part ≡ Ok (record_from (buffer_records size (view_records 0 bitstreams)) (view_records 0 bitstreams) (stated a tiles) (map well_formed (all_stated b contents)) (stated c child))
record_stated part bitstreams size a b c tiles contents child e =
    let vs = view_values 0 bitstreams in
    let t = availability_value a tiles in
    let cs = availability_values b contents in
    let d = availability_value c child in
    let value = file_value vs size t cs d in
    let buffers = ap (list_read buffer_of) (buffers_member vs size t cs d) ∙ list_read-listed buffer_of (buffer_values size vs) (buffer_records size (view_records 0 bitstreams)) (buffers_stated 0 size bitstreams) in
    let views = ap (list_read view_of) (views_member vs size t cs d) ∙ list_read-listed view_of vs (view_records 0 bitstreams) (views_stated 0 bitstreams) in
    let tile = ap (option_and_then availability_of) (tiles_member vs size t cs d) ∙ availability_stated a tiles in
    let content = ap (list_read content_of) (contents_member vs size t cs d) ∙ list_read-listed content_of cs (map well_formed (all_stated b contents)) (contents_stated b contents) in
    let below = ap (option_and_then availability_of) (child_member vs size t cs d) ∙ availability_stated c child in
    ap (λ o. need 7 o (λ any. need 8 (object_of any) (λ v.
    need 9 (list_read buffer_of (get (codes "buffers") v)) (λ bs. need 10 (list_read view_of (get (codes "bufferViews") v)) (λ ws.
    need 11 (availability_at (codes "tileAvailability") v) (λ x. need 11 (list_read content_of (get (codes "contentAvailability") v)) (λ ys.
    need 11 (availability_at (codes "childSubtreeAvailability") v) (λ z. Ok (record_from bs ws x ys z))))))))) e
    ∙ ap (λ o. need 9 o (λ bs. need 10 (list_read view_of (get (codes "bufferViews") value)) (λ ws.
    need 11 (availability_at (codes "tileAvailability") value) (λ x. need 11 (list_read content_of (get (codes "contentAvailability") value)) (λ ys.
    need 11 (availability_at (codes "childSubtreeAvailability") value) (λ z. Ok (record_from bs ws x ys z))))))) buffers
    ∙ ap (λ o. need 10 o (λ ws. need 11 (availability_at (codes "tileAvailability") value) (λ x. need 11 (list_read content_of (get (codes "contentAvailability") value)) (λ ys.
    need 11 (availability_at (codes "childSubtreeAvailability") value) (λ z. Ok (record_from (buffer_records size (view_records 0 bitstreams)) ws x ys z)))))) views
    ∙ ap (λ o. need 11 o (λ x. need 11 (list_read content_of (get (codes "contentAvailability") value)) (λ ys.
    need 11 (availability_at (codes "childSubtreeAvailability") value) (λ z. Ok (record_from (buffer_records size (view_records 0 bitstreams)) (view_records 0 bitstreams) x ys z))))) tile
    ∙ ap (λ o. need 11 o (λ ys. need 11 (availability_at (codes "childSubtreeAvailability") value) (λ z.
    Ok (record_from (buffer_records size (view_records 0 bitstreams)) (view_records 0 bitstreams) (stated a tiles) ys z)))) content
    ∙ ap (λ o. need 11 o (λ z. Ok (record_from (buffer_records size (view_records 0 bitstreams)) (view_records 0 bitstreams) (stated a tiles) (map well_formed (all_stated b contents)) z))) below
