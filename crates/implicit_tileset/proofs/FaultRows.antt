-- The table of faults, computed on the bytes of small subtree files that break one row each.
use Rattle.std.proofs.Common.{◌≡◌, ℕ, ◌-◌, ◌/◌, ◌%◌, List, [], ◌∷◌, ◌++◌, length, refl, codes, replicate}
use Rattle.std.specs.Prelude.{None, Result, Ok, Err}
use Rattle.std.specs.Str.{is_utf8, chars}
use Rattle.std.specs.Fmt.{digits}
use Rattle.serde_json.proofs.OnLiterals.{serde_json_on_literals}
use Rattle.implicit_tiling.specs.declared.Scheme.TheVariants.{Quad}
use Rattle.implicit_tiling.specs.Tile.{root}
use Rattle.implicit_tiling.specs.Scene.{Layout}
use Rattle.implicit_tiling.specs.Subtree.{Subtree}
use Rattle.implicit_tileset.specs.FileOutcome.{subtree_found}

padded : ℕ → List ℕ → List ℕ
padded fill part = part ++ replicate ((8 - length part % 8) % 8) fill

number_bytes : ℕ → List ℕ
number_bytes n = n % 256 ∷ (n / 256) ∷ replicate 6 0

packed : List ℕ → List ℕ → List ℕ
packed json binary = codes "subt" ++ (1 ∷ 0 ∷ 0 ∷ 0 ∷ []) ++ number_bytes (length json) ++ number_bytes (length binary) ++ json ++ binary

pack : List ℕ → List ℕ → List ℕ
pack json binary = packed (padded 32 json) (padded 0 binary)

-- 0 for no fault
fault : Result Subtree ℕ → ℕ
fault (Ok s) = 0
fault (Err n) = n

-- a quadtree of two levels in each subtree and four in all, without contents
layout : Layout
layout = record { scheme = Quad; subtree_levels = 2; levels = 4; subtree = codes "s"; contents = [] }

buffers : List ℕ
buffers = codes "{\"buffers\":[{\"byteLength\":10}],"

views : List ℕ
views = codes "\"bufferViews\":[{\"buffer\":0,\"byteOffset\":0,\"byteLength\":1},{\"buffer\":0,\"byteOffset\":8,\"byteLength\":2}],"

streams : List ℕ
streams = codes "\"tileAvailability\":{\"bitstream\":0},\"childSubtreeAvailability\":{\"bitstream\":1}}"

binary : ℕ → List ℕ
binary tiles = tiles ∷ replicate 7 0 ++ (240 ∷ 0 ∷ [])

found : List ℕ → ℕ
found bytes = fault (subtree_found (λ name. None) layout root bytes)

two_views : found (pack (buffers ++ views ++ streams) (binary 3)) ≡ 0
unfolding digits is_utf8 chars serde_json_on_literals padded number_bytes packed pack fault layout buffers views streams binary found
two_views = refl

trailing_byte : found (pack (buffers ++ views ++ streams) (binary 3) ++ (7 ∷ [])) ≡ 0
unfolding digits is_utf8 chars serde_json_on_literals padded number_bytes packed pack fault layout buffers views streams binary found
trailing_byte = refl

short_header : found (replicate 23 0) ≡ 3
unfolding fault layout found
short_header = refl

other_magic : found (codes "Subt" ++ replicate 20 0) ≡ 4
unfolding fault layout found
other_magic = refl

other_version : found (codes "subt" ++ (2 ∷ replicate 19 0)) ≡ 5
unfolding fault layout found
other_version = refl

cut_off : found (codes "subt" ++ (1 ∷ 0 ∷ 0 ∷ 0 ∷ replicate 16 255)) ≡ 6
unfolding fault layout found
cut_off = refl

no_json : found (packed [] []) ≡ 7
unfolding digits is_utf8 chars serde_json_on_literals number_bytes packed fault layout found
no_json = refl

no_object : found (pack (codes "[]") []) ≡ 8
unfolding digits is_utf8 chars serde_json_on_literals padded number_bytes packed pack fault layout found
no_object = refl

buffers_no_list : found (pack (codes "{\"buffers\":{}," ++ views ++ streams) (binary 3)) ≡ 9
unfolding digits is_utf8 chars serde_json_on_literals padded number_bytes packed pack fault layout views streams binary found
buffers_no_list = refl

view_without_length : found (pack (buffers ++ codes "\"bufferViews\":[{\"buffer\":0,\"byteOffset\":0},{\"buffer\":0,\"byteOffset\":8,\"byteLength\":2}]," ++ streams) (binary 3)) ≡ 10
unfolding digits is_utf8 chars serde_json_on_literals padded number_bytes packed pack fault layout buffers streams binary found
view_without_length = refl

constant_and_stream : found (pack (buffers ++ views ++ codes "\"tileAvailability\":{\"bitstream\":0,\"constant\":1},\"childSubtreeAvailability\":{\"bitstream\":1}}") (binary 3)) ≡ 11
unfolding digits is_utf8 chars serde_json_on_literals padded number_bytes packed pack fault layout buffers views binary found
constant_and_stream = refl

view_unknown : found (pack (buffers ++ views ++ codes "\"tileAvailability\":{\"bitstream\":0},\"childSubtreeAvailability\":{\"bitstream\":2}}") (binary 3)) ≡ 12
unfolding digits is_utf8 chars serde_json_on_literals padded number_bytes packed pack fault layout buffers views binary found
view_unknown = refl

external_buffer : found (pack (codes "{\"buffers\":[{\"byteLength\":10,\"uri\":\"b\"}]," ++ views ++ streams) (binary 3)) ≡ 19
unfolding digits is_utf8 chars serde_json_on_literals padded number_bytes packed pack fault layout views streams binary found
external_buffer = refl

buffer_out : found (pack (codes "{\"buffers\":[{\"byteLength\":17}]," ++ views ++ streams) (binary 3)) ≡ 14
unfolding digits is_utf8 chars serde_json_on_literals padded number_bytes packed pack fault layout views streams binary found
buffer_out = refl

bits_short : found (pack (buffers ++ codes "\"bufferViews\":[{\"buffer\":0,\"byteOffset\":0,\"byteLength\":1},{\"buffer\":0,\"byteOffset\":8,\"byteLength\":1}]," ++ streams) (binary 3)) ≡ 15
unfolding digits is_utf8 chars serde_json_on_literals padded number_bytes packed pack fault layout buffers streams binary found
bits_short = refl

count_wrong : found (pack (buffers ++ views ++ codes "\"tileAvailability\":{\"bitstream\":0,\"availableCount\":3},\"childSubtreeAvailability\":{\"bitstream\":1}}") (binary 3)) ≡ 16
unfolding digits is_utf8 chars serde_json_on_literals padded number_bytes packed pack fault layout buffers views binary found
count_wrong = refl

count_right : found (pack (buffers ++ views ++ codes "\"tileAvailability\":{\"bitstream\":0,\"availableCount\":2},\"childSubtreeAvailability\":{\"bitstream\":1}}") (binary 3)) ≡ 0
unfolding digits is_utf8 chars serde_json_on_literals padded number_bytes packed pack fault layout buffers views binary found
count_right = refl

parent_missing : found (pack (buffers ++ views ++ streams) (binary 2)) ≡ 17
unfolding digits is_utf8 chars serde_json_on_literals padded number_bytes packed pack fault layout buffers views streams binary found
parent_missing = refl

-- with one content, whose bits are all 1, and four of the five tiles
one_content : Layout
one_content = record { scheme = Quad; subtree_levels = 2; levels = 2; subtree = codes "s"; contents = codes "c" ∷ [] }

content_alone : fault (subtree_found (λ name. None) one_content root (pack (codes "{\"buffers\":[{\"byteLength\":1}],\"bufferViews\":[{\"buffer\":0,\"byteOffset\":0,\"byteLength\":1}],\"childSubtreeAvailability\":{\"constant\":0},\"contentAvailability\":[{\"constant\":1}],\"tileAvailability\":{\"bitstream\":0}}") (15 ∷ []))) ≡ 18
unfolding digits is_utf8 chars serde_json_on_literals padded number_bytes packed pack fault one_content
content_alone = refl

-- a malformed content past those that have templates is no fault
surplus_content : found (pack (codes "{\"childSubtreeAvailability\":{\"constant\":0},\"contentAvailability\":[7],\"tileAvailability\":{\"constant\":1}}") []) ≡ 0
unfolding digits is_utf8 chars serde_json_on_literals padded number_bytes packed pack fault layout found
surplus_content = refl
