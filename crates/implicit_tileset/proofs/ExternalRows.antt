-- The table of 20 rows, computed on small subtree files of both forms and the files beside them.
use Rattle.std.proofs.Common.{◌≡◌, ℕ, ◌+◌, ◌<◌, ◌/◌, ◌%◌, true, false, List, [], ◌∷◌, ◌++◌, length, nat_lt, refl, ap, codes, replicate, take, arith}
use Rattle.std.specs.Prelude.{Result, Ok, Err, is_none}
use Rattle.std.specs.List.{list_any}
use Rattle.std.specs.Str.{is_utf8, chars}
use Rattle.std.specs.Fmt.{digits}
use Rattle.std.proofs.lemmas.Bool.{lt-ltb}
use Rattle.serde_json.proofs.OnLiterals.{serde_json_on_literals}
use Rattle.implicit_tiling.specs.declared.Scheme.TheVariants.{Quad}
use Rattle.implicit_tiling.specs.Files.{Files, file}
use Rattle.implicit_tiling.specs.Tile.{root}
use Rattle.implicit_tiling.specs.Scene.{Layout, bad}
use Rattle.implicit_tiling.specs.Subtree.{Subtree}
use Rattle.implicit_tiling.specs.Limits.{most_file_bytes}
use Rattle.implicit_tileset.specs.BufferFiles.{Find, bytes_together, folder_of}
use Rattle.implicit_tileset.specs.FileOutcome.{subtree_found, needed_names, outcome_among, cost, files_checked}

abbrev number_bytes : ℕ → List ℕ
number_bytes n = n % 256 ∷ (n / 256) ∷ replicate 6 0

abbrev pack : List ℕ → List ℕ → List ℕ
pack json binary = codes "subt" ++ (1 ∷ 0 ∷ 0 ∷ 0 ∷ []) ++ number_bytes (length json) ++ number_bytes (length binary) ++ json ++ binary

-- a quadtree of two levels in each subtree and four in all, without contents
abbrev layout : Layout
layout = record { scheme = Quad; subtree_levels = 2; levels = 4; subtree = codes "s/{level}/{x}/{y}.subtree"; contents = [] }

abbrev views : List ℕ
views = codes "\"bufferViews\":[{\"buffer\":0,\"byteOffset\":0,\"byteLength\":1},{\"buffer\":0,\"byteOffset\":8,\"byteLength\":2}],"

abbrev streams : List ℕ
streams = codes "\"tileAvailability\":{\"bitstream\":0},\"childSubtreeAvailability\":{\"bitstream\":1}}"

-- JSON with these buffers, of which all views are of the first
abbrev with_buffers : List ℕ → List ℕ
with_buffers buffers = codes "{\"buffers\":[" ++ buffers ++ codes "]," ++ views ++ streams

abbrev external : List ℕ
external = codes "{\"byteLength\":10,\"uri\":\"0.bin\"}"

abbrev ten : List ℕ
ten = 3 ∷ replicate 7 0 ++ (240 ∷ 0 ∷ [])

abbrev beside : List ℕ → Files
beside bytes = (codes "s/0/0/0.bin", bytes) ∷ []

-- 0 for no fault
abbrev fault : Result Subtree ℕ → ℕ
fault (Ok s) = 0
fault (Err n) = n

abbrev found : List ℕ → Files → ℕ
found bytes files = fault (subtree_found (λ name. file name files) layout root bytes)

-- ---- the JSON form

json_form : found (with_buffers external) (beside ten) ≡ 0
unfolding digits is_utf8 chars serde_json_on_literals
json_form = refl

without_its_file : found (with_buffers external) [] ≡ 19
unfolding digits is_utf8 chars serde_json_on_literals
without_its_file = refl

first_nine_bytes : found (with_buffers external) (beside (take 9 ten)) ≡ 14
unfolding digits is_utf8 chars serde_json_on_literals
first_nine_bytes = refl

without_uri : found (with_buffers (codes "{\"byteLength\":10}")) (beside ten) ≡ 13
unfolding digits is_utf8 chars serde_json_on_literals
without_uri = refl

behind_blanks : found (32 ∷ 9 ∷ 10 ∷ 13 ∷ with_buffers external) (beside ten) ≡ 0
unfolding digits is_utf8 chars serde_json_on_literals
behind_blanks = refl

short_buffer : found (with_buffers (codes "{\"byteLength\":9,\"uri\":\"0.bin\"}")) (beside ten) ≡ 14
unfolding digits is_utf8 chars serde_json_on_literals
short_buffer = refl

-- a byte order mark is not the JSON form: its first four bytes aren't `subt`, and shorter than a header it is that
byte_order_mark : found (239 ∷ 187 ∷ 191 ∷ with_buffers external) (beside ten) ≡ 4
unfolding digits is_utf8 chars serde_json_on_literals
byte_order_mark = refl

short_byte_order_mark : found (239 ∷ 187 ∷ 191 ∷ codes "{}") (beside ten) ≡ 3
short_byte_order_mark = refl

an_array : found (codes "[]") [] ≡ 3
an_array = refl

an_object : found (codes "{}") [] ≡ 11
unfolding digits is_utf8 chars serde_json_on_literals
an_object = refl

-- ---- the binary form

binary_form : found (pack (with_buffers external) []) (beside ten) ≡ 0
unfolding digits is_utf8 chars serde_json_on_literals
binary_form = refl

own_bytes : found (pack (with_buffers (codes "{\"byteLength\":10}")) ten) [] ≡ 0
unfolding digits is_utf8 chars serde_json_on_literals
own_bytes = refl

own_bytes_short : found (pack (with_buffers (codes "{\"byteLength\":11}")) ten) [] ≡ 14
unfolding digits is_utf8 chars serde_json_on_literals
own_bytes_short = refl

-- ---- names

names_of : List ℕ → List (List ℕ)
names_of bytes = elim (needed_names layout root bytes) [ Ok names ↦ names | Err n ↦ (n ∷ []) ∷ [] ]

-- two views in one buffer, and in two buffers of one `uri`: one name
one_name : names_of (with_buffers external) ≡ codes "s/0/0/0.bin" ∷ []
unfolding digits is_utf8 chars serde_json_on_literals names_of
one_name = refl

two_buffers : List ℕ → List ℕ
two_buffers second = codes "{\"buffers\":[" ++ external ++ codes "," ++ second
    ++ codes "],\"bufferViews\":[{\"buffer\":1,\"byteOffset\":0,\"byteLength\":1},{\"buffer\":0,\"byteOffset\":8,\"byteLength\":2}]," ++ streams

one_uri : names_of (two_buffers external) ≡ codes "s/0/0/0.bin" ∷ []
unfolding digits is_utf8 chars serde_json_on_literals names_of two_buffers
one_uri = refl

-- in the order of the buffers; a `data:` URI is the name of a file
two_uris : names_of (two_buffers (codes "{\"byteLength\":10,\"uri\":\"data:,x\"}")) ≡ codes "s/0/0/0.bin" ∷ codes "s/0/0/data:,x" ∷ []
unfolding digits is_utf8 chars serde_json_on_literals names_of two_buffers
two_uris = refl

-- a buffer that no used view stands in has no name, and a fault of the rows 3 to 13 is the answer
no_unused : names_of (with_buffers (codes "{\"byteLength\":10},{\"byteLength\":10,\"uri\":\"0.bin\"}")) ≡ (13 ∷ []) ∷ []
unfolding digits is_utf8 chars serde_json_on_literals names_of
no_unused = refl

no_slash : folder_of (codes "s") ≡ []
no_slash = refl

last_slash : folder_of (codes "a/b//c%2Fd") ≡ codes "a/b//"
last_slash = refl

-- ---- costs

two_fetches : cost ((codes "s/0/0/0.subtree", with_buffers external) ∷ beside ten) layout root ≡ 2
unfolding digits is_utf8 chars serde_json_on_literals
two_fetches = refl

one_fetch : cost ((codes "s/0/0/0.subtree", with_buffers (codes "{\"byteLength\":10}")) ∷ beside ten) layout root ≡ 1
unfolding digits is_utf8 chars serde_json_on_literals
one_fetch = refl

none_there : outcome_among (beside ten) layout root ≡ bad 1
unfolding digits
none_there = refl

-- ---- together

refused_20 : {B : Type 0} (find : Find) (names : List (List ℕ)) (rest : Result B ℕ)
    → list_any (λ name. is_none (find name)) names ≡ false → nat_lt most_file_bytes (bytes_together find names) ≡ true → files_checked find names rest ≡ Err 20
refused_20 find names rest there long = rw there (rw long refl)

abbrev second_file : List ℕ
second_file = codes "{\"byteLength\":10,\"uri\":\"1.bin\"}"

abbrev two_files : List ℕ → List ℕ → Files
two_files a b = (codes "s/0/0/0.bin", a) ∷ (codes "s/0/0/1.bin", b) ∷ []

too_many : (a b : List ℕ) → most_file_bytes < length a + length b → found (two_buffers second_file) (two_files a b) ≡ 20
unfolding digits is_utf8 chars serde_json_on_literals two_buffers
too_many a b h =
    let names = codes "s/0/0/0.bin" ∷ codes "s/0/0/1.bin" ∷ [] in
    ap fault (refused_20 (λ name. file name (two_files a b)) names _ refl (lt-ltb most_file_bytes (length a + (length b + 0)) (omega (arith, h))))
