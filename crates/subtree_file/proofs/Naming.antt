-- The rows of the search for needed files, one after another.
use Rattle.std.proofs.Common.{◌≡◌, ◌∙◌, ℕ, suc, ◌+◌, ◌<◌, Bool, true, false, cond, not, ◌&&◌, ◌||◌, List, [], ◌∷◌, ◌++◌, map, length, refl, sym, ap, ap₂, add-one}
use Rattle.std.specs.Prelude.{Option, Some, None, option_map, is_some, is_none, Result, Ok, Err}
use Rattle.std.specs.List.{list_any}
use Rattle.std.specs.Str.{bytes_eq}
use Rattle.std.proofs.lemmas.Bool.{and_right, or_from}
use Rattle.std.proofs.lemmas.List.{map-append}
use denote.Ref.{Bor}
use Rattle.implicit_tiling.specs.Checks.{need, refuse}
use Rattle.implicit_tiling.specs.Tile.{Tile}
use Rattle.implicit_tiling.specs.Scene.{Layout}
use Rattle.implicit_tileset.specs.Record.{Buffer, Availability, constant, stream, SubtreeRecord}
use Rattle.implicit_tileset.specs.SubtreeFile.{Used, names_no_view, wanted_contents, used_of, and_then}
use Rattle.implicit_tileset.specs.FileForms.{FileParts, file_parts}
use Rattle.implicit_tileset.specs.BufferFiles.{Find, buffer_at, root_folder, used_names, used_uri, used_uris, put_once, uris_below}
use Rattle.implicit_tileset.specs.FileOutcome.{has_no_bytes, held_at, is_nowhere, sources_of, buffers_checked, needed_names}
use Rattle.subtree_file.specs.declared.fault.DecodeFault.{DecodeFault}
use Rattle.subtree_file.specs.declared.fault.DecodeFault.TheVariants.{Fault, Memory}
use Rattle.subtree_file.specs.Decoding.{Decodes, used_in}
use Rattle.subtree_file.specs.Needed.{DecodesNames, buffer_rows, shown}

-- ---- tests of lists

any_same : {X : Type 0} (f g : X → Bool) (xs : List X) → ((x : X) → f x ≡ g x) → list_any f xs ≡ list_any g xs
any_same f g [] each = refl
any_same f g (x ∷ xs) each = ap₂ (λ a b. a || b) (each x) (any_same f g xs each)

any_none : {X : Type 0} (f : X → Bool) (xs : List X) → ((x : X) → f x ≡ false) → list_any f xs ≡ false
any_none f [] each = refl
any_none f (x ∷ xs) each = or_from (f x) (list_any f xs) (each x) (any_none f xs each)

pub any_shown : (test : List ℕ → Bool) (texts : List (Bor (List ℕ))) → list_any (λ t. test t.now) texts ≡ list_any test (shown texts)
any_shown test [] = refl
any_shown test (t ∷ texts) = ap (λ b. test t.now || b) (any_shown test texts)

-- ---- the rows 12 and 13

-- whether a view is named doesn't hang on any bytes
no_view : (r : SubtreeRecord) (bytes : List ℕ) (a : Availability)
    → names_no_view (record { parts = r; binary = bytes }) a ≡ names_no_view (record { parts = r; binary = [] }) a
no_view r bytes (constant b) = refl
no_view r bytes (stream view count) = refl

somewhere : (bytes : List ℕ) (buffer : Option Buffer) → has_no_bytes (Some bytes) buffer ≡ false
somewhere bytes None = refl
somewhere bytes (Some buffer) = and_right (is_none buffer.uri) false refl

row_13 : (r : SubtreeRecord) (binary : Option (List ℕ)) (used : List Used)
    → list_any (λ u. has_no_bytes binary (buffer_at r u.availability)) used ≡ (not (is_some binary) && list_any (λ u. has_no_bytes None (buffer_at r u.availability)) used)
row_13 r None used = refl
row_13 r (Some bytes) used = any_none (λ u. has_no_bytes (Some bytes) (buffer_at r u.availability)) used (λ u. somewhere bytes (buffer_at r u.availability))

abbrev both_rows : Bool → Bool → Result (Unit {0}) ℕ
both_rows a b = refuse 12 a (refuse 13 b (Ok tt))

two_rows : {B : Type 0} (a b : Bool) (rest : Result B ℕ) → refuse 12 a (refuse 13 b rest) ≡ and_then (both_rows a b) (λ done. rest)
two_rows true b rest = refl
two_rows false true rest = refl
two_rows false false rest = refl

pub buffers_by_rows : {B : Type 0} (find : Find) (layout : Layout) (root : Tile) (binary : Option (List ℕ)) (r : SubtreeRecord) (used : List Used) (rest : Result B ℕ)
    → buffers_checked (sources_of find layout root binary r) used rest ≡ and_then (buffer_rows r (is_some binary) used) (λ done. rest)
buffers_by_rows find layout root binary r used rest =
    let s = sources_of find layout root binary r in
    let no = λ (u : Used). names_no_view (record { parts = r; binary = [] }) u.availability in
    ap (λ b. refuse 12 b (refuse 13 (list_any (λ u. is_nowhere s u.availability) used) rest)) (any_same (λ u. names_no_view (held_at s u.availability) u.availability) no used (λ u. no_view r (held_at s u.availability).binary u.availability))
    ∙ ap (λ b. refuse 12 (list_any no used) (refuse 13 b rest)) (row_13 r binary used)
    ∙ two_rows (list_any no used) (not (is_some binary) && list_any (λ u. has_no_bytes None (buffer_at r u.availability)) used) rest

-- ---- all rows

pub by_contents : (layout : Layout) (root : Tile) (binary : Option (List ℕ)) (r : SubtreeRecord) (found : Option (List Availability))
    → need 11 found (λ contents. buffers_checked (sources_of (λ name. None) layout root binary r) (used_of layout r contents) (Ok (used_names layout root r (used_of layout r contents))))
    ≡ and_then (need 11 found (λ contents. Ok (used_of layout r contents))) (λ used. and_then (buffer_rows r (is_some binary) used) (λ done. Ok (used_names layout root r used)))
by_contents layout root binary r None = refl
by_contents layout root binary r (Some contents) =
    buffers_by_rows (λ name. None) layout root binary r (used_of layout r contents) (Ok (used_names layout root r (used_of layout r contents)))

-- ---- texts, each once

pub once_there : (texts : List (Bor (List ℕ))) (uri : List ℕ) → list_any (λ t. bytes_eq uri t.now) texts ≡ true → put_once (shown texts) (Some uri) ≡ shown texts
once_there texts uri there = ap (λ b. cond b (shown texts) (shown texts ++ uri ∷ [])) (sym (any_shown (bytes_eq uri) texts) ∙ there)

pub once_new : (texts : List (Bor (List ℕ))) (t : Bor (List ℕ)) → list_any (λ u. bytes_eq t.now u.now) texts ≡ false → shown (texts ++ t ∷ []) ≡ put_once (shown texts) (Some t.now)
once_new texts t new =
    map-append (λ (u : Bor (List ℕ)). u.now) texts (t ∷ [])
    ∙ sym (ap (λ b. cond b (shown texts) (shown texts ++ t.now ∷ [])) (sym (any_shown (bytes_eq t.now) texts) ∙ new))

-- the `uri` of one more buffer
pub one_more : (r : SubtreeRecord) (used : List Used) (n : ℕ) (uris : List (List ℕ)) (found : Option (List ℕ))
    → uris ≡ uris_below r used n → found ≡ used_uri r used n → put_once uris found ≡ uris_below r used (n + 1)
one_more r used n uris found so is = ap₂ put_once so is ∙ ap (uris_below r used) (sym (add-one n))

-- ---- the answers

pub is_some_shown : (o : Option (Bor (List ℕ))) → is_some (option_map (λ b. b.now) o) ≡ is_some o
is_some_shown None = refl
is_some_shown (Some b) = refl

pub map_shown : (folder : List ℕ) (texts : List (Bor (List ℕ))) → map (λ u. folder ++ u.now) texts ≡ map (λ uri. folder ++ uri) (shown texts)
map_shown folder [] = refl
map_shown folder (t ∷ texts) = ap (λ l. (folder ++ t.now) ∷ l) (map_shown folder texts)
