-- Between which numbers the faults of a table are.
use Rattle.std.proofs.Common.{◌≡◌, ℕ, ◌≤◌, Bool, true, false, cond, List, Result, Ok, Err, refl, codes, arith}
use Rattle.std.specs.Prelude.{Option, Some, None}
use Rattle.implicit_tiling.specs.Checks.{need, refuse}
use Rattle.implicit_tiling.specs.Tile.{Tile}
use Rattle.implicit_tiling.specs.Scene.{Layout}
use Rattle.implicit_tiling.specs.Subtree.{has_orphan, has_content_alone}
use Rattle.serde_json.specs.Find.{get}
use Rattle.implicit_tileset.specs.Json.{json_of, object_of}
use Rattle.implicit_tileset.specs.Record.{Availability, SubtreeRecord, list_read, buffer_of, view_of, availability_at, content_of, record_of, record_of_value}
use Rattle.implicit_tileset.specs.SubtreeFile.{Used, and_then, parts_of, wanted_contents, used_of}
use Rattle.implicit_tileset.specs.FileForms.{FileParts, is_json_form, file_parts, both_parts}
use Rattle.implicit_tileset.specs.BufferFiles.{Find, used_names}
use Rattle.implicit_tileset.specs.FileOutcome.{Sources, buffers_checked, bits_checked, subtree_at, sources_of, subtree_of_record, subtree_found, needed_names}
use Rattle.implicit_tileset.specs.CutFiles.{IsBetween}

same_number : {A : Type 0} (least most m n : ℕ) (r : Result A ℕ) → r ≡ Err m → r ≡ Err n → least ≤ m → m ≤ most → (least ≤ n) × (n ≤ most)
same_number least most m n r e f low high = let same : m ≡ n = cc in (omega (arith, same, low), omega (arith, same, high))

good_between : {A : Type 0} (least most : ℕ) (a : A) → IsBetween least most (Ok a)
good_between least most a = record { within = λ n e. cc }

fault_between : {A : Type 0} (least most m : ℕ) → least ≤ m → m ≤ most → IsBetween {A = A} least most (Err m)
fault_between {A = A} least most m low high = record { within = λ n e. same_number {A = A} least most m n (Err m) refl e low high }

module _ (least most : ℕ) where
  pub need_between : {A B : Type 0} (n : ℕ) (o : Option A) (rest : A → Result B ℕ) → least ≤ n → n ≤ most → ((a : A) → IsBetween least most (rest a)) → IsBetween least most (need n o rest)
  need_between n None rest low high each = fault_between least most n low high
  need_between n (Some a) rest low high each = each a

  pub refuse_between : {B : Type 0} (n : ℕ) (test : Bool) (rest : Result B ℕ) → least ≤ n → n ≤ most → IsBetween least most rest → IsBetween least most (refuse n test rest)
  refuse_between n true rest low high h = fault_between least most n low high
  refuse_between n false rest low high h = h

  pub and_then_between : {A B : Type 0} (r : Result A ℕ) (rest : A → Result B ℕ) → IsBetween least most r → ((a : A) → IsBetween least most (rest a)) → IsBetween least most (and_then r rest)
  and_then_between (Ok a) rest h each = each a
  and_then_between (Err n) rest h each = let b = h.within n refl in fault_between least most n b.0 b.1

wider : {A : Type 0} (least most low high : ℕ) (r : Result A ℕ) → low ≤ least → most ≤ high → IsBetween least most r → IsBetween low high r
wider least most low high r h k is = record { within = λ n e. let b = is.within n e in (omega (arith, h, b.0), omega (arith, k, b.1)) }

record_between : (part : List ℕ) → IsBetween 7 11 (record_of part)
record_between part =
    need_between 7 11 7 (json_of part) record_of_value (omega arith) (omega arith) (λ any.
    need_between 7 11 8 (object_of any) _ (omega arith) (omega arith) (λ value.
    need_between 7 11 9 (list_read buffer_of (get (codes "buffers") value)) _ (omega arith) (omega arith) (λ buffers.
    need_between 7 11 10 (list_read view_of (get (codes "bufferViews") value)) _ (omega arith) (omega arith) (λ views.
    need_between 7 11 11 (availability_at (codes "tileAvailability") value) _ (omega arith) (omega arith) (λ tiles.
    need_between 7 11 11 (list_read content_of (get (codes "contentAvailability") value)) _ (omega arith) (omega arith) (λ contents.
    need_between 7 11 11 (availability_at (codes "childSubtreeAvailability") value) _ (omega arith) (omega arith) (λ child. good_between 7 11 _)))))))

buffers_between : {B : Type 0} (most : ℕ) (s : Sources) (used : List Used) (rest : Result B ℕ) → 13 ≤ most → IsBetween 7 most rest → IsBetween 7 most (buffers_checked s used rest)
buffers_between most s used rest high h =
    refuse_between 7 most 12 _ _ (omega arith) (omega (arith, high)) (refuse_between 7 most 13 _ _ (omega arith) (omega (arith, high)) h)

bits_between : (layout : Layout) (root : Tile) (s : Sources) (contents : List Availability) (used : List Used) → IsBetween 7 20 (bits_checked layout root s contents used)
bits_between layout root s contents used =
    refuse_between 7 20 14 _ _ (omega arith) (omega arith)
    (refuse_between 7 20 15 _ _ (omega arith) (omega arith)
    (refuse_between 7 20 16 _ _ (omega arith) (omega arith)
    (refuse_between 7 20 17 (has_orphan (subtree_at layout root s contents)) _ (omega arith) (omega arith)
    (refuse_between 7 20 18 (has_content_alone (subtree_at layout root s contents)) (Ok (subtree_at layout root s contents)) (omega arith) (omega arith) (good_between 7 20 _)))))

rows_between : (find : Find) (layout : Layout) (root : Tile) (binary : Option (List ℕ)) (r : SubtreeRecord) (contents : List Availability) (used : List Used)
    → IsBetween 7 20 (subtree_of_record find layout root binary r contents used)
rows_between find layout root binary r contents used =
    let s = sources_of find layout root binary r in
    buffers_between 20 s used _ (omega arith)
    (refuse_between 7 20 19 _ _ (omega arith) (omega arith)
    (refuse_between 7 20 20 _ _ (omega arith) (omega arith)
    (bits_between layout root s contents used)))

-- what follows once the parts are told
pub after_parts : (find : Find) (layout : Layout) (root : Tile) (parts : FileParts)
    → IsBetween 7 20 (and_then (record_of parts.json) (λ r. need 11 (wanted_contents layout r) (λ contents. subtree_of_record find layout root parts.binary r contents (used_of layout r contents))))
after_parts find layout root parts =
    and_then_between 7 20 (record_of parts.json) _ (wider 7 11 7 20 (record_of parts.json) (omega arith) (omega arith) (record_between parts.json)) (λ r.
    need_between 7 20 11 (wanted_contents layout r) _ (omega arith) (omega arith) (λ contents. rows_between find layout root parts.binary r contents (used_of layout r contents)))

names_after_parts : (layout : Layout) (root : Tile) (parts : FileParts)
    → IsBetween 7 13 (and_then (record_of parts.json) (λ r. need 11 (wanted_contents layout r) (λ contents.
    buffers_checked (sources_of (λ name. None) layout root parts.binary r) (used_of layout r contents) (Ok (used_names layout root r (used_of layout r contents))))))
names_after_parts layout root parts =
    and_then_between 7 13 (record_of parts.json) _ (wider 7 11 7 13 (record_of parts.json) (omega arith) (omega arith) (record_between parts.json)) (λ r.
    need_between 7 13 11 (wanted_contents layout r) _ (omega arith) (omega arith) (λ contents.
    buffers_between 13 (sources_of (λ name. None) layout root parts.binary r) (used_of layout r contents) (Ok (used_names layout root r (used_of layout r contents))) (omega arith) (good_between 7 13 _)))

parts_between : (bytes : List ℕ) → IsBetween 3 6 (parts_of bytes)
parts_between bytes =
    refuse_between 3 6 3 _ _ (omega arith) (omega arith)
    (refuse_between 3 6 4 _ _ (omega arith) (omega arith)
    (refuse_between 3 6 5 _ _ (omega arith) (omega arith)
    (refuse_between 3 6 6 _ _ (omega arith) (omega arith) (good_between 3 6 _))))

by_form : (json : Bool) (bytes : List ℕ) → IsBetween 3 6 (cond json (Ok (record { json = bytes; binary = None })) (and_then (parts_of bytes) (λ parts. Ok (both_parts parts))))
by_form true bytes = good_between 3 6 _
by_form false bytes = and_then_between 3 6 (parts_of bytes) (λ parts. Ok (both_parts parts)) (parts_between bytes) (λ parts. good_between 3 6 _)

pub file_parts_between : (bytes : List ℕ) → IsBetween 3 6 (file_parts bytes)
file_parts_between bytes = by_form (is_json_form bytes) bytes

pub found_between : (find : Find) (layout : Layout) (root : Tile) (bytes : List ℕ) → IsBetween 3 20 (subtree_found find layout root bytes)
found_between find layout root bytes =
    and_then_between 3 20 (file_parts bytes) _ (wider 3 6 3 20 (file_parts bytes) (omega arith) (omega arith) (file_parts_between bytes))
    (λ parts. wider 7 20 3 20 _ (omega arith) (omega arith) (after_parts find layout root parts))

pub names_between : (layout : Layout) (root : Tile) (bytes : List ℕ) → IsBetween 3 13 (needed_names layout root bytes)
names_between layout root bytes =
    and_then_between 3 13 (file_parts bytes) _ (wider 3 6 3 13 (file_parts bytes) (omega arith) (omega arith) (file_parts_between bytes))
    (λ parts. wider 7 13 3 13 _ (omega arith) (omega arith) (names_after_parts layout root parts))
