-- The parts of a subtree file in the binary form, and the rows of the table of faults that a record shows with the bytes
-- of a buffer (OGC 22-025r4, subtree binary format, availability; the numbers and the order of the faults are this
-- project's own).
use Rattle.std.specs.Prelude.{ℕ, ◌+◌, ◌*◌, ◌||◌, ◌==◌, nat_lt, not, Bool, true, false, List, [], ◌∷◌, ◌++◌, length}
use Rattle.std.specs.Prelude.{map, take, drop, count_by, codes, Option, Some, None, option_map, Result, Ok, Err}
use Rattle.std.specs.Prelude.{if◌then◌else◌}
use Rattle.std.specs.Str.{bytes_eq}
use Rattle.std.specs.List.{slice_range, list_any, range_with_len, slice_get}
use Rattle.std.specs.Int.{w32, w64, from_le_bytes}
use Rattle.implicit_tiling.specs.Bits.{bit_of_bytes}
use Rattle.implicit_tiling.specs.Checks.{need, refuse}
use Rattle.implicit_tiling.specs.Tile.{Tile}
use Rattle.implicit_tiling.specs.Scene.{Layout, Outcome, good, bad}
use Rattle.implicit_tiling.specs.Subtree.{Subtree, node_count, child_count, has_orphan, has_content_alone, bits_of}
use Rattle.implicit_tileset.specs.Record.{Buffer, BufferView, Availability, constant, stream, ContentPart}
use Rattle.implicit_tileset.specs.Record.{well_formed, malformed, SubtreeRecord}

-- the numbers of the header, which are little endian: 24 bytes stand before the two parts
abbrev pub header_bytes : ℕ
header_bytes = 24

abbrev pub version : List ℕ → ℕ
version bytes = from_le_bytes w32 (drop 4 bytes)

abbrev pub json_length : List ℕ → ℕ
json_length bytes = from_le_bytes w64 (drop 8 bytes)

abbrev pub binary_length : List ℕ → ℕ
binary_length bytes = from_le_bytes w64 (drop 16 bytes)

-- a file in two parts: JSON text, and bytes
pub record Parts : Type 0 where
  pub json : List ℕ
  pub binary : List ℕ

abbrev pub parts_at : List ℕ → ℕ → ℕ → Parts
parts_at bytes json binary = record {
  json = slice_range bytes header_bytes
      (header_bytes + json);
  binary = slice_range bytes (header_bytes + json) (header_bytes + json + binary);
}

-- The parts of a file, or the first of the faults 3 to 6: 3 it is shorter than a header, 4 it begins otherwise, 5 its
-- version isn't 1, 6 it ends before its parts do.
abbrev pub parts_of : List ℕ → Result Parts ℕ
parts_of bytes =
    refuse 3 (nat_lt (length bytes) header_bytes)
    (refuse 4 (not (bytes_eq (take 4 bytes) (codes "subt")))
    (refuse 5 (not (version bytes == 1))
    (refuse 6 (nat_lt (length bytes) (header_bytes + json_length bytes + binary_length bytes))
    (Ok (parts_at bytes (json_length bytes) (binary_length bytes))))))

-- an availability that is used, and how many bits of it are needed
pub record Used : Type 0 where
  pub availability : Availability
  pub needed : ℕ

-- a record with the bytes of one of its buffers
pub record Held : Type 0 where
  pub parts : SubtreeRecord
  pub binary : List ℕ

-- the view of an availability, and the buffer of a view, where there are such
abbrev pub view_named : Held → Availability → Option BufferView
view_named h (constant b) = None
view_named h (stream view count) = slice_get h.parts.views view

abbrev pub buffer_named : Held → BufferView → Option Buffer
buffer_named h view = slice_get h.parts.buffers view.buffer

-- the test of the view of an availability, where it has one
abbrev pub view_is : (BufferView → Bool) → Option BufferView → Bool
view_is test None = false
view_is test (Some view) = test view

abbrev pub buffer_is : (Buffer → Bool) → Option Buffer → Bool
buffer_is test None = false
buffer_is test (Some buffer) = test buffer

abbrev pub is_none : {A : Type 0} → Option A → Bool
is_none None = true
is_none (Some a) = false

-- 12: the view that it names isn't there, or that view's buffer isn't
abbrev pub names_no_view : Held → Availability → Bool
names_no_view h (constant b) = false
names_no_view h (stream view count) = is_none (slice_get h.parts.views view) || view_is
    (λ v. is_none (buffer_named h v)) (slice_get h.parts.views view)

-- 14: the view ends past its buffer, or the buffer past its bytes
abbrev pub is_out : Held → Availability → Bool
is_out h a = view_is (λ v. buffer_is (λ b. nat_lt b.length (v.offset + v.length) || nat_lt (length h.binary) b.length)
    (buffer_named h v)) (view_named h a)

-- 15: the view has fewer bits than are needed
abbrev pub is_short : Held → Used → Bool
is_short h u = view_is (λ v. nat_lt (8 * v.length) u.needed) (view_named h u.availability)

-- the bit that an availability names at a place
abbrev pub view_bit : List ℕ → ℕ → Option BufferView → Bool
view_bit binary i None = false
view_bit binary i (Some v) = bit_of_bytes (slice_range binary v.offset (v.offset + v.length)) i

abbrev pub raw_bit : Held → Availability → ℕ → Bool
raw_bit h (constant b) i = b
raw_bit h (stream view count) i = view_bit h.binary i (slice_get h.parts.views view)

-- the needed bits
abbrev pub raw_bits : Held → Used → List Bool
raw_bits h u = map (raw_bit h u.availability) (range_with_len 0 u.needed)

-- 16: a count beside a bitstream isn't the number of ones among the needed bits
abbrev pub is_other_count : ℕ → Option ℕ → Bool
is_other_count ones None = false
is_other_count ones (Some count) = not (count == ones)

abbrev pub is_miscounted_as : ℕ → Availability → Bool
is_miscounted_as ones (constant b) = false
is_miscounted_as ones (stream view count) = is_other_count ones count

abbrev pub is_miscounted : Held → Used → Bool
is_miscounted h u = is_miscounted_as (count_by (λ b. b) (raw_bits h u)) u.availability

-- the contents that are used: as many as there are templates, as far as there are availabilities; none is malformed
abbrev pub availabilities : List ContentPart → Option (List Availability)
availabilities [] = Some []
availabilities (malformed ∷ parts) = None
availabilities (well_formed a ∷ parts) = option_map (λ rest. a ∷ rest) (availabilities parts)

abbrev pub wanted_contents : Layout → SubtreeRecord → Option (List Availability)
wanted_contents layout r = availabilities (take (length layout.contents) r.contents)

abbrev pub for_nodes : Layout → Availability → Used
for_nodes layout a = record { availability = a; needed = node_count layout.scheme layout.subtree_levels }

abbrev pub for_children : Layout → Availability → Used
for_children layout a = record { availability = a; needed = child_count layout.scheme layout.subtree_levels }

-- all that are used: of tiles, of contents and of child subtrees
abbrev pub used_of : Layout → SubtreeRecord → List Availability → List Used
used_of layout r contents = for_nodes layout r.tiles ∷ (map (for_nodes layout) contents
    ++ for_children layout r.child ∷ [])

-- a subtree that breaks neither rule between its bits
abbrev pub subtree_checked : Subtree → Result Subtree ℕ
subtree_checked s = refuse 17 (has_orphan s) (refuse 18 (has_content_alone s) (Ok s))

-- what follows where a part could be read
abbrev pub and_then : {A B : Type 0} → Result A ℕ → (A → Result B ℕ) → Result B ℕ
and_then (Ok a) rest = rest a
and_then (Err n) rest = Err n

-- the outcome of a root by what its file holds
abbrev pub outcome_from : Result Subtree ℕ → Outcome
outcome_from (Ok subtree) = good (bits_of subtree)
outcome_from (Err n) = bad n
