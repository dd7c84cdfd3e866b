-- Each value of a canonical file reads back, and its text is short.
use Rattle.std.proofs.Common.{◌≡◌, ◌∙◌, ℕ, suc, ◌+◌, ◌*◌, ◌^◌, ◌<◌, ◌≤◌, Bool, true, false, cond, List, [], ◌∷◌, length, codes, Some, refl, ap, arith}
use Rattle.json.proofs.Printed.Utf8.{are_ascii}
use Rattle.serde_json.specs.Data.{Data, array, object, Items, no_items, item, Members, no_members, member, put}
use Rattle.serde_json.specs.Read.{of_members}
use Rattle.serde_json.specs.View.{items_of}
use Rattle.serde_json.specs.Written.{members_outline}
use Rattle.bitstream.specs.Bytes.{bytes_filled}
use Rattle.implicit_tileset.specs.Json.{whole_number}
use Rattle.implicit_tileset.proofs.WrittenJson.{ReadsAs, ItemsRead, MembersRead, number_reads, deeper, no_items_read, item_reads, array_reads, no_members_read, member_reads, member_step, object_reads, one_member_reads}
use Rattle.implicit_tileset.proofs.WrittenLengths.{IsWithin, ItemsWithin, MembersWithin, number_within, no_items_within, item_within, array_within, no_members_within, member_within, object_within}
use Rattle.subtree_write.specs.Canonical.{aligned, is_mixed, has_one, streams_of, view_value, view_values, buffer_values, constant_value, stream_value, availability_value, availability_values, list_member, file_value}
use Rattle.subtree_write.specs.Members.{with_list}
use Rattle.subtree_write.proofs.Mixed.{ones, ones-le}

-- ---- small objects

-- an object of a few numbers reads, and its text has at most 200 bytes
pub record IsSmall (d : Data) : Type 0 where
  pub reads : ReadsAs 1 d
  pub within : IsWithin 200 d

-- the same of `count` of them
pub record AreSmall (count : ℕ) (ds : Items) : Type 0 where
  pub read : ItemsRead 1 ds
  pub within : ItemsWithin (1 + 201 * count) ds

none_small : AreSmall 0 no_items
none_small = record { read = no_items_read 1; within = no_items_within }

one_more_small : (count : ℕ) (d : Data) (ds : Items) → IsSmall d → AreSmall count ds → AreSmall (suc count) (item d ds)
one_more_small count d ds one rest = record {
  read = item_reads 1 d ds one.reads rest.read;
  within = item_within 200 (1 + 201 * count) (1 + 201 * suc count) d ds one.within rest.within (omega arith);
}

number_short : (n : ℕ) → n < 2 ^ 32 → IsWithin 10 (whole_number n)
number_short n h = number_within 10 n (omega arith) (omega arith) (omega arith)

view_small : (offset size : ℕ) → offset < 2 ^ 32 → size < 2 ^ 32 → IsSmall (view_value offset size)
view_small offset size h k =
    let zeroth = number_reads 0 (omega arith) in
    let first = number_reads size (omega arith) in
    let second = number_reads offset (omega arith) in
    let m₃ = member (codes "byteOffset") (whole_number offset) no_members in
    let m₂ = member (codes "byteLength") (whole_number size) m₃ in
    let m₁ = member (codes "buffer") (whole_number 0) m₂ in
    let f₁ = put (codes "buffer") (whole_number 0) no_members in
    let f₂ = put (codes "byteLength") (whole_number size) f₁ in
    record {
      reads = object_reads 0 m₁
          (member_reads 0 (codes "buffer") (whole_number 0) m₂ refl zeroth
          (member_reads 0 (codes "byteLength") (whole_number size) m₃ refl first
          (member_reads 0 (codes "byteOffset") (whole_number offset) no_members refl second (no_members_read 0))))
          (member_step (codes "buffer") (whole_number 0) m₂ no_members zeroth.whole
          ∙ member_step (codes "byteLength") (whole_number size) m₃ f₁ first.whole
          ∙ member_step (codes "byteOffset") (whole_number offset) no_members f₂ second.whole);
      within = object_within 199 200 m₁
          (member_within 10 149 199 (codes "buffer") (whole_number 0) m₂ (number_short 0 (omega arith))
          (member_within 10 75 149 (codes "byteLength") (whole_number size) m₃ (number_short size k)
          (member_within 10 1 75 (codes "byteOffset") (whole_number offset) no_members (number_short offset h) no_members_within
          (omega arith)) (omega arith)) (omega arith)) (omega arith);
    }

-- of a name of at most 20 bytes
one_member_small : (name : List ℕ) (n : ℕ) → are_ascii name ≡ true → length name ≤ 20 → n < 2 ^ 32 → IsSmall (object (member name (whole_number n) no_members))
one_member_small name n plain short h = record {
  reads = one_member_reads 0 name (whole_number n) plain (number_reads n (omega arith));
  within = object_within 199 200 (member name (whole_number n) no_members)
      (member_within 10 1 199 name (whole_number n) no_members (number_short n h) no_members_within (omega (arith, short))) (omega arith);
}

stream_small : (ones view : ℕ) → ones < 2 ^ 32 → view < 2 ^ 32 → IsSmall (stream_value ones view)
stream_small ones view h k =
    let first = number_reads ones (omega arith) in
    let second = number_reads view (omega arith) in
    let m₂ = member (codes "bitstream") (whole_number view) no_members in
    let m₁ = member (codes "availableCount") (whole_number ones) m₂ in
    let f₁ = put (codes "availableCount") (whole_number ones) no_members in
    record {
      reads = object_reads 0 m₁
          (member_reads 0 (codes "availableCount") (whole_number ones) m₂ refl first
          (member_reads 0 (codes "bitstream") (whole_number view) no_members refl second (no_members_read 0)))
          (member_step (codes "availableCount") (whole_number ones) m₂ no_members first.whole
          ∙ member_step (codes "bitstream") (whole_number view) no_members f₁ second.whole);
      within = object_within 199 200 m₁
          (member_within 10 69 199 (codes "availableCount") (whole_number ones) m₂ (number_short ones h)
          (member_within 10 1 69 (codes "bitstream") (whole_number view) no_members (number_short view k) no_members_within
          (omega arith)) (omega arith)) (omega arith);
    }

bit_fits : (b : Bool) → cond b 1 0 < 2 ^ 32
bit_fits true = omega arith
bit_fits false = omega arith

chosen_small : (b : Bool) (x y : Data) → IsSmall x → IsSmall y → IsSmall (cond b x y)
chosen_small true x y h k = h
chosen_small false x y h k = k

pub availability_small : (view : ℕ) (bits : List Bool) → view < 2 ^ 32 → length bits ≤ 2 ^ 21 → IsSmall (availability_value view bits)
availability_small view bits h k = chosen_small (is_mixed bits) (stream_value (ones bits) view) (constant_value (has_one bits))
    (stream_small (ones bits) view (omega (arith, ones-le bits)) h) (one_member_small (codes "constant") (cond (has_one bits) 1 0) refl (omega arith) (bit_fits (has_one bits)))

-- ---- lists

-- none of the bits are more than those of the deepest level of the largest subtree
abbrev pub AreShort : List (List Bool) → Type 0
AreShort [] = Unit {0}
AreShort (bits ∷ rest) = (length bits ≤ 2 ^ 21) × AreShort rest

stream_room : (bits : List Bool) → length bits ≤ 2 ^ 21 → aligned (bytes_filled (length bits)) ≤ 2 ^ 18
stream_room bits h = omega arith

pub views_small : (offset : ℕ) (bitstreams : List (List Bool)) → AreShort bitstreams → offset + 2 ^ 18 * length bitstreams < 2 ^ 32 → AreSmall (length bitstreams) (items_of (view_values offset bitstreams))
views_small offset [] short h = none_small
views_small offset (bits ∷ rest) short h =
    let room = stream_room bits short.0 in
    let size : bytes_filled (length bits) < 2 ^ 32 = omega (arith, short.0) in
    let here : offset < 2 ^ 32 = omega arith in
    let next : offset + aligned (bytes_filled (length bits)) + 2 ^ 18 * length rest < 2 ^ 32 = omega arith in
    one_more_small (length rest) (view_value offset (bytes_filled (length bits))) (items_of (view_values (offset + aligned (bytes_filled (length bits))) rest))
    (view_small offset (bytes_filled (length bits)) here size) (views_small (offset + aligned (bytes_filled (length bits))) rest short.1 next)

few_streams : (b : Bool) (bits : List Bool) → length (cond b (bits ∷ []) []) ≤ 1
few_streams true bits = omega arith
few_streams false bits = omega arith

pub availabilities_small : (view : ℕ) (rest : List (List Bool)) → AreShort rest → view + length rest < 2 ^ 32 → AreSmall (length rest) (items_of (availability_values view rest))
availabilities_small view [] short h = none_small
availabilities_small view (bits ∷ rest) short h =
    let few = few_streams (is_mixed bits) bits in
    let here : view < 2 ^ 32 = omega arith in
    let next : view + length (streams_of (bits ∷ [])) + length rest < 2 ^ 32 = omega arith in
    one_more_small (length rest) (availability_value view bits) (items_of (availability_values (view + length (streams_of (bits ∷ []))) rest))
    (availability_small view bits here short.0) (availabilities_small (view + length (streams_of (bits ∷ []))) rest short.1 next)

buffers_small : (size : ℕ) (views : List Data) → size < 2 ^ 32 → AreSmall 1 (items_of (buffer_values size views))
buffers_small size [] h = record { read = no_items_read 1; within = λ later. omega arith }
buffers_small size (view ∷ views) h = one_more_small 0 (object (member (codes "byteLength") (whole_number size) no_members)) no_items (one_member_small (codes "byteLength") size refl (omega arith) h) none_small

-- ---- the value of a file

list_reads : (name : List ℕ) (values : List Data) (ms : Members) → are_ascii name ≡ true → ItemsRead 1 (items_of values) → MembersRead 2 ms → MembersRead 2 (list_member name values ms)
list_reads name [] ms plain rs rest = rest
list_reads name (value ∷ values) ms plain rs rest = member_reads 2 name (array (items_of (value ∷ values))) ms plain (array_reads 1 (items_of (value ∷ values)) rs) rest

list_step : (name : List ℕ) (values : List Data) (ms found : Members) → ItemsRead 1 (items_of values) → of_members (members_outline (list_member name values ms)) found ≡ of_members (members_outline ms) (with_list name values found)
list_step name [] ms found rs = refl
list_step name (value ∷ values) ms found rs = member_step name (array (items_of (value ∷ values))) ms found (array_reads 1 (items_of (value ∷ values)) rs).whole

list_within : (a b most : ℕ) (name : List ℕ) (values : List Data) (ms : Members) → ItemsWithin a (items_of values) → MembersWithin b ms → 6 * length name + a + b + 5 ≤ most → MembersWithin most (list_member name values ms)
list_within a b most name [] ms h k fits = λ later. omega (arith, k later, fits)
list_within a b most name (value ∷ values) ms h k fits =
    member_within (a + 1) b most name (array (items_of (value ∷ values))) ms (array_within a (a + 1) (items_of (value ∷ values)) h (omega arith)) k (omega (arith, fits))

in_order : (views : List Data) (size : ℕ) (tiles : Data) (contents : List Data) (child : Data)
    → put (codes "tileAvailability") tiles (with_list (codes "contentAvailability") contents (put (codes "childSubtreeAvailability") child
    (with_list (codes "buffers") (buffer_values size views) (with_list (codes "bufferViews") views no_members))))
    ≡ list_member (codes "bufferViews") views (list_member (codes "buffers") (buffer_values size views) (member (codes "childSubtreeAvailability") child
    (list_member (codes "contentAvailability") contents (member (codes "tileAvailability") tiles no_members))))
in_order [] size tiles [] child = refl
in_order [] size tiles (content ∷ contents) child = refl
in_order (view ∷ views) size tiles [] child = refl
in_order (view ∷ views) size tiles (content ∷ contents) child = refl

pub file_reads : (views : List Data) (size : ℕ) (tiles : Data) (contents : List Data) (child : Data) → ItemsRead 1 (items_of views) → size < 2 ^ 32 → ReadsAs 1 tiles → ItemsRead 1 (items_of contents) → ReadsAs 1 child
    → ReadsAs 3 (file_value views size tiles contents child)
file_reads views size tiles contents child vs fits t cs below =
    let buffers = buffer_values size views in
    let bs = (buffers_small size views fits).read in
    let m₁ = member (codes "tileAvailability") tiles no_members in
    let m₂ = list_member (codes "contentAvailability") contents m₁ in
    let m₃ = member (codes "childSubtreeAvailability") child m₂ in
    let m₄ = list_member (codes "buffers") buffers m₃ in
    let m₅ = list_member (codes "bufferViews") views m₄ in
    let f₁ = with_list (codes "bufferViews") views no_members in
    let f₂ = with_list (codes "buffers") buffers f₁ in
    let f₃ = put (codes "childSubtreeAvailability") child f₂ in
    let f₄ = with_list (codes "contentAvailability") contents f₃ in
    object_reads 2 m₅
    (list_reads (codes "bufferViews") views m₄ refl vs
    (list_reads (codes "buffers") buffers m₃ refl bs
    (member_reads 2 (codes "childSubtreeAvailability") child m₂ refl (deeper 1 2 child (omega arith) below)
    (list_reads (codes "contentAvailability") contents m₁ refl cs
    (member_reads 2 (codes "tileAvailability") tiles no_members refl (deeper 1 2 tiles (omega arith) t) (no_members_read 2))))))
    (list_step (codes "bufferViews") views m₄ no_members vs ∙ list_step (codes "buffers") buffers m₃ f₁ bs ∙ member_step (codes "childSubtreeAvailability") child m₂ f₂ below.whole
    ∙ list_step (codes "contentAvailability") contents m₁ f₃ cs ∙ member_step (codes "tileAvailability") tiles no_members f₄ t.whole
    ∙ ap Some (in_order views size tiles contents child))

pub file_within : (views : List Data) (size : ℕ) (tiles : Data) (contents : List Data) (child : Data) → ItemsWithin 3700 (items_of views) → size < 2 ^ 32 → IsWithin 200 tiles → ItemsWithin 3700 (items_of contents) → IsWithin 200 child
    → IsWithin 8600 (file_value views size tiles contents child)
file_within views size tiles contents child vs fits t cs below =
    let buffers = buffer_values size views in
    let m₁ = member (codes "tileAvailability") tiles no_members in
    let m₂ = list_member (codes "contentAvailability") contents m₁ in
    let m₃ = member (codes "childSubtreeAvailability") child m₂ in
    let m₄ = list_member (codes "buffers") buffers m₃ in
    object_within 8599 8600 (list_member (codes "bufferViews") views m₄)
    (list_within 3700 4800 8599 (codes "bufferViews") views m₄ vs
    (list_within 202 4500 4800 (codes "buffers") buffers m₃ (buffers_small size views fits).within
    (member_within 200 4130 4500 (codes "childSubtreeAvailability") child m₂ below
    (list_within 3700 310 4130 (codes "contentAvailability") contents m₁ cs
    (member_within 200 1 310 (codes "tileAvailability") tiles no_members t no_members_within
    (omega arith)) (omega arith)) (omega arith)) (omega arith)) (omega arith)) (omega arith)
