-- The parts of a canonical file, from what was added.
use Rattle.std.proofs.Common.{◌≡◌, ◌∙◌, ℕ, ◌+◌, Bool, true, false, ◌||◌, cond, List, [], ◌∷◌, ◌++◌, length, map, codes, refl, ap, ap₂, arith}
use Rattle.serde_json.specs.Data.{Data, Members, no_members, member}
use Rattle.serde_json.specs.View.{view, items_of}
use Rattle.serde_json.specs.Written.{has_float, items_have_float, members_have_float}
use Rattle.bitstream.specs.Bytes.{bytes_filled}
use Rattle.implicit_tiling.specs.Subtree.{Subtree}
use Rattle.subtree_write.specs.declared.streams.Streams.{Streams}
use Rattle.subtree_write.specs.Canonical.{aligned, is_mixed, has_one, streams_of, availabilities_of, streams, binary, stream_bytes, view_values, buffer_values, constant_value, stream_value, availability_value, availability_values, list_member, file_value, json_value}
use Rattle.subtree_write.specs.Added.{Adds}
use Rattle.subtree_write.proofs.Mixed.{ones}
use Rattle.subtree_write.proofs.Added.{added_then, views_more}

-- ---- there is no float

no_float-chosen : (b : Bool) (x y : Data) → has_float x ≡ false → has_float y ≡ false → has_float (cond b x y) ≡ false
no_float-chosen true x y h k = h
no_float-chosen false x y h k = k

no_float-availability : (view : ℕ) (bits : List Bool) → has_float (availability_value view bits) ≡ false
no_float-availability view bits = no_float-chosen (is_mixed bits) (stream_value (ones bits) view) (constant_value (has_one bits)) refl refl

no_float-availabilities : (view : ℕ) (rest : List (List Bool)) → items_have_float (items_of (availability_values view rest)) ≡ false
no_float-availabilities view [] = refl
no_float-availabilities view (bits ∷ rest) =
    ap (λ b. b || items_have_float (items_of (availability_values (view + length (streams_of (bits ∷ []))) rest))) (no_float-availability view bits)
    ∙ no_float-availabilities (view + length (streams_of (bits ∷ []))) rest

no_float-views : (offset : ℕ) (bitstreams : List (List Bool)) → items_have_float (items_of (view_values offset bitstreams)) ≡ false
no_float-views offset [] = refl
no_float-views offset (bits ∷ rest) = no_float-views (offset + aligned (bytes_filled (length bits))) rest

no_float-buffers : (size : ℕ) (views : List Data) → items_have_float (items_of (buffer_values size views)) ≡ false
no_float-buffers size [] = refl
no_float-buffers size (view ∷ views) = refl

no_float-list : (name : List ℕ) (values : List Data) (members : Members) → items_have_float (items_of values) ≡ false → members_have_float members ≡ false → members_have_float (list_member name values members) ≡ false
no_float-list name [] rest h k = k
no_float-list name (value ∷ values) rest h k = ap₂ (λ a b. a || b) h k

pub no_float : (s : Subtree) → has_float (json_value s) ≡ false
no_float s =
    let child = availability_value (length (streams_of (s.tiles ∷ s.contents))) s.child in
    let contents = availability_values (length (streams_of (s.tiles ∷ []))) s.contents in
    let tiles = availability_value 0 s.tiles in
    let views = view_values 0 (streams s) in
    let last : members_have_float (member (codes "tileAvailability") tiles no_members) ≡ false = ap (λ b. b || false) (no_float-availability 0 s.tiles) in
    let from_contents = no_float-list (codes "contentAvailability") contents (member (codes "tileAvailability") tiles no_members) (no_float-availabilities (length (streams_of (s.tiles ∷ []))) s.contents) last in
    let from_child : members_have_float (member (codes "childSubtreeAvailability") child (list_member (codes "contentAvailability") contents (member (codes "tileAvailability") tiles no_members))) ≡ false
    = ap₂ (λ a b. a || b) (no_float-availability (length (streams_of (s.tiles ∷ s.contents))) s.child) from_contents in
    let from_buffers = no_float-list (codes "buffers") (buffer_values (length (binary s)) views) _ (no_float-buffers (length (binary s)) views) from_child in
    no_float-list (codes "bufferViews") views _ (no_float-views 0 (streams s)) from_buffers

-- ---- the parts

pub record Written (s : Subtree) (before tiled filled after : Streams) : Type 0 where
  pub no_views : before.views.items ≡ []
  pub no_bytes : before.bytes.items ≡ []
  pub tiles : Adds before tiled (s.tiles ∷ [])
  pub contents : Adds tiled filled s.contents
  pub child : Adds filled after (s.child ∷ [])

all_added : (s : Subtree) (before tiled filled after : Streams) → Written s before tiled filled after → Adds before after (availabilities_of s)
all_added s before tiled filled after w = added_then before tiled after (s.tiles ∷ []) (s.contents ++ s.child ∷ []) w.tiles (added_then tiled filled after s.contents (s.child ∷ []) w.contents w.child)

pub written_bytes : (s : Subtree) (before tiled filled after : Streams) → Written s before tiled filled after → after.bytes.items ≡ binary s
written_bytes s before tiled filled after w = (all_added s before tiled filled after w).bytes ∙ ap (λ l. l ++ stream_bytes (streams s)) w.no_bytes

written_views : (s : Subtree) (before tiled filled after : Streams) → Written s before tiled filled after → map view after.views.items ≡ view_values 0 (streams s)
written_views s before tiled filled after w =
    (all_added s before tiled filled after w).views ∙ ap₂ (λ vs bs. map view vs ++ view_values (length bs) (streams s)) w.no_views w.no_bytes

pub written_value : (s : Subtree) (before tiled filled after : Streams) (size : ℕ) (tiles child : Data) (contents : List Data) → Written s before tiled filled after
    → size ≡ length after.bytes.items → tiles ≡ availability_value (length before.views.items) s.tiles → contents ≡ availability_values (length tiled.views.items) s.contents
    → child ≡ availability_value (length filled.views.items) s.child → file_value (map view after.views.items) size tiles contents child ≡ json_value s
written_value s before tiled filled after size tiles child contents w long tile content below =
    let none : length before.views.items ≡ 0 = ap length w.no_views in
    let first : length tiled.views.items ≡ length (streams_of (s.tiles ∷ [])) = omega (arith, views_more before tiled (s.tiles ∷ []) w.tiles) in
    let second : length filled.views.items ≡ length (streams_of (s.tiles ∷ s.contents)) =
    omega (arith, none, views_more before filled (s.tiles ∷ s.contents) (added_then before tiled filled (s.tiles ∷ []) s.contents w.tiles w.contents)) in
    ap (λ l. file_value l size tiles contents child) (written_views s before tiled filled after w)
    ∙ ap (λ n. file_value (view_values 0 (streams s)) n tiles contents child) (long ∙ ap length (written_bytes s before tiled filled after w))
    ∙ ap (λ d. file_value (view_values 0 (streams s)) (length (binary s)) d contents child) (tile ∙ ap (λ n. availability_value n s.tiles) none)
    ∙ ap (λ l. file_value (view_values 0 (streams s)) (length (binary s)) (availability_value 0 s.tiles) l child) (content ∙ ap (λ n. availability_values n s.contents) first)
    ∙ ap (λ d. file_value (view_values 0 (streams s)) (length (binary s)) (availability_value 0 s.tiles) (availability_values (length (streams_of (s.tiles ∷ []))) s.contents) d) (below ∙ ap (λ n. availability_value n s.child) second)
