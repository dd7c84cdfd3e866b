-- The text of a layout's value reads as the value.
use Rattle.std.proofs.Common.{◌≡◌, ◌∙◌, ℕ, suc, ◌^◌, ◌<◌, true, nat_lt, List, [], ◌∷◌, map, codes, Some, refl, ap, arith, ltb-true}
use Rattle.std.specs.Prelude.{IsUtf8}
use Rattle.std.specs.List.{All, list_all}
use Rattle.std.proofs.lemmas.Bool.{and_parts}
use Rattle.json.proofs.Printed.Utf8.{IsUtf8-are_ascii}
use Rattle.serde_json.specs.Data.{Data, string, array, object, Members, no_members, member, put}
use Rattle.serde_json.specs.Read.{of_members}
use Rattle.serde_json.specs.View.{items_of}
use Rattle.serde_json.specs.Written.{members_outline}
use Rattle.implicit_tiling.specs.declared.Scheme.{Scheme}
use Rattle.implicit_tiling.specs.declared.Scheme.TheVariants.{Quad, Oct}
use Rattle.implicit_tileset.specs.Json.{whole_number}
use Rattle.implicit_tileset.proofs.WrittenJson.{ReadsAs, ItemsRead, MembersRead, number_reads, string_reads, deeper, no_items_read, item_reads, array_reads, no_members_read, member_reads, member_step, object_reads, one_member_reads}
use Rattle.tileset_write.specs.LayoutText.{IsTemplateText, scheme_name, uri_value, asset_value, box_value, implicit_value, with_contents, root_value, tileset_value}
use Rattle.tileset_write.specs.LayoutMembers.{put_contents}

pub uri_reads : (template : List ℕ) → IsUtf8 template → ReadsAs 1 (uri_value template)
uri_reads template h = one_member_reads 0 (codes "uri") (string template) refl (string_reads template h)

uris_read : (templates : List (List ℕ)) → All IsTemplateText templates → ItemsRead 1 (items_of (map uri_value templates))
uris_read [] all = no_items_read 1
uris_read (t ∷ ts) all = item_reads 1 (uri_value t) (items_of (map uri_value ts)) (uri_reads t (let own = all 0 [] (omega arith) in own.utf8)) (uris_read ts (λ i d lt. all (suc i) d (omega arith)))

asset_reads : ReadsAs 1 asset_value
asset_reads = one_member_reads 0 (codes "version") (string (codes "1.1")) refl (string_reads (codes "1.1") (IsUtf8-are_ascii (codes "1.1") refl))

numbers_read : (ns : List ℕ) → list_all (λ n. nat_lt n (2 ^ 64)) ns ≡ true → ItemsRead 0 (items_of (map whole_number ns))
numbers_read [] small = no_items_read 0
numbers_read (n ∷ ns) small =
    let parts = and_parts _ _ small in
    item_reads 0 (whole_number n) (items_of (map whole_number ns)) (number_reads n (ltb-true _ _ parts.0)) (numbers_read ns parts.1)

abbrev box_numbers : List ℕ
box_numbers = 0 ∷ 0 ∷ 0 ∷ 1 ∷ 0 ∷ 0 ∷ 0 ∷ 1 ∷ 0 ∷ 0 ∷ 0 ∷ 1 ∷ []

box_reads : ReadsAs 2 box_value
box_reads = one_member_reads 1 (codes "box") (array (items_of (map whole_number box_numbers))) refl (array_reads 0 (items_of (map whole_number box_numbers)) (numbers_read box_numbers refl))

scheme_utf8 : (scheme : Scheme) → IsUtf8 (scheme_name scheme)
scheme_utf8 Quad = IsUtf8-are_ascii (codes "QUADTREE") refl
scheme_utf8 Oct = IsUtf8-are_ascii (codes "OCTREE") refl

pub implicit_reads : (scheme : Scheme) (subtree_levels levels : ℕ) (subtree : List ℕ) → subtree_levels < 2 ^ 64 → levels < 2 ^ 64 → IsUtf8 subtree → ReadsAs 2 (implicit_value scheme subtree_levels levels subtree)
implicit_reads scheme subtree_levels levels subtree h k u =
    let r₁ = deeper 0 1 (whole_number levels) (omega arith) (number_reads levels k) in
    let r₂ = deeper 0 1 (string (scheme_name scheme)) (omega arith) (string_reads (scheme_name scheme) (scheme_utf8 scheme)) in
    let r₃ = deeper 0 1 (whole_number subtree_levels) (omega arith) (number_reads subtree_levels h) in
    let r₄ = uri_reads subtree u in
    let m₄ = member (codes "subtrees") (uri_value subtree) no_members in
    let m₃ = member (codes "subtreeLevels") (whole_number subtree_levels) m₄ in
    let m₂ = member (codes "subdivisionScheme") (string (scheme_name scheme)) m₃ in
    let m₁ = member (codes "availableLevels") (whole_number levels) m₂ in
    let f₁ = put (codes "availableLevels") (whole_number levels) no_members in
    let f₂ = put (codes "subdivisionScheme") (string (scheme_name scheme)) f₁ in
    let f₃ = put (codes "subtreeLevels") (whole_number subtree_levels) f₂ in
    object_reads 1 m₁
    (member_reads 1 (codes "availableLevels") (whole_number levels) m₂ refl r₁
    (member_reads 1 (codes "subdivisionScheme") (string (scheme_name scheme)) m₃ refl r₂
    (member_reads 1 (codes "subtreeLevels") (whole_number subtree_levels) m₄ refl r₃
    (member_reads 1 (codes "subtrees") (uri_value subtree) no_members refl r₄ (no_members_read 1)))))
    (member_step (codes "availableLevels") (whole_number levels) m₂ no_members r₁.whole
    ∙ member_step (codes "subdivisionScheme") (string (scheme_name scheme)) m₃ f₁ r₂.whole
    ∙ member_step (codes "subtreeLevels") (whole_number subtree_levels) m₄ f₂ r₃.whole
    ∙ member_step (codes "subtrees") (uri_value subtree) no_members f₃ r₄.whole)

contents_read : (contents : List (List ℕ)) (ms : Members) → All IsTemplateText contents → MembersRead 2 ms → MembersRead 2 (with_contents contents ms)
contents_read [] ms all rs = rs
contents_read (t ∷ []) ms all rs =
    let own = all 0 [] (omega arith) in
    member_reads 2 (codes "content") (uri_value t) ms refl (deeper 1 2 (uri_value t) (omega arith) (uri_reads t own.utf8)) rs
contents_read (t ∷ u ∷ ts) ms all rs =
    member_reads 2 (codes "contents") (array (items_of (map uri_value (t ∷ u ∷ ts)))) ms refl (array_reads 1 (items_of (map uri_value (t ∷ u ∷ ts))) (uris_read (t ∷ u ∷ ts) all)) rs

contents_step : (contents : List (List ℕ)) (ms found : Members) → All IsTemplateText contents → of_members (members_outline (with_contents contents ms)) found ≡ of_members (members_outline ms) (put_contents contents found)
contents_step [] ms found all = refl
contents_step (t ∷ []) ms found all = let own = all 0 [] (omega arith) in member_step (codes "content") (uri_value t) ms found (uri_reads t own.utf8).whole
contents_step (t ∷ u ∷ ts) ms found all =
    member_step (codes "contents") (array (items_of (map uri_value (t ∷ u ∷ ts)))) ms found (array_reads 1 (items_of (map uri_value (t ∷ u ∷ ts))) (uris_read (t ∷ u ∷ ts) all)).whole

members_in_order : (contents : List (List ℕ)) (implicit : Data)
    → put (codes "refine") (string (codes "ADD")) (put (codes "implicitTiling") implicit (put (codes "geometricError") (whole_number 1) (put_contents contents (put (codes "boundingVolume") box_value no_members))))
    ≡ member (codes "boundingVolume") box_value (with_contents contents (member (codes "geometricError") (whole_number 1) (member (codes "implicitTiling") implicit (member (codes "refine") (string (codes "ADD")) no_members))))
members_in_order [] implicit = refl
members_in_order (t ∷ []) implicit = refl
members_in_order (t ∷ u ∷ ts) implicit = refl

pub root_in_order : (contents : List (List ℕ)) (implicit : Data)
    → object (put (codes "refine") (string (codes "ADD")) (put (codes "implicitTiling") implicit (put (codes "geometricError") (whole_number 1) (put_contents contents (put (codes "boundingVolume") box_value no_members)))))
    ≡ root_value contents implicit
root_in_order contents implicit = ap object (members_in_order contents implicit)

pub root_reads : (contents : List (List ℕ)) (implicit : Data) → All IsTemplateText contents → ReadsAs 2 implicit → ReadsAs 3 (root_value contents implicit)
root_reads contents implicit all r =
    let one = deeper 0 2 (whole_number 1) (omega arith) (number_reads 1 (omega arith)) in
    let add = deeper 0 2 (string (codes "ADD")) (omega arith) (string_reads (codes "ADD") (IsUtf8-are_ascii (codes "ADD") refl)) in
    let m₅ = member (codes "refine") (string (codes "ADD")) no_members in
    let m₄ = member (codes "implicitTiling") implicit m₅ in
    let m₃ = member (codes "geometricError") (whole_number 1) m₄ in
    let m₂ = with_contents contents m₃ in
    let m₁ = member (codes "boundingVolume") box_value m₂ in
    let f₁ = put (codes "boundingVolume") box_value no_members in
    let f₂ = put_contents contents f₁ in
    let f₃ = put (codes "geometricError") (whole_number 1) f₂ in
    let f₄ = put (codes "implicitTiling") implicit f₃ in
    let rs : MembersRead 2 m₁ =
    member_reads 2 (codes "boundingVolume") box_value m₂ refl box_reads
    (contents_read contents m₃ all
    (member_reads 2 (codes "geometricError") (whole_number 1) m₄ refl one
    (member_reads 2 (codes "implicitTiling") implicit m₅ refl r
    (member_reads 2 (codes "refine") (string (codes "ADD")) no_members refl add (no_members_read 2))))) in
    object_reads 2 m₁ rs
    (member_step (codes "boundingVolume") box_value m₂ no_members box_reads.whole
    ∙ contents_step contents m₃ f₁ all
    ∙ member_step (codes "geometricError") (whole_number 1) m₄ f₂ one.whole
    ∙ member_step (codes "implicitTiling") implicit m₅ f₃ r.whole
    ∙ member_step (codes "refine") (string (codes "ADD")) no_members f₄ add.whole
    ∙ ap Some (members_in_order contents implicit))

pub tileset_reads : (root : Data) → ReadsAs 3 root → ReadsAs 4 (tileset_value root)
tileset_reads root r =
    let one = deeper 0 3 (whole_number 1) (omega arith) (number_reads 1 (omega arith)) in
    let asset = deeper 1 3 asset_value (omega arith) asset_reads in
    let m₃ = member (codes "root") root no_members in
    let m₂ = member (codes "geometricError") (whole_number 1) m₃ in
    let m₁ = member (codes "asset") asset_value m₂ in
    let f₁ = put (codes "asset") asset_value no_members in
    let f₂ = put (codes "geometricError") (whole_number 1) f₁ in
    object_reads 3 m₁
    (member_reads 3 (codes "asset") asset_value m₂ refl asset
    (member_reads 3 (codes "geometricError") (whole_number 1) m₃ refl one
    (member_reads 3 (codes "root") root no_members refl r (no_members_read 3))))
    (member_step (codes "asset") asset_value m₂ no_members asset.whole
    ∙ member_step (codes "geometricError") (whole_number 1) m₃ f₁ one.whole
    ∙ member_step (codes "root") root no_members f₂ r.whole)
