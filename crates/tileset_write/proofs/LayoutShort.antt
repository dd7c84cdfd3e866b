-- The text of a layout fits a file.
use Rattle.std.proofs.Common.{◌≡◌, ℕ, suc, ◌+◌, ◌*◌, ◌<◌, ◌≤◌, List, [], ◌∷◌, map, length, codes, refl, sym, subst, arith}
use Rattle.std.specs.List.{All}
use Rattle.std.proofs.lemmas.Bool.{and_parts, leb-true}
use Rattle.std.specs.Fmt.{digits}
use Rattle.serde_json.proofs.OnLiterals.{serde_json_on_literals}
use Rattle.serde_json.specs.Data.{Data, string, array, Members, no_members, member}
use Rattle.serde_json.specs.View.{items_of}
use Rattle.serde_json.specs.Written.{compact_text}
use Rattle.implicit_tiling.specs.declared.Scheme.{Scheme}
use Rattle.implicit_tiling.specs.declared.Scheme.TheVariants.{Quad, Oct}
use Rattle.implicit_tiling.specs.Limits.{most_levels, most_subtree_levels}
use Rattle.implicit_tileset.specs.Json.{whole_number}
use Rattle.implicit_tileset.proofs.WrittenLengths.{IsWithin, ItemsWithin, MembersWithin, number_within, string_within, no_items_within, item_within, array_within, no_members_within, member_within, object_within}
use Rattle.tileset_write.specs.LayoutText.{IsTemplateText, LayoutTextsAreShort, scheme_name, uri_value, asset_value, box_value, implicit_value, with_contents, root_value}

number_short : (n : ℕ) → n < 100 → IsWithin 2 (whole_number n)
number_short n h = number_within 2 n (omega arith) (omega arith) (omega arith)

template_short : (t : List ℕ) → IsTemplateText t → length t ≤ 1024
template_short t h = leb-true _ _ (and_parts _ _ h.template).0

uri_short : (t : List ℕ) → IsTemplateText t → IsWithin 6200 (uri_value t)
uri_short t h = object_within 6190 6200 (member (codes "uri") (string t) no_members)
    (member_within 6146 1 6190 (codes "uri") (string t) no_members (omega (arith, string_within t, template_short t h)) no_members_within (omega arith)) (omega arith)

uris_short : (ts : List (List ℕ)) → All IsTemplateText ts → ItemsWithin (6201 * length ts + 1) (items_of (map uri_value ts))
uris_short [] all = no_items_within
uris_short (t ∷ ts) all = item_within 6200 (6201 * length ts + 1) _ (uri_value t) (items_of (map uri_value ts)) (uri_short t (all 0 [] (omega arith)))
    (uris_short ts (λ i d lt. all (suc i) d (omega arith))) (omega arith)

contents_short : (contents : List (List ℕ)) (ms : Members) (b : ℕ) → length contents ≤ 16 → All IsTemplateText contents → MembersWithin b ms → MembersWithin (b + 100000) (with_contents contents ms)
contents_short [] ms b few all h = λ later. omega (arith, h later)
contents_short (t ∷ []) ms b few all h = member_within 6200 b _ (codes "content") (uri_value t) ms (uri_short t (all 0 [] (omega arith))) h (omega arith)
contents_short (t ∷ u ∷ ts) ms b few all h =
    let uris = t ∷ u ∷ ts in
    member_within 99800 b _ (codes "contents") (array (items_of (map uri_value uris))) ms
    (array_within (6201 * length uris + 1) 99800 (items_of (map uri_value uris)) (uris_short uris all) (omega (arith, few))) h (omega arith)

name_short : (scheme : Scheme) → IsWithin 60 (string (scheme_name scheme))
name_short Quad = omega (arith, string_within (codes "QUADTREE"))
name_short Oct = omega (arith, string_within (codes "OCTREE"))

-- what the limits of levels mean as numbers
pub levels_small : (scheme : Scheme) (n : ℕ) → n ≤ most_levels scheme → n < 100
levels_small Quad n h = omega (arith, h)
levels_small Oct n h = omega (arith, h)

pub subtree_levels_small : (scheme : Scheme) (n : ℕ) → n ≤ most_subtree_levels scheme → n < 100
subtree_levels_small Quad n h = omega (arith, h)
subtree_levels_small Oct n h = omega (arith, h)

implicit_short : (scheme : Scheme) (subtree_levels levels : ℕ) (subtree : List ℕ) → subtree_levels < 100 → levels < 100 → IsTemplateText subtree → IsWithin 7001 (implicit_value scheme subtree_levels levels subtree)
implicit_short scheme subtree_levels levels subtree few low template =
    let m₄ = member (codes "subtrees") (uri_value subtree) no_members in
    let m₃ = member (codes "subtreeLevels") (whole_number subtree_levels) m₄ in
    let m₂ = member (codes "subdivisionScheme") (string (scheme_name scheme)) m₃ in
    let m₁ = member (codes "availableLevels") (whole_number levels) m₂ in
    object_within 7000 7001 m₁
    (member_within 2 6700 7000 (codes "availableLevels") (whole_number levels) m₂ (number_short levels low)
    (member_within 60 6400 6700 (codes "subdivisionScheme") (string (scheme_name scheme)) m₃ (name_short scheme)
    (member_within 2 6300 6400 (codes "subtreeLevels") (whole_number subtree_levels) m₄ (number_short subtree_levels few)
    (member_within 6200 1 6300 (codes "subtrees") (uri_value subtree) no_members (uri_short subtree template) no_members_within (omega arith))
    (omega arith)) (omega arith)) (omega arith)) (omega arith)

box_is : compact_text box_value ≡ codes "{\"box\":[0,0,0,1,0,0,0,1,0,0,0,1]}"
unfolding digits serde_json_on_literals
box_is = refl

box_short : IsWithin 200 box_value
box_short = let P : List ℕ → Type 0 = λ text. length text ≤ 200 in subst P (sym box_is) (omega arith)

asset_is : compact_text asset_value ≡ codes "{\"version\":\"1.1\"}"
unfolding digits serde_json_on_literals
asset_is = refl

asset_short : IsWithin 100 asset_value
asset_short = let P : List ℕ → Type 0 = λ text. length text ≤ 100 in subst P (sym asset_is) (omega arith)

root_short : (contents : List (List ℕ)) (implicit : Data) → length contents ≤ 16 → All IsTemplateText contents → IsWithin 7001 implicit → IsWithin 110001 (root_value contents implicit)
root_short contents implicit few all h =
    let m₅ = member (codes "refine") (string (codes "ADD")) no_members in
    let m₄ = member (codes "implicitTiling") implicit m₅ in
    let m₃ = member (codes "geometricError") (whole_number 1) m₄ in
    let m₂ = with_contents contents m₃ in
    object_within 110000 110001 (member (codes "boundingVolume") box_value m₂)
    (member_within 200 108000 110000 (codes "boundingVolume") box_value m₂ box_short
    (contents_short contents m₃ 8000 few all
    (member_within 2 7600 8000 (codes "geometricError") (whole_number 1) m₄ (number_short 1 (omega arith))
    (member_within 7001 100 7600 (codes "implicitTiling") implicit m₅ h
    (member_within 20 1 100 (codes "refine") (string (codes "ADD")) no_members (string_within (codes "ADD")) no_members_within (omega arith))
    (omega arith)) (omega arith))) (omega arith)) (omega arith)

pub layout_texts_are_short : LayoutTextsAreShort
layout_texts_are_short layout h =
    let scheme = layout.scheme in
    let implicit = implicit_value scheme layout.subtree_levels layout.levels layout.subtree in
    let root = root_value layout.contents implicit in
    let m₃ = member (codes "root") root no_members in
    let m₂ = member (codes "geometricError") (whole_number 1) m₃ in
    let inner = implicit_short scheme layout.subtree_levels layout.levels layout.subtree
    (subtree_levels_small scheme layout.subtree_levels h.limits.few_subtree_levels) (levels_small scheme layout.levels h.limits.few_levels) h.subtree in
    object_within 111000 _ (member (codes "asset") asset_value m₂)
    (member_within 100 110400 111000 (codes "asset") asset_value m₂ asset_short
    (member_within 2 110200 110400 (codes "geometricError") (whole_number 1) m₃ (number_short 1 (omega arith))
    (member_within 110001 1 110200 (codes "root") root no_members (root_short layout.contents implicit h.limits.few_contents h.contents inner) no_members_within (omega arith))
    (omega arith)) (omega arith)) (omega arith)
