-- The text of a layout states the layout.
use Rattle.std.proofs.Common.{◌≡◌, ◌∙◌, ℕ, suc, ◌≤◌, ◌&&◌, false, cond, nat_lt, List, [], ◌∷◌, map, length, codes, Option, Some, None, option_map, option_and_then, refl, ap, ap₂, arith}
use Rattle.std.specs.Prelude.{Ok, Result}
use Rattle.std.specs.List.{All}
use Rattle.std.proofs.lemmas.Bool.{le-ltb, le-leb}
use Rattle.serde_json.specs.Data.{Data}
use Rattle.serde_json.specs.Find.{get}
use Rattle.implicit_tiling.proofs.Tables.{refuse-past}
use Rattle.implicit_tiling.specs.declared.Scheme.{Scheme}
use Rattle.implicit_tiling.specs.declared.Scheme.TheVariants.{Quad, Oct}
use Rattle.implicit_tiling.specs.Limits.{most_levels, most_subtree_levels, most_contents}
use Rattle.implicit_tiling.specs.Checks.{need, refuse}
use Rattle.implicit_tiling.specs.Scene.{Layout}
use Rattle.implicit_tileset.specs.Json.{json_of, object_at, number_at, text_at, has_member}
use Rattle.implicit_tileset.specs.Tileset.{scheme_named, from_one_to, template_of, templates_of, contents_of, layout_of_value}
use Rattle.tileset_write.specs.LayoutText.{IsTemplateText, IsLayout, LayoutTextsReadBack, scheme_name, uri_value, implicit_value, root_value, layout_value, layout_text}
use Rattle.implicit_tileset.proofs.EachRead.{list_of-items_of}
use Rattle.implicit_tileset.proofs.WrittenJson.{json_of-text}
use Rattle.tileset_write.proofs.LayoutShort.{levels_small, subtree_levels_small}
use Rattle.tileset_write.proofs.LayoutReads.{implicit_reads, root_reads, tileset_reads}

template_stated : (t : List ℕ) → IsTemplateText t → template_of (uri_value t) ≡ Some t
template_stated t h = ap (λ b. cond b (Some t) None) h.template

templates_stated : (ts : List (List ℕ)) → All IsTemplateText ts → templates_of (map uri_value ts) ≡ Some ts
templates_stated [] all = refl
templates_stated (t ∷ ts) all =
    ap (option_and_then (λ u. option_map (λ us. u ∷ us) (templates_of (map uri_value ts)))) (template_stated t (all 0 [] (omega arith)))
    ∙ ap (option_map (λ us. t ∷ us)) (templates_stated ts (λ i d lt. all (suc i) d (omega arith)))

contents_stated : (contents : List (List ℕ)) (implicit : Data) → All IsTemplateText contents → contents_of (root_value contents implicit) ≡ Some contents
contents_stated [] implicit all = refl
contents_stated (t ∷ []) implicit all = ap (option_map (λ u. u ∷ [])) (template_stated t (all 0 [] (omega arith)))
contents_stated (t ∷ u ∷ ts) implicit all = ap templates_of (list_of-items_of (map uri_value (t ∷ u ∷ ts))) ∙ templates_stated (t ∷ u ∷ ts) all

not_both : (contents : List (List ℕ)) (implicit : Data) → (has_member (codes "content") (root_value contents implicit) && has_member (codes "contents") (root_value contents implicit)) ≡ false
not_both [] implicit = refl
not_both (t ∷ []) implicit = refl
not_both (t ∷ u ∷ ts) implicit = refl

implicit_stated : (contents : List (List ℕ)) (scheme : Scheme) (subtree_levels levels : ℕ) (subtree : List ℕ)
    → object_at (codes "implicitTiling") (root_value contents (implicit_value scheme subtree_levels levels subtree)) ≡ Some (implicit_value scheme subtree_levels levels subtree)
implicit_stated [] scheme subtree_levels levels subtree = refl
implicit_stated (t ∷ []) scheme subtree_levels levels subtree = refl
implicit_stated (t ∷ u ∷ ts) scheme subtree_levels levels subtree = refl

scheme_stated : (scheme : Scheme) → scheme_named (scheme_name scheme) ≡ Some scheme
scheme_stated Quad = refl
scheme_stated Oct = refl

some_number : (most n : ℕ) → 1 ≤ n → n ≤ most → from_one_to most (Some n) ≡ Some n
some_number most n h k = ap₂ (λ a b. cond (a && b) (Some n) None) (le-leb 1 n h) (le-leb n most k)

abbrev laid : Scheme → ℕ → ℕ → List ℕ → List (List ℕ) → Layout
laid scheme subtree_levels levels subtree contents = record { scheme = scheme; subtree_levels = subtree_levels; levels = levels; subtree = subtree; contents = contents }

-- the rows of the table from each of its steps on
abbrev from_contents : Data → Scheme → ℕ → ℕ → List ℕ → Result Layout ℕ
from_contents tile scheme subtree_levels levels subtree =
    refuse 10 (has_member (codes "content") tile && has_member (codes "contents") tile)
    (need 11 (contents_of tile) (λ contents. refuse 12 (nat_lt most_contents (length contents)) (Ok (laid scheme subtree_levels levels subtree contents))))

abbrev from_subtree : Data → Data → Scheme → ℕ → ℕ → Result Layout ℕ
from_subtree tile implicit scheme subtree_levels levels = need 9 (option_and_then template_of (get (codes "subtrees") implicit)) (from_contents tile scheme subtree_levels levels)

abbrev from_levels : Data → Data → Scheme → ℕ → Result Layout ℕ
from_levels tile implicit scheme subtree_levels = need 8 (from_one_to (most_levels scheme) (number_at (codes "availableLevels") implicit)) (from_subtree tile implicit scheme subtree_levels)

abbrev from_scheme : Data → Data → Scheme → Result Layout ℕ
from_scheme tile implicit scheme = need 7 (from_one_to (most_subtree_levels scheme) (number_at (codes "subtreeLevels") implicit)) (from_levels tile implicit scheme)

abbrev from_implicit : Data → Data → Result Layout ℕ
from_implicit tile implicit = need 6 (option_and_then scheme_named (text_at (codes "subdivisionScheme") implicit)) (from_scheme tile implicit)

given : {A B : Type 0} (n : ℕ) (o : Option A) (a : A) (rest : A → Result B ℕ) → o ≡ Some a → need n o rest ≡ rest a
given n o a rest e = ap (λ p. need n p rest) e

value_stated : (layout : Layout) → IsLayout layout → layout_of_value (layout_value layout) ≡ Ok layout
value_stated layout h =
    let scheme = layout.scheme in
    let implicit = implicit_value scheme layout.subtree_levels layout.levels layout.subtree in
    let tile = root_value layout.contents implicit in
    given 5 (object_at (codes "implicitTiling") tile) implicit (from_implicit tile) (implicit_stated layout.contents scheme layout.subtree_levels layout.levels layout.subtree)
    ∙ given 6 (scheme_named (scheme_name scheme)) scheme (from_scheme tile implicit) (scheme_stated scheme)
    ∙ given 7 (from_one_to (most_subtree_levels scheme) (Some layout.subtree_levels)) layout.subtree_levels (from_levels tile implicit scheme)
    (some_number (most_subtree_levels scheme) layout.subtree_levels h.limits.some_subtree_levels h.limits.few_subtree_levels)
    ∙ given 8 (from_one_to (most_levels scheme) (Some layout.levels)) layout.levels (from_subtree tile implicit scheme layout.subtree_levels)
    (some_number (most_levels scheme) layout.levels h.limits.some_levels h.limits.few_levels)
    ∙ given 9 (template_of (uri_value layout.subtree)) layout.subtree (from_contents tile scheme layout.subtree_levels layout.levels) (template_stated layout.subtree h.subtree)
    ∙ refuse-past 10 (has_member (codes "content") tile && has_member (codes "contents") tile) _ (not_both layout.contents implicit)
    ∙ given 11 (contents_of tile) layout.contents (λ contents. refuse 12 (nat_lt most_contents (length contents)) (Ok (laid scheme layout.subtree_levels layout.levels layout.subtree contents))) (contents_stated layout.contents implicit h.contents)
    ∙ refuse-past 12 (nat_lt most_contents (length layout.contents)) _ (le-ltb most_contents (length layout.contents) h.limits.few_contents)

pub layout_texts_read_back : LayoutTextsReadBack
layout_texts_read_back layout h =
    let scheme = layout.scheme in
    let implicit = implicit_value scheme layout.subtree_levels layout.levels layout.subtree in
    let reads = implicit_reads scheme layout.subtree_levels layout.levels layout.subtree
    (omega (arith, subtree_levels_small scheme layout.subtree_levels h.limits.few_subtree_levels)) (omega (arith, levels_small scheme layout.levels h.limits.few_levels)) h.subtree.utf8 in
    let all = tileset_reads (root_value layout.contents implicit) (root_reads layout.contents implicit h.contents reads) in
    given 3 (json_of (layout_text layout)) (layout_value layout) layout_of_value (json_of-text 4 (layout_value layout) (omega arith) all)
    ∙ value_stated layout h
