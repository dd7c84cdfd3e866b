-- The layout that the bytes of `tileset.json` state, or the number of their first fault of 3 to 12 (OGC 22-025r4,
-- implicit tiling: implicit root tile, template URIs; the numbers and the order of the faults are this project's own).
use Rattle.std.specs.Prelude.{ℕ, ◌&&◌, nat_lt, nat_le, List, [], ◌∷◌, length, codes, Option, Some, None}
use Rattle.std.specs.Prelude.{option_and_then, option_map, Result, Ok, if◌then◌else◌}
use Rattle.std.specs.Str.{bytes_eq}
use Rattle.serde_json.specs.Data.{Data}
use Rattle.serde_json.specs.Find.{get, as_array}
use Rattle.implicit_tiling.specs.declared.Scheme.{Scheme}
use Rattle.implicit_tiling.specs.declared.Scheme.TheVariants.{Quad, Oct}
pub use Rattle.implicit_tiling.specs.Limits.{most_levels, most_subtree_levels}
pub use Rattle.implicit_tiling.specs.Template.{is_template}
use Rattle.implicit_tiling.specs.Limits.{most_contents}
use Rattle.implicit_tiling.specs.Checks.{need, refuse}
use Rattle.implicit_tiling.specs.Scene.{Layout}
use Rattle.implicit_tileset.specs.Json.{json_of, object_at, number_at, text_at, has_member, list_of, each_read}

abbrev pub scheme_named : List ℕ → Option Scheme
scheme_named text = if bytes_eq text (codes "QUADTREE") then Some Quad else
    (if bytes_eq text (codes "OCTREE") then Some Oct else None)

-- a whole number from 1 to this
abbrev pub from_one_to : ℕ → Option ℕ → Option ℕ
from_one_to most n = option_and_then (λ k. if nat_le 1 k && nat_le k most then Some k else None) n

-- the template that an object has as its `uri`
abbrev pub template_of : Data → Option (List ℕ)
template_of value = option_and_then (λ text. if is_template text then Some text else None) (text_at (codes "uri") value)

abbrev pub templates_of : List Data → Option (List (List ℕ))
templates_of values = each_read template_of values

-- the content templates: that of `content`, or those of `contents`, or none
abbrev pub templates_from : Option Data → Option Data → Option (List (List ℕ))
templates_from (Some content) contents = option_map (λ t. t ∷ []) (template_of content)
templates_from None (Some contents) = option_and_then (λ items. templates_of (list_of items)) (as_array contents)
templates_from None None = Some []

abbrev pub contents_of : Data → Option (List (List ℕ))
contents_of tile = templates_from (get (codes "content") tile) (get (codes "contents") tile)

-- the layout that a value states, or its first fault of 4 to 12
abbrev pub layout_of_value : Data → Result Layout ℕ
layout_of_value value =
    need 4 (object_at (codes "root") value) (λ tile.
    need 5 (object_at (codes "implicitTiling") tile) (λ implicit.
    need 6 (option_and_then scheme_named (text_at (codes "subdivisionScheme") implicit)) (λ scheme.
    need 7 (from_one_to (most_subtree_levels scheme) (number_at (codes "subtreeLevels") implicit)) (λ subtree_levels.
    need 8 (from_one_to (most_levels scheme) (number_at (codes "availableLevels") implicit)) (λ levels.
    need 9 (option_and_then template_of (get (codes "subtrees") implicit)) (λ subtree.
    refuse 10 (has_member (codes "content") tile && has_member (codes "contents") tile)
    (need 11 (contents_of tile) (λ contents.
    refuse 12 (nat_lt most_contents (length contents))
    (Ok (record {
      scheme = scheme;
      subtree_levels = subtree_levels;
      levels = levels;
      subtree = subtree;
      contents =
          contents;
    }))))))))))

abbrev pub layout_of : List ℕ → Result Layout ℕ
layout_of bytes = need 3 (json_of bytes) layout_of_value
