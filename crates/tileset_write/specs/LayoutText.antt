-- The text of a `tileset.json` for a layout: of the texts that state the layout this one is written (OGC 22-025r4,
-- implicit tiling: implicit root tile, subtrees; the choice is this project's own).
use Rattle.std.specs.Prelude.{ℕ, ◌≡◌, ◌≤◌, List, [], ◌∷◌, map, length, codes, IsTrue, IsUtf8, Ok}
use Rattle.std.specs.List.{All}
use Rattle.serde_json.specs.Data.{Data, string, array, object, Members, no_members, member}
use Rattle.serde_json.specs.View.{items_of}
use Rattle.serde_json.specs.Written.{compact_text}
use Rattle.implicit_tiling.specs.declared.Scheme.{Scheme}
use Rattle.implicit_tiling.specs.declared.Scheme.TheVariants.{Quad, Oct}
use Rattle.implicit_tiling.specs.Limits.{most_file_bytes}
use Rattle.implicit_tiling.specs.Scene.{Layout}
use Rattle.implicit_tileset.specs.Json.{whole_number}
use Rattle.implicit_tileset.specs.Tileset.{is_template, layout_of}
use Rattle.tileset_json.specs.Limits.{IsWithinLimits}

abbrev pub scheme_name : Scheme → List ℕ
scheme_name Quad = codes "QUADTREE"
scheme_name Oct = codes "OCTREE"

-- an object whose `uri` is a template
abbrev pub uri_value : List ℕ → Data
uri_value template = object (member (codes "uri") (string template) no_members)

-- ---- the objects, members in the order of their names

abbrev pub asset_value : Data
asset_value = object (member (codes "version") (string (codes "1.1")) no_members)

-- the unit box
abbrev pub box_value : Data
box_value = object (member (codes "box")
    (array (items_of (map whole_number (0 ∷ 0 ∷ 0 ∷ 1 ∷ 0 ∷ 0 ∷ 0 ∷ 1 ∷ 0 ∷ 0 ∷ 0 ∷ 1 ∷ [])))) no_members)

abbrev pub implicit_value : Scheme → ℕ → ℕ → List ℕ → Data
implicit_value scheme subtree_levels levels subtree = object
    (member (codes "availableLevels") (whole_number levels)
    (member (codes "subdivisionScheme") (string (scheme_name scheme))
    (member (codes "subtreeLevels") (whole_number subtree_levels)
    (member (codes "subtrees") (uri_value subtree)
    no_members))))

-- no member for no content, `content` for one, `contents` for more
abbrev pub with_contents : List (List ℕ) → Members → Members
with_contents [] members = members
with_contents (template ∷ []) members = member (codes "content") (uri_value template) members
with_contents (template ∷ next ∷ rest) members = member (codes "contents")
    (array (items_of (map uri_value (template ∷ next ∷ rest)))) members

abbrev pub root_value : List (List ℕ) → Data → Data
root_value contents implicit = object
    (member (codes "boundingVolume") box_value
    (with_contents contents
    (member (codes "geometricError") (whole_number 1)
    (member (codes "implicitTiling") implicit
    (member (codes "refine") (string (codes "ADD"))
    no_members)))))

abbrev pub tileset_value : Data → Data
tileset_value root = object
    (member (codes "asset") asset_value
    (member (codes "geometricError") (whole_number 1)
    (member (codes "root") root
    no_members)))

abbrev pub layout_value : Layout → Data
layout_value layout = tileset_value
    (root_value layout.contents (implicit_value layout.scheme layout.subtree_levels layout.levels layout.subtree))

abbrev pub layout_text : Layout → List ℕ
layout_text layout = compact_text (layout_value layout)

-- ---- what a layout keeps to

pub record IsTemplateText (text : List ℕ) : Type 0 where
  pub template : IsTrue (is_template text)
  pub utf8 : IsUtf8 text

-- its numbers are within the limits, and its templates are templates
pub record IsLayout (layout : Layout) : Type 0 where
  pub limits : IsWithinLimits layout
  pub subtree : IsTemplateText layout.subtree
  pub contents : All IsTemplateText layout.contents

-- the text of a layout states the layout, without a fault
abbrev pub LayoutTextsReadBack : Type 0
LayoutTextsReadBack = (layout : Layout) → IsLayout layout → layout_of (layout_text layout) ≡ Ok layout

-- the text of a layout fits a file
abbrev pub LayoutTextsAreShort : Type 0
LayoutTextsAreShort = (layout : Layout) → IsLayout layout → length (layout_text layout) ≤ most_file_bytes
