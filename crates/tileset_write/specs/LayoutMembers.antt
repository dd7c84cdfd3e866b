-- For proofs and inner functions: the members of a tileset's root and its box by their parts (this project's own).
use Rattle.std.specs.Prelude.{ℕ, List, [], ◌∷◌, codes, map}
use Rattle.serde_json.specs.Data.{Data, array, Members, put}
use Rattle.serde_json.specs.View.{items_of}
use Rattle.implicit_tileset.specs.Json.{whole_number}
use Rattle.tileset_write.specs.LayoutText.{uri_value}

-- the members, with those of the contents
abbrev pub put_contents : List (List ℕ) → Members → Members
put_contents [] members = members
put_contents (template ∷ []) members = put (codes "content") (uri_value template) members
put_contents (template ∷ next ∷ rest) members = put (codes "contents")
    (array (items_of (map uri_value (template ∷ next ∷ rest)))) members

-- three numbers of the box
abbrev pub row : ℕ → ℕ → ℕ → List Data
row x y z = whole_number x ∷ whole_number y ∷ whole_number z ∷ []
