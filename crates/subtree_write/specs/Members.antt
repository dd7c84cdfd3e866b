-- For proofs and inner functions: the members of a subtree's JSON by their parts (this project's own).
use Rattle.std.specs.Prelude.{ℕ, List, [], ◌∷◌}
use Rattle.serde_json.specs.Data.{Data, array, Members, put}
use Rattle.serde_json.specs.View.{items_of}

-- the members, with a list that isn't empty
abbrev pub with_list : List ℕ → List Data → Members → Members
with_list name [] members = members
with_list name (value ∷ values) members = put name (array (items_of (value ∷ values))) members
