-- A member that is a list of JSON values, and what it states.
use Rattle.std.proofs.Common.{◌≡◌, List, ap, ◌∙◌}
use Rattle.std.specs.Prelude.{Option, Some, option_and_then}
use Rattle.serde_json.specs.Data.{Data}
use Rattle.serde_json.specs.View.{items_view}
use Rattle.serde_json.specs.declared.value.Value.{Value}
use Rattle.serde_json.specs.Find.{as_array}
use Rattle.implicit_tileset.specs.Json.{list_of, each_read}
use Rattle.implicit_tileset.specs.Record.{list_read}
use Rattle.implicit_tileset.proofs.EachRead.{read_all}

-- a member that is a list of these values
pub record IsList (member : Option Data) (vs : List Value) : Type 0 where
  pub value : Data
  pub there : member ≡ Some value
  pub values : as_array value ≡ Some (items_view vs)

-- what a list of these values states
pub listed_as : {A : Type 0} (of : Data → Option A) (member : Option Data) (vs : List Value) (read : Option (List A))
    → IsList member vs → read_all of vs ≡ read → list_read of member ≡ read
listed_as of member vs read list is =
    ap (list_read of) list.there ∙ ap (option_and_then (λ items. each_read of (list_of items))) list.values ∙ is
