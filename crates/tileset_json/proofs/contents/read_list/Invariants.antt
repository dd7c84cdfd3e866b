use Rattle.std.proofs.Common.{◌≡◌}
use Rattle.serde_json.specs.View.{items_view}
use Rattle.implicit_tileset.specs.Json.{list_of}
use Rattle.implicit_tileset.specs.Tileset.{template_of, templates_of}
use Rattle.implicit_tileset.proofs.EachRead.{goes_on}
use Rattle.tileset_json.proofs.contents.read_list.Given as goal

abbrev pub invariant-loop-value : goal.invariant-loop-value
invariant-loop-value l = goes_on template_of l.templates.items l.value-items l.value-index ≡ templates_of (list_of (items_view l.value-items))
