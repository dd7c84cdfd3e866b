use Rattle.std.proofs.Common.{◌≡◌, map, take}
use Rattle.std.specs.List.{All}
use Rattle.serde_json.specs.View.{view}
use Rattle.tileset_write.specs.LayoutText.{uri_value, IsTemplateText}
use Rattle.tileset_write.proofs.tileset_text.uri_values.Given as goal

abbrev pub invariant-loop-template : goal.invariant-loop-template
invariant-loop-template l = record {
  values : map view l.values.items ≡ map uri_value (take l.template-index l.contents);
  templates : All IsTemplateText (take l.template-index l.contents);
}
