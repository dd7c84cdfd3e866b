-- One more template was seen.
use Rattle.std.proofs.Common.{◌≤◌, length, subst, arith}
use Rattle.std.specs.List.{All}
use Rattle.std.proofs.lemmas.Grind.{common_steps}
use Rattle.std.proofs.lemmas.List.{take_all}
use Rattle.std.proofs.lemmas.List.Elements.{All-more}
use Rattle.tileset_write.specs.LayoutText.{IsTemplateText}
use Rattle.tileset_write.proofs.tileset_text.uri_values.Goals as goal

pub loop-template-preserved : goal.loop-template-preserved
loop-template-preserved c = record {
  values = grind (arith, common_steps);
  templates = All-more IsTemplateText c.args.contents.now c.loop-template.template-index c.template-item.result c.loop-template-test.true
      c.loop-template.invariant.templates (subst IsTemplateText c.template-item.is c.in_ok-uri_value.ensures.template);
}

pub returns-clause-templates : goal.returns-clause-templates
returns-clause-templates c =
    let over : length c.args.contents.now ≤ c.loop-template.template-index = omega arith in
    subst (All IsTemplateText) (take_all c.loop-template.template-index c.args.contents.now over) c.loop-template.invariant.templates
