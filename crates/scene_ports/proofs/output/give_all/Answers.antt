use Rattle.std.proofs.Common.{rules, ◌∙◌}
use Rattle.scene_ports.proofs.Giving.{all_but_rest}
use Rattle.scene_ports.proofs.output.give_all.Goals as goal

pub loop-rest-preserved : goal.loop-rest-preserved
loop-rest-preserved g c = record {
  under_way = all_but_rest _ _ _ _ _ c.in-Took.n c.loop-rest.invariant.under_way c.in-Took.ensures.given;
  sure = c.in-Took.ensures.sure (search rules) ∙ c.loop-rest.invariant.sure;
  aside = c.give.ensures.aside ∙ c.loop-rest.invariant.aside;
}
