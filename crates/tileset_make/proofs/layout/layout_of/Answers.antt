use Rattle.std.proofs.Common.{ℕ, List, ap, arith, length}
use Rattle.std.proofs.lemmas.List.FromFn.{length-map-range_with_len}
use Rattle.tileset_make.specs.Recipes.{content_template}
use Rattle.tileset_make.proofs.layout.layout_of.Goals as goal

pub invariant_of-result : goal.invariant_of-result
invariant_of-result c =
    let r = c.args.recipe.now in
    record {
      some_subtree_levels = r.in_range.some_subtree_levels;
      few_subtree_levels = r.in_range.few_subtree_levels;
      some_levels = r.in_range.some_levels;
      few_levels = r.in_range.few_levels;
      few_contents = omega (arith, ap (length {A = List ℕ}) c.in_ok-content_templates.ensures, length-map-range_with_len (content_template r.scheme) 0 r.contents, r.in_range.few_contents);
    }
