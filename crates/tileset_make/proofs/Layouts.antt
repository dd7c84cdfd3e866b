-- The layout of a recipe keeps to the limits, and its templates are templates.
use Rattle.std.proofs.Common.{arith}
use Rattle.std.specs.List.{range_with_len}
use Rattle.std.proofs.lemmas.List.Elements.{All-map}
use Rattle.std.proofs.lemmas.List.FromFn.{length-map-range_with_len}
use Rattle.walk_laws.proofs.Lists.{of_range}
use Rattle.tileset_write.specs.LayoutText.{IsTemplateText, IsLayout}
use Rattle.tileset_make.specs.declared.recipe.Recipe.{Recipe}
use Rattle.tileset_make.specs.Recipes.{content_template, recipe_layout}
use Rattle.tileset_make.proofs.Templates.{subtree_is_template, content_is_template}

pub recipe_has_layout : (r : Recipe) → IsLayout (recipe_layout r)
recipe_has_layout r = record {
  limits = record {
    some_subtree_levels = r.in_range.some_subtree_levels;
    few_subtree_levels = r.in_range.few_subtree_levels;
    some_levels = r.in_range.some_levels;
    few_levels = r.in_range.few_levels;
    few_contents = omega (arith, length-map-range_with_len (content_template r.scheme) 0 r.contents, r.in_range.few_contents);
  };
  subtree = subtree_is_template r.scheme;
  contents = All-map IsTemplateText (content_template r.scheme) (range_with_len 0 r.contents)
      (of_range (λ c. IsTemplateText (content_template r.scheme c)) 0 r.contents
      (λ c low high. content_is_template r.scheme c (omega (arith, high, r.in_range.few_contents))));
}
