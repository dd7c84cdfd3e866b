use Rattle.std.proofs.Common.{◌∙◌, sym}
use Rattle.tileset_make.proofs.Chosen.{recipe_of-inside}
use Rattle.tileset_make.proofs.recipe.Recipe.new.Goals as goal

pub returns : goal.returns
returns c = recipe_of-inside c.args.scheme c.args.levels c.args.subtree_levels c.args.contents c.args.points c.args.number _ (sym c.is_in_range.ensures ∙ c.if-not-is_in_range.false)
