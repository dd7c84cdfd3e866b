use Rattle.std.proofs.Common.{◌≡◌}
use Rattle.tileset_make.specs.Recipes.{content_templates}
use Rattle.tileset_make.proofs.layout.content_templates.Given as goal

abbrev pub invariant-loop-content : goal.invariant-loop-content
invariant-loop-content l = l.templates.items ≡ content_templates l.scheme l.content
