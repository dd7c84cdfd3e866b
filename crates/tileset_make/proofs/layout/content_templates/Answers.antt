use Rattle.std.proofs.Common.{◌∙◌, ◌∷◌, [], ◌++◌, ap₂, sym, arith}
use Rattle.std.proofs.lemmas.List.FromFn.{map-range_with_len_more}
use Rattle.tileset_make.specs.Recipes.{content_template}
use Rattle.tileset_make.proofs.layout.content_templates.Goals as goal

pub loop-content-preserved : goal.loop-content-preserved
loop-content-preserved c =
    c.in_ok-push.ensures.items
    ∙ ap₂ (λ before last. before ++ last ∷ []) c.loop-content.invariant c.in_ok-content_template.ensures
    ∙ sym (map-range_with_len_more (content_template c.args.scheme) 0 c.loop-content.content c.loop-content.content (omega arith))
