use Rattle.std.proofs.Common.{IsTrue, List, ℕ, ◌≡◌, ◌∷◌, ◌++◌, ◌∙◌, ap, sym, subst, string_bytes}
use Rattle.std.specs.Fmt.{decimal}
use Rattle.implicit_tiling.specs.Template.{is_template}
use Rattle.tileset_make.specs.Recipes.{content_template}
use Rattle.tileset_make.proofs.Templates.{content_is_template}
use Rattle.tileset_make.proofs.layout.content_template.Goals as goal

pub template-requires : goal.template-requires
template-requires c =
    let same : string_bytes c.in_ok-text.text ≡ content_template c.args.scheme c.args.content =
    c.in_ok-text.ensures.ok ∙ ap (λ end. 99 ∷ (decimal c.args.content ++ end)) c.content_end.ensures in
    let P : List ℕ → Type 0 = λ text. IsTrue (is_template text) in
    subst P (sym same) (content_is_template c.args.scheme c.args.content c.requires).template
