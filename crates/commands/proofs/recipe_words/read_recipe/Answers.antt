use Rattle.std.proofs.Common.{sym, arith, map}
use Rattle.std.proofs.lemmas.List.{length-map}
use Rattle.commands.proofs.Given.{not_six}
use Rattle.commands.proofs.recipe_words.read_recipe.Goals as goal

pub returns-in_default : goal.returns-in_default
returns-in_default c =
    let few = length-map c.args.words.now (λ word. word.now) in
    sym (not_six (map (λ word. word.now) c.args.words.now) (λ six. omega (arith, six, few, c.in_default.len_below)))

pub returns-in_default-2 : goal.returns-in_default-2
returns-in_default-2 c =
    let many = length-map c.args.words.now (λ word. word.now) in
    sym (not_six (map (λ word. word.now) c.args.words.now) (λ six. omega (arith, six, many, c.in_default.len_at_least)))
