use Rattle.std.proofs.Common.{sym, arith, map}
use Rattle.std.proofs.lemmas.List.{length-map}
use Rattle.commands.proofs.Counted.{serve_of_three}
use Rattle.commands.proofs.serve.asked_by.Goals as goal

pub returns-in_default : goal.returns-in_default
returns-in_default c =
    let few = length-map c.args.words.now (λ word. word.now) in
    sym (serve_of_three (map (λ word. word.now) c.args.words.now) (λ same. omega (arith, same, few, c.in_default.len_below)))

pub returns-in_default-2 : goal.returns-in_default-2
returns-in_default-2 c =
    let many = length-map c.args.words.now (λ word. word.now) in
    sym (serve_of_three (map (λ word. word.now) c.args.words.now) (λ same. omega (arith, same, many, c.in_default.len_at_least)))
