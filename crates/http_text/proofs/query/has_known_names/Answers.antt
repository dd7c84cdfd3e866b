use Rattle.std.proofs.Common.{◌≡◌, true, false, sym, ◌∙◌, rules}
use Rattle.std.proofs.Math.Bool.{and-true}
use Rattle.http_text.specs.Targets.{is_parameter}
use Rattle.http_text.proofs.Cutting.{shorter, all_more, all_last}
use Rattle.http_text.proofs.query.has_known_names.Goals as goal

pub returns-then-not-is_parameter : goal.returns-then-not-is_parameter
returns-then-not-is_parameter c =
    let no : is_parameter c.in-Some.part.now ≡ false = search rules in
    sym (sym c.loop-part.invariant ∙ all_more c.loop-part.rest.now c.in-Some.part.now c.in-Some.behind.now false c.in-Some.ensures.0 c.in-Some.ensures.1 c.in-Some.ensures.2 no)

pub loop-part-smaller : goal.loop-part-smaller
loop-part-smaller c = shorter 38 c.loop-part.rest.now c.in-Some.behind.now c.in-Some.ensures.0 c.in-Some.ensures.2

pub loop-part-preserved : goal.loop-part-preserved
loop-part-preserved c =
    let yes_it_is : is_parameter c.in-Some.part.now ≡ true = search rules in
    sym (all_more c.loop-part.rest.now c.in-Some.part.now c.in-Some.behind.now true c.in-Some.ensures.0 c.in-Some.ensures.1 c.in-Some.ensures.2 yes_it_is) ∙ c.loop-part.invariant

pub returns : goal.returns
returns c = c.is_parameter-2.ensures ∙ sym (all_last c.loop-part.rest.now c.in_default.ensures ∙ and-true _) ∙ c.loop-part.invariant
