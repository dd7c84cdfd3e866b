use Rattle.std.proofs.Common.{refl}
use Rattle.http_text.proofs.Valued.{found_more, found_twice, found_last, last_twice}
use Rattle.http_text.proofs.query.only_value.Goals as goal

pub returns-in_err-found : goal.returns-in_err-found
returns-in_err-found c =
    let none = found_twice c.args.name.now c.loop-part.rest.now c.args.query.now c.in-Some.part.now c.in-Some.behind.now c.loop-part.found c.value_of.result
    c.in-Some.ensures.0 c.in-Some.ensures.1 c.in-Some.ensures.2 c.value_of.ensures c.in_err-found.ensures c.loop-part.invariant in
    rw (c.from_residual.ensures, none) refl

pub loop-part-preserved : goal.loop-part-preserved
loop-part-preserved c =
    found_more c.args.name.now c.loop-part.rest.now c.args.query.now c.in-Some.part.now c.in-Some.behind.now c.loop-part.found c.value_of.result c.in_ok-found.found
    c.in-Some.ensures.0 c.in-Some.ensures.1 c.in-Some.ensures.2 c.value_of.ensures c.in_ok-found.ensures c.loop-part.invariant

pub returns-in_err-one_of : goal.returns-in_err-one_of
returns-in_err-one_of c =
    let none = last_twice c.args.name.now c.loop-part.rest.now c.args.query.now c.loop-part.found c.value_of-2.result
    c.in_default.ensures c.value_of-2.ensures c.in_err-one_of.ensures c.loop-part.invariant in
    rw (c.from_residual-in_err-one_of.ensures, none) refl

pub returns : goal.returns
returns c =
    found_last c.args.name.now c.loop-part.rest.now c.args.query.now c.loop-part.found c.value_of-2.result c.in_ok-one_of.field-0
    c.in_default.ensures c.value_of-2.ensures c.in_ok-one_of.ensures c.loop-part.invariant
