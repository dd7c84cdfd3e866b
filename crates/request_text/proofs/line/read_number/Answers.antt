use Rattle.std.proofs.Common.{◌≡◌, true, ◌∙◌, rules}
use Rattle.std.specs.Str.Parse.{ParsesUnsigned}
use Rattle.implicit_tiling.specs.Request.{has_digits}
use Rattle.request_text.proofs.Reading.{number_parsed, digits_are_text}
use Rattle.request_text.proofs.line.read_number.Goals as goal

pub returns-in_default : goal.returns-in_default
returns-in_default c =
    let digits : has_digits c.args.text.now ≡ true = search rules in
    absurd (c.in_default.ensures.cases.0 (digits_are_text _ digits))

pub returns : goal.returns
returns c =
    let digits : has_digits c.args.text.now ≡ true = search rules in
    let parse : ParsesUnsigned 32 10 c.args.text.now c.parse.result = rw (← c.in-Ok.ensures.cases.0) c.parse.ensures.value.0 in
    c.ok.ensures.value ∙ number_parsed c.args.text.now c.parse.result digits parse
