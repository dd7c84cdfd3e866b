use Rattle.std.proofs.Common.{◌≡◌, true, rules}
use Rattle.std.specs.Prelude.{is_some}
use Rattle.request_text.proofs.Reading.{too_many}
use Rattle.request_text.proofs.line.read_coordinates.Goals as goal

pub returns-then-is_some : goal.returns-then-is_some
returns-then-is_some c =
    let some : is_some c.cut-3.result ≡ true = search rules in
    too_many c.args.text.now c.in_ok-x.rest.now c.in-Some.z.now c.in_ok-x.x.now c.in-Some.y.now c.cut-3.result c.in_ok-x.ensures c.in-Some.ensures c.cut-3.ensures some
