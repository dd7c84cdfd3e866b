use Rattle.std.proofs.Common.{◌≡◌, true, rules}
use Rattle.std.specs.Prelude.{is_some}
use Rattle.request_text.proofs.Reading.{too_many_words}
use Rattle.request_text.proofs.line.read_line.Goals as goal

pub returns-then-is_some : goal.returns-then-is_some
returns-then-is_some c =
    let some : is_some c.cut-3.result ≡ true = search rules in
    too_many_words c.args.line.now c.in_ok-level.boxes.now c.in_ok-lo.hi.now c.in_ok-level.level.now c.in_ok-lo.lo.now c.cut-3.result c.in_ok-level.ensures c.in_ok-lo.ensures c.cut-3.ensures some
