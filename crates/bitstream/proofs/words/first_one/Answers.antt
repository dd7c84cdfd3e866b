use Rattle.std.proofs.Common.{arith}
use Rattle.std.proofs.lemmas.List.{take_rest}
use Rattle.bitstream.proofs.Search.{none_after, first_after}
use Rattle.bitstream.proofs.words.first_one.Goals as goal

pub returns-in_err-place : goal.returns-in_err-place
returns-in_err-place c =
    let bytes = c.args.bytes.now in
    let skipped = c.zeros_in_front-skipped.result in
    rw c.from_residual.ensures (none_after bytes skipped 0 c.zeros_in_front-skipped.ensures.zeros (rw (take_rest bytes skipped) at c.in_err-place.ensures))

pub returns : goal.returns
returns c =
    let bytes = c.args.bytes.now in
    let skipped = c.zeros_in_front-skipped.result in
    first_after bytes skipped 0 c.in_ok-place.place (omega arith) c.zeros_in_front-skipped.ensures.zeros (rw (take_rest bytes skipped) at c.in_ok-place.ensures)
