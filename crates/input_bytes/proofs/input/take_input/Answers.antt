use Rattle.std.proofs.Common.{◌≡◌, ◌+◌, ap, ◌∙◌, length, arith}
use Rattle.scene_ports.specs.Counts.{more_by}
use Rattle.input_bytes.proofs.Taken.{more_twice}
use Rattle.input_bytes.proofs.input.take_input.Goals as goal

pub returns-then-len-count-gt-MOST_INPUT_BYTES-clause-long : goal.returns-then-len-count-gt-MOST_INPUT_BYTES-clause-long
returns-then-len-count-gt-MOST_INPUT_BYTES-clause-long g c = λ _. (
  length c.loop-count.bytes.items + c.in-Got.count,
  omega (arith, c.if-len-count-gt-MOST_INPUT_BYTES.true, c.len.ensures),
  c.in-Got.ensures.counted ∙ (ap (more_by c.in-Got.count) c.loop-count.invariant.counted
      ∙ more_twice (length c.loop-count.bytes.items) c.in-Got.count (g.I.Inlet.taken c.args.input.now)),
)

pub returns-in_err-extend_from_slice-in-Got-clause-short : goal.returns-in_err-extend_from_slice-in-Got-clause-short
returns-in_err-extend_from_slice-in-Got-clause-short g c = λ _. (
  length c.loop-count.bytes.items + c.in-Got.count,
  omega (arith, c.if-len-count-gt-MOST_INPUT_BYTES.false, c.len.ensures),
  c.in-Got.ensures.counted ∙ (ap (more_by c.in-Got.count) c.loop-count.invariant.counted
      ∙ more_twice (length c.loop-count.bytes.items) c.in-Got.count (g.I.Inlet.taken c.args.input.now)),
)
