use Rattle.std.proofs.Common.{sym, ap, ◌∙◌}
use Rattle.replay_script.specs.Script.{attached}
use Rattle.replay_script.specs.declared.event.Event.TheVariants.{Attach}
use Rattle.replay_script.proofs.Blanks.{attach_is}
use Rattle.implicit_tiling.specs.Request.{line_of, plan_of_line}
use Rattle.replay_script.proofs.reading.read_attach.Goals as goal

pub returns-in-Some-read_number : goal.returns-in-Some-read_number
returns-in-Some-read_number c =
    ap (Attach c.in-Some-read_number.pass) c.parse_line.ensures
    ∙ ap (λ p. attached p (plan_of_line c.args.layout.now.scheme c.args.layout.now.levels (line_of c.in-Some.request.now))) c.in-Some-read_number.ensures
    ∙ sym (attach_is c.args.layout.now.scheme c.args.layout.now.levels c.args.rest.now c.in-Some.pass.now c.in-Some.request.now c.in-Some.ensures)
