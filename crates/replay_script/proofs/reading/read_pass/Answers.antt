use Rattle.std.proofs.Common.{◌∙◌}
use Rattle.replay_script.proofs.Blanks.{without_pass, with_pass}
use Rattle.replay_script.proofs.reading.read_pass.Goals as goal

pub returns-in-None : goal.returns-in-None
returns-in-None c = without_pass c.args.name.now c.args.rest.now c.in-None.ensures

pub returns-in-Some : goal.returns-in-Some
returns-in-Some c = c.event_of_name.ensures ∙ with_pass c.args.name.now c.args.rest.now c.in-Some.pass c.in-Some.ensures
