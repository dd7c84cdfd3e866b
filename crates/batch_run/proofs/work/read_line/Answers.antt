use Rattle.std.proofs.Common.{subst}
use Rattle.tileset_json.specs.Limits.{IsWithinLimits}
use Rattle.batch_run.proofs.Answering.{read_fits}
use Rattle.batch_run.proofs.work.read_line.Goals as goal

pub returns-clause-fits : goal.returns-clause-fits
returns-clause-fits c = read_fits c.args.layout.now c.args.line.now c.parse_line.result c.parse_line.ensures

pub returns-clause-within : goal.returns-clause-within
returns-clause-within c = subst IsWithinLimits c.layout.view_is c.layout.invariant
