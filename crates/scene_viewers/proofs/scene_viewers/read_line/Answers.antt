use Rattle.scene_viewers.proofs.Texts.{read_fits}
use Rattle.scene_viewers.proofs.scene_viewers.read_line.Goals as goal

pub returns-clause-fits : goal.returns-clause-fits
returns-clause-fits c = read_fits c.args.layout.now c.args.line.now c.parse_line.result c.parse_line.ensures
