use Rattle.std.proofs.Common.{sym, ap}
use Rattle.implicit_tiling.specs.Scene.{Layout}
use Rattle.region_cursor.proofs.Tried.{plan_fits}
use Rattle.walking_trials.proofs.cursors.walk_of.Goals as goal

pub walked-requires : goal.walked-requires
walked-requires c = plan_fits c.args.layout.now c.layout.inside.levels c.args.level c.args.most c.in-Ok.region c.requires (ap (λ (l : Layout). l.levels) c.layout.view_is) (sym c.in-Ok.ensures)
