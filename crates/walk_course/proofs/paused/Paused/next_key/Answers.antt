use Rattle.std.proofs.Common.{subst, sym}
use Rattle.walk_course.specs.Walk.{Walk}
use Rattle.walk_course.specs.Course.{Fits}
use Rattle.walk_course.proofs.Steps.{next_root_is}
use Rattle.walk_course.proofs.paused.Paused.next_key.Goals as goal

pub returns-clause-root : goal.returns-clause-root
returns-clause-root c = λ tag k n e fits.
    let w : Walk = record { state = c.self.inside.state; steps = c.self.inside.steps; end = c.self.inside.end } in
    next_root_is tag k n e w c.next_key.result c.next_key.ensures.root c.next_key.ensures.scene (subst (Fits tag k n e) (sym c.self.view_is) fits)
