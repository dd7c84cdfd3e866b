use Rattle.std.proofs.Common.{sym, subst}
use Rattle.region_cursor.specs.Cursor.{Cursor}
use Rattle.walk_course.specs.Walk.{IsPaused}
use Rattle.tile_coords.specs.declared.walk_end.WalkEnd.TheVariants.{Partial}
use Rattle.walk_course.proofs.Bounds.{begins_within}
use Rattle.walk_course.proofs.paused.Paused.start.Goals as goal

pub invariant_of-result : goal.invariant_of-result
invariant_of-result c =
    subst (λ (s : Cursor). IsPaused (record { state = s; steps = 0; end = Partial })) (sym c.in_ok-state.ensures.begun)
    (begins_within c.args.layout.now c.args.plan.region search)
