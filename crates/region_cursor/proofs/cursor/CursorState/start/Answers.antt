use Rattle.std.proofs.Common.{subst, arith}
use Rattle.std.proofs.lemmas.Grind.{common_steps}
use Rattle.tileset_json.specs.Limits.{IsWithinLimits}
use Rattle.region_cursor.proofs.Walked.{begins_as_given}
use Rattle.region_cursor.proofs.cursor.CursorState.start.Goals as goal

pub returns-clause-begun : goal.returns-clause-begun
returns-clause-begun c = grind (arith, common_steps)

pub returns-clause-scene : goal.returns-clause-scene
returns-clause-scene c = λ s same.
    let limits = subst IsWithinLimits c.layout.view_is c.layout.invariant in
    begins_as_given s c.args.layout.now c.args.plan _ (returns-clause-begun c) same limits.some_subtree_levels limits.some_levels limits.few_levels c.requires
