use Rattle.std.proofs.Common.{refl, sym}
use Rattle.frame_pool.specs.declared.frame.FrameState.TheVariants.{Empty}
use Rattle.frame_pool.proofs.Empties.{first-empty, no-empty, none_empty-next}
use Rattle.frame_pool.proofs.Places.{read-at}
use Rattle.frame_pool.proofs.victim.first_empty.Goals as goal

pub returns-then-is_empty : goal.returns-then-is_empty
returns-then-is_empty g c =
    let state = c.index-census-frame.result in
    sym (first-empty c.args.census.now c.loop-frame.frame state c.loop-frame.invariant (read-at c.args.census.now c.loop-frame.frame state state c.loop-frame-test.true c.index-census-frame.is refl) (sym c.if-is_empty.ensures))

pub loop-frame-preserved : goal.loop-frame-preserved
loop-frame-preserved g c =
    let state = c.index-census-frame.result in
    none_empty-next c.args.census.now c.loop-frame.frame state c.loop-frame.invariant (read-at c.args.census.now c.loop-frame.frame state state c.loop-frame-test.true c.index-census-frame.is refl) (sym c.if-is_empty.ensures)

pub returns : goal.returns
returns g c = sym (no-empty c.args.census.now c.loop-frame.frame c.loop-frame.invariant c.loop-frame-test.false Empty)
