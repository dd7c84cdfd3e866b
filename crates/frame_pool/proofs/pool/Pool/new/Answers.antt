use Rattle.std.proofs.Common.{ℕ, List, Option, None, replicate, sym, subst, arith}
use Rattle.frame_pool.specs.declared.frame.FrameState.{FrameState}
use Rattle.frame_pool.specs.declared.frame.FrameState.TheVariants.{Empty}
use Rattle.frame_pool.specs.Finding.{IsKept, HasRoom}
use Rattle.frame_pool.proofs.Kept.{kept-empty}
use Rattle.frame_pool.proofs.pool.Pool.new.Goals as goal

pub invariant_of-result : goal.invariant_of-result
invariant_of-result g c =
    let n = c.args.frames in
    let notes = c.in_ok-with_capacity.field-0 in
    let wide = c.in_ok-with_capacity.ensures.spare in
    let room : HasRoom n notes = omega arith in
    subst (λ (states : List (FrameState g.row.K.Denot)). IsKept g.K.PartialEq.eq states c.in_ok-no_values.field-0.items c.in_ok-new.field-0 notes 0) (sym c.in_ok-empty_states.ensures)
    (subst (λ (values : List (Option g.row.V.Denot)). IsKept g.K.PartialEq.eq (replicate n Empty) values c.in_ok-new.field-0 notes 0) (sym c.in_ok-no_values.ensures)
    (subst (λ (order : List ℕ). IsKept g.K.PartialEq.eq (replicate n Empty) (replicate n None) order notes 0) (sym c.in_ok-new.ensures)
    (kept-empty g.K.PartialEq.eq n c.requires.0 c.requires.1 notes room)))
