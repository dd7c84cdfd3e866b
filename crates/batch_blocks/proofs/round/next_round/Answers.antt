use Rattle.std.proofs.Common.{◌≡◌, ◌+◌, ◌≤◌, ◌∷◌, ◌++◌, [], length, length-append, ap, ◌∙◌, arith}
use Rattle.batch_blocks.proofs.Cutting.{one_more}
use Rattle.batch_blocks.proofs.round.next_round.Goals as goal

pub loop-place-preserved : goal.loop-place-preserved
loop-place-preserved c =
    let inv = c.loop-place.invariant in
    let longer = ap (λ ls. length ls) c.in_ok-push.ensures.items in
    record {
      cut = one_more _ _ _ _ _ c.in-Some.line inv.cut c.in-Some.ensures.0 c.in_ok-push.ensures.items;
      count = omega (arith, longer, length-append c.loop-place.lines.items (c.in-Some.line ∷ []), inv.count);
      shorter = omega (arith, longer, length-append c.loop-place.lines.items (c.in-Some.line ∷ []), inv.shorter, c.in-Some.ensures.1);
    }
