use Rattle.std.proofs.Common.{◌+◌, ◌++◌, ◌∙◌, ap, sym, arith}
use Rattle.implicit_tiling.specs.Nodes.{is_child_in, child_word}
use Rattle.region_scan.proofs.Scan.{step_found, hits_until}
use Rattle.reference_scan.proofs.Scan.{first_here, value_here, none_here}
use Rattle.reference_scan.proofs.children.append_roots.Goals as goal
use Rattle.reference_scan.proofs.children.append_roots.Goals.{in-Some+in_ok-push, in_default}

pub loop-index-preserved : goal.loop-index-preserved
loop-index-preserved c =
    let test = is_child_in c.args.subtree.now c.args.region.now in
    let value = child_word c.args.subtree.now in
    let n = c.loop-index.index in
    elim c.match-child_in.branch [
      | in-Some+in_ok-push w ↦
          step_found test value n (n + 1) n w.in-Some.word c.args.out.now.items c.loop-index.out.items c.match-child_in.out.items
          (first_here test value n (n + 1) w.in-Some.word (omega arith) w.in-Some.ensures) c.loop-index.invariant
          (value_here test value n w.in-Some.word w.in-Some.ensures) (ap (λ v. v.items) w.out-is ∙ w.in_ok-push.ensures.items)
      | in_default w ↦
          ap (λ v. v.items) w.out-is ∙ c.loop-index.invariant
          ∙ ap (λ xs. c.args.out.now.items ++ xs) (sym (hits_until test value n (n + 1) (omega arith) (none_here test value n w.in_default.ensures)))
    ]
