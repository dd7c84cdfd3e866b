use Rattle.std.proofs.Common.{◌^◌, ◌++◌, ◌∙◌, ap, sym, arith}
use Rattle.implicit_tiling.specs.Tile.{branching}
use Rattle.implicit_tiling.specs.Nodes.{is_child_in, child_word}
use Rattle.region_scan.proofs.Blocks.{few_nodes}
use Rattle.region_scan.proofs.Scan.{step_found, hits_until}
use Rattle.region_scan.proofs.children.append_roots.Goals as goal

pub overflow_add-from : goal.overflow_add-from
overflow_add-from c = record { fits = omega (arith, c.in-Some.ensures.high, few_nodes _ _ c.args.subtree.now.levels c.subtree.view_is c.subtree.invariant (omega arith)) }

pub loop-index-preserved : goal.loop-index-preserved
loop-index-preserved c = (
  step_found (is_child_in c.args.subtree.now c.args.region.now) (child_word c.args.subtree.now) c.loop-index.from (branching c.args.subtree.now.scheme ^ c.args.subtree.now.levels)
      c.in-Some.index c.root_word.result c.args.out.now.items c.loop-index.out.items c.push.new.self.items c.in-Some.ensures c.loop-index.invariant.0 c.root_word.ensures
      c.in_ok-push.ensures.items,
  omega (arith, c.in-Some.ensures.high),
)

pub returns-clause-appended : goal.returns-clause-appended
returns-clause-appended c =
    c.loop-index.invariant.0
    ∙ ap (λ xs. c.args.out.now.items ++ xs)
    (sym (hits_until (is_child_in c.args.subtree.now c.args.region.now) (child_word c.args.subtree.now) c.loop-index.from
    (branching c.args.subtree.now.scheme ^ c.args.subtree.now.levels) c.loop-index.invariant.1 c.in_default.ensures))
