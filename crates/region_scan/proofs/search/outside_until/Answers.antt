use Rattle.std.proofs.Common.{◌∙◌, ◌≤◌, ap, sym, arith}
use Rattle.std.proofs.Math.Nat.{div-le_self}
use Rattle.implicit_tiling.specs.Region.{is_in}
use Rattle.implicit_tiling.specs.Nodes.{node_at}
use Rattle.tiling_laws.proofs.Ancestors.{branching_pow_pos}
use Rattle.region_scan.proofs.Blocks.{seen, block_seen, end_seen, behind_seen, outside_seen, few_nodes, few_levels, one_outside}
use Rattle.region_scan.proofs.search.outside_until.Goals as goal

pub overflow_add-end : goal.overflow_add-end
overflow_add-end c = record { fits = omega (arith, c.requires.index, few_nodes _ _ c.args.local c.subtree.view_is c.subtree.invariant c.requires.local) }

pub overflow_add-up-end : goal.overflow_add-up-end
overflow_add-up-end c = record { fits = omega (arith, few_levels _ _ c.args.local c.subtree.view_is c.subtree.invariant c.requires.local) }

pub loop-up-init : goal.loop-up-init
loop-up-init c = (omega arith, omega (arith, c.requires.index), one_outside (λ m. is_in c.args.region.now (node_at c.args.subtree.now c.args.local m)) c.args.index c.requires.outside)

pub nonzero_div-block : goal.nonzero_div-block
nonzero_div-block c = omega (arith, c.nodes_at-nodes.ensures, branching_pow_pos c.subtree.inside.scheme c.loop-up.up)

pub node_at-above-requires-clause-index : goal.node_at-above-requires-clause-index
node_at-above-requires-clause-index c =
    block_seen c.args.subtree.now c.args.local c.loop-up.up c.args.index c.nodes_at-nodes.result
    (seen _ _ c.loop-up.up c.nodes_at-nodes.result c.subtree.view_is c.nodes_at-nodes.ensures) (omega (arith, c.loop-up-test.true)) c.requires.index

pub overflow_add-end-in-loop-up : goal.overflow_add-end-in-loop-up
overflow_add-end-in-loop-up c = record {
  fits = omega (arith, div-le_self c.args.index c.nodes_at-nodes.result, c.requires.index, few_nodes _ _ c.args.local c.subtree.view_is c.subtree.invariant c.requires.local);
}

pub overflow_mul-end : goal.overflow_mul-end
overflow_mul-end c = record {
  fits = omega (
    arith,
    end_seen c.args.subtree.now c.args.local c.loop-up.up c.args.index c.nodes_at-nodes.result
        (seen _ _ c.loop-up.up c.nodes_at-nodes.result c.subtree.view_is c.nodes_at-nodes.ensures) (omega (arith, c.loop-up-test.true)) c.requires.index,
    few_nodes _ _ c.args.local c.subtree.view_is c.subtree.invariant c.requires.local,
  );
}

pub loop-up-preserved : goal.loop-up-preserved
loop-up-preserved c =
    let nodes = seen _ _ c.loop-up.up c.nodes_at-nodes.result c.subtree.view_is c.nodes_at-nodes.ensures in
    let le : c.loop-up.up ≤ c.args.local = omega (arith, c.loop-up-test.true) in (
      behind_seen c.args.subtree.now c.loop-up.up c.args.index c.nodes_at-nodes.result nodes,
      end_seen c.args.subtree.now c.args.local c.loop-up.up c.args.index c.nodes_at-nodes.result nodes le c.requires.index,
      outside_seen c.args.subtree.now c.args.region.now c.args.local c.loop-up.up c.args.index c.nodes_at-nodes.result nodes le
          (ap (is_in c.args.region.now) (sym c.node_at-above.ensures) ∙ sym c.meets.ensures ∙ c.if-meets.false),
    )
