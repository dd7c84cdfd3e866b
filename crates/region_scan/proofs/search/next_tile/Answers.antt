use Rattle.std.proofs.Common.{◌^◌, arith}
use Rattle.implicit_tiling.specs.Tile.{branching}
use Rattle.implicit_tiling.specs.Region.{is_in}
use Rattle.implicit_tiling.specs.Subtree.{has_tile}
use Rattle.implicit_tiling.specs.Nodes.{node_at}
use Rattle.region_scan.proofs.Blocks.{none_up_to}
use Rattle.region_scan.proofs.search.next_tile.Goals as goal

pub loop-index-preserved : goal.loop-index-preserved
loop-index-preserved c = (
  omega (arith, c.loop-index.invariant.0, c.in-Some.ensures.low, c.outside_until-at.ensures.behind),
  c.outside_until-at.ensures.within,
  none_up_to (has_tile c.args.subtree.now c.args.local) (λ m. is_in c.args.region.now (node_at c.args.subtree.now c.args.local m)) c.args.from c.loop-index.at
      (branching c.args.subtree.now.scheme ^ c.args.local) c.in-Some.index c.outside_until-at.result c.loop-index.invariant.2 c.in-Some.ensures c.outside_until-at.ensures.outside,
)
