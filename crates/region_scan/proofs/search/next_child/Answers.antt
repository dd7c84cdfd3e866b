use Rattle.std.proofs.Common.{ℕ, ◌∙◌, ◌^◌, ◌≤◌, ap, sym, subst, arith}
use Rattle.implicit_tiling.specs.Tile.{branching}
use Rattle.implicit_tiling.specs.Region.{is_in}
use Rattle.implicit_tiling.specs.Subtree.{Subtree}
use Rattle.implicit_tiling.specs.Nodes.{node_at}
use Rattle.bitstream.specs.Bits.{HasNoOne}
use Rattle.region_scan.specs.Found.{is_child}
use Rattle.region_scan.proofs.Blocks.{first_of_both, none_up_to}
use Rattle.region_scan.proofs.search.next_child.Goals as goal

pub returns-then-meets : goal.returns-then-meets
returns-then-meets c =
    let levels = ap (λ (u : Subtree). u.levels) c.subtree.view_is in
    first_of_both (is_child c.args.subtree.now) (λ m. is_in c.args.region.now (node_at c.args.subtree.now c.args.subtree.now.levels m)) c.args.from c.loop-index.at
    (branching c.args.subtree.now.scheme ^ c.args.subtree.now.levels) c.in-Some.index c.loop-index.invariant.0 c.loop-index.invariant.2 c.in-Some.ensures
    (ap (λ l. is_in c.args.region.now (node_at c.args.subtree.now l c.in-Some.index)) (sym levels) ∙ ap (is_in c.args.region.now) (sym c.node_at.ensures) ∙ sym c.meets.ensures ∙ c.if-meets.true)

pub loop-index-preserved : goal.loop-index-preserved
loop-index-preserved c =
    let levels = ap (λ (u : Subtree). u.levels) c.subtree.view_is in
    let Outside : ℕ → Type 0 = λ l. HasNoOne (λ m. is_in c.args.region.now (node_at c.args.subtree.now l m)) c.in-Some.index c.outside_until-at.result in
    let Within : ℕ → Type 0 = λ l. c.outside_until-at.result ≤ branching c.args.subtree.now.scheme ^ l in (
      omega (arith, c.loop-index.invariant.0, c.in-Some.ensures.low, c.outside_until-at.ensures.behind),
      subst Within levels c.outside_until-at.ensures.within,
      none_up_to (is_child c.args.subtree.now) (λ m. is_in c.args.region.now (node_at c.args.subtree.now c.args.subtree.now.levels m)) c.args.from c.loop-index.at
          (branching c.args.subtree.now.scheme ^ c.args.subtree.now.levels) c.in-Some.index c.outside_until-at.result c.loop-index.invariant.2 c.in-Some.ensures
          (subst Outside levels c.outside_until-at.ensures.outside),
    )
