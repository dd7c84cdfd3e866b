use Rattle.std.proofs.Common.{arith, sym}
use Rattle.availability.proofs.Checks.{orphan_seen, no_orphan, tiles_long, full_has_no_orphan}
use Rattle.availability.proofs.subtree.Subtree.has_orphan.Goals as goal

pub returns-then-has_orphan_at : goal.returns-then-has_orphan_at
returns-then-has_orphan_at c =
    orphan_seen _ _ c.kept_levels-kept.result c.loop-local.local c.self.view_is c.kept_levels-kept.ensures c.loop-local.auto.local c.loop-local-test.true c.if-has_orphan_at.ensures

pub returns : goal.returns
returns c =
    sym (no_orphan c.args.self.now c.kept_levels-kept.result c.kept_levels-kept.ensures
    (λ n m one low within. c.loop-local.invariant n m one (omega (arith, c.loop-local-test.false)) within))

pub ones-requires : goal.ones-requires
ones-requires c = tiles_long _ _ c.kept_levels-kept.result c.nodes_above-nodes.result c.self.view_is c.self.invariant c.kept_levels-kept.ensures c.nodes_above-nodes.ensures

pub returns-then-ones-nodes : goal.returns-then-ones-nodes
returns-then-ones-nodes c =
    full_has_no_orphan _ _ c.kept_levels-kept.result c.nodes_above-nodes.result c.ones.result c.self.view_is c.self.invariant c.kept_levels-kept.ensures c.nodes_above-nodes.ensures
    c.ones.ensures c.if-ones-nodes.true
