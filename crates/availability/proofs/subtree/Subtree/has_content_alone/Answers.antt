use Rattle.std.proofs.Common.{arith}
use Rattle.availability.proofs.Checks.{tiles_long, content_long, alone_seen, none_alone}
use Rattle.availability.proofs.subtree.Subtree.has_content_alone.Goals as goal

pub is_within-requires-clause-own : goal.is_within-requires-clause-own
is_within-requires-clause-own c =
    content_long _ _ c.kept_levels.result c.nodes_above-kept.result c.loop-bits.bits-index c.deref-bits-items.result.now c.bits-item.result
    c.self.view_is c.self.invariant c.kept_levels.ensures c.nodes_above-kept.ensures c.deref-bits-items.ensures.value c.loop-bits-test.true c.bits-item.is

pub is_within-requires-clause-others : goal.is_within-requires-clause-others
is_within-requires-clause-others c = tiles_long _ _ c.kept_levels.result c.nodes_above-kept.result c.self.view_is c.self.invariant c.kept_levels.ensures c.nodes_above-kept.ensures

pub returns-then-not-is_within : goal.returns-then-not-is_within
returns-then-not-is_within c =
    alone_seen _ _ c.kept_levels.result c.nodes_above-kept.result c.loop-bits.bits-index c.deref-bits-items.result.now c.bits-item.result
    c.self.view_is c.kept_levels.ensures c.nodes_above-kept.ensures c.deref-bits-items.ensures.value c.loop-bits-test.true c.bits-item.is c.if-not-is_within.ensures

pub returns : goal.returns
returns c =
    none_alone _ _ c.kept_levels.result c.nodes_above-kept.result c.deref-bits-items.result.now
    c.self.view_is c.kept_levels.ensures c.nodes_above-kept.ensures c.deref-bits-items.ensures.value
    (λ n d i low below one. c.loop-bits.invariant n d i (omega (arith, c.loop-bits-test.false)) below one)
