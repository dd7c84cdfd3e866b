use Rattle.region_scan.proofs.Blocks.{children_fit}
use Rattle.region_scan.proofs.search.next_child_of_tile.Goals as goal

pub overflow_mul-at : goal.overflow_mul-at
overflow_mul-at c = record { fits = children_fit _ _ c.in_ok-next.next c.nodes_at-children.result c.subtree.view_is c.subtree.invariant c.in_ok-next.ensures.high c.nodes_at-children.ensures }
