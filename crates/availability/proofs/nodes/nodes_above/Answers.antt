-- A level has a node at least, and a tile more than one child.
use Rattle.std.proofs.Common.{arith}
use Rattle.tiling_laws.proofs.Ancestors.{branching_pow_pos}
use Rattle.availability.proofs.nodes.nodes_above.Goals as goal

pub overflow_sub-result : goal.overflow_sub-result
overflow_sub-result c = omega (arith, c.nodes_at.ensures, branching_pow_pos c.args.scheme c.args.local)
