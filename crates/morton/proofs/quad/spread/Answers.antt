-- The walk is read off its table.
use Rattle.morton.proofs.Walks.{quad_spread_is}
use Rattle.std.proofs.Common.{arith}
use Rattle.morton.proofs.quad.spread.Goals as goal

pub returns : goal.returns
returns c = quad_spread_is c.args.x (omega arith)
