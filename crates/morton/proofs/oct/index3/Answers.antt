-- Three coordinates that share no place are one number.
use Rattle.std.proofs.Common.{refl, lit≤}
use Rattle.morton.proofs.Places.{of_three}
use Rattle.morton.proofs.oct.index3.Goals as goal

pub returns : goal.returns
returns c =
    of_three 21 c.args.x c.args.y c.args.z c.spread.result c.spread-2.result c.spread-3.result refl (lit≤ tt) c.spread.ensures c.spread-2.ensures c.spread-3.ensures
