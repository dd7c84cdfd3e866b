-- Coordinates whose bits are those of the index, and no others.
use Rattle.std.proofs.Common.{arith, refl}
use Rattle.implicit_tiling.specs.declared.Scheme.TheVariants.{Oct}
use Rattle.morton.proofs.Places.{Taken, taken, taken_below, same_taken, oct_index, x_taken, y_taken, z_taken}
use Rattle.morton.proofs.oct.coords3.Goals as goal

x_is : (c : goal.After-gather-3) → Taken Oct 21 c.args.m 0 c.gather.result
x_is c = taken Oct 21 c.args.m c.gather.result c.gather.ensures.bits

y_is : (c : goal.After-gather-3) → Taken Oct 21 c.args.m 1 c.gather-2.result
y_is c = taken_below Oct 21 c.args.m 1 c.gather-2.result c.gather-2.ensures.bits

z_is : (c : goal.After-gather-3) → Taken Oct 21 c.args.m 2 c.gather-3.result
z_is c = taken_below Oct 21 c.args.m 2 c.gather-3.result c.gather-3.ensures.bits

pub returns-clause-index : goal.returns-clause-index
returns-clause-index c =
    oct_index 21 c.gather.result c.gather-2.result c.gather-3.result c.args.m refl (omega arith) (x_is c) (y_is c) (z_is c)

pub returns-clause-only : goal.returns-clause-only
returns-clause-only c = λ x y z hx hy hz e. (
  same_taken Oct 21 c.args.m 0 c.gather.result x c.gather.ensures.fits hx (x_is c) (x_taken Oct 21 x y z c.args.m e),
  same_taken Oct 21 c.args.m 1 c.gather-2.result y c.gather-2.ensures.fits hy (y_is c) (y_taken Oct 21 x y z c.args.m e),
  same_taken Oct 21 c.args.m 2 c.gather-3.result z c.gather-3.ensures.fits hz (z_is c) (z_taken 21 x y z c.args.m e),
)
