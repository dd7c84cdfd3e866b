-- Coordinates whose bits are those of the index, and no others.
use Rattle.std.proofs.Common.{arith, refl}
use Rattle.implicit_tiling.specs.declared.Scheme.TheVariants.{Quad}
use Rattle.morton.proofs.Places.{Taken, taken, taken_below, same_taken, quad_index, x_taken, y_taken}
use Rattle.morton.proofs.quad.coords2.Goals as goal

x_is : (c : goal.After-gather-2) → Taken Quad 32 c.args.m 0 c.gather.result
x_is c = taken Quad 32 c.args.m c.gather.result c.gather.ensures

y_is : (c : goal.After-gather-2) → Taken Quad 32 c.args.m 1 c.gather-2.result
y_is c = taken_below Quad 32 c.args.m 1 c.gather-2.result c.gather-2.ensures

pub returns-clause-index : goal.returns-clause-index
returns-clause-index c = quad_index 32 c.gather.result c.gather-2.result c.args.m refl (omega arith) (x_is c) (y_is c)

pub returns-clause-only : goal.returns-clause-only
returns-clause-only c = λ x y hx hy e. (
  same_taken Quad 32 c.args.m 0 c.gather.result x (omega arith) hx (x_is c) (x_taken Quad 32 x y 0 c.args.m e),
  same_taken Quad 32 c.args.m 1 c.gather-2.result y (omega arith) hy (y_is c) (y_taken Quad 32 x y 0 c.args.m e),
)
