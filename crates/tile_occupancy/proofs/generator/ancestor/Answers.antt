use Rattle.std.proofs.Common.{arith, refl}
use Rattle.implicit_tiling.specs.declared.Scheme.TheVariants.{Oct}
use Rattle.tiling_laws.proofs.Ancestors.{ancestor_is_tile}
use Rattle.tile_occupancy.proofs.generator.ancestor.Goals as goal

pub invariant_of-result : goal.invariant_of-result
invariant_of-result c =
    let own = c.tile.invariant in
    let is = ancestor_is_tile Oct c.args.up (record { level = c.tile.inside.level; x = c.tile.inside.x; y = c.tile.inside.y; z = c.tile.inside.z })
    (record { x_fits = own.1; y_fits = own.2; z_fits = own.3; flat = refl }) in
    (omega (arith, own.0), is.x_fits, is.y_fits, is.z_fits)
