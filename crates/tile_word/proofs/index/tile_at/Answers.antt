-- The coordinates of an index are those of the level's tile of that index.
use Rattle.std.proofs.Common.{arith}
use Rattle.tile_word.proofs.Levels.{levels_below_32, indices_fit}
use Rattle.tile_word.proofs.Tiles.{tile_in_quad, tile_in_oct, fits_at}
use Rattle.tile_word.proofs.index.tile_at.Goals as goal

pub returns-in-Quad : goal.returns-in-Quad
returns-in-Quad c =
    tile_in_quad c.args.scheme c.args.level c.args.index c.coords2-x.result.0 c.coords2-x.result.1 c.in-Quad.is c.requires.within c.requires.index c.coords2-x.ensures.only

pub invariant_of-t-9 : goal.invariant_of-t-9
invariant_of-t-9 c =
    let is = fits_at c.args.scheme c.args.level c.args.index (record { level = c.args.level; x = c.coords2-x.result.0; y = c.coords2-x.result.1; z = 0 })
    (tile_in_quad c.args.scheme c.args.level c.args.index c.coords2-x.result.0 c.coords2-x.result.1 c.in-Quad.is c.requires.within c.requires.index c.coords2-x.ensures.only) in
    (omega (arith, levels_below_32 c.args.scheme c.args.level c.requires.within), is.x_fits, is.y_fits, is.z_fits)

pub coords3-x-requires : goal.coords3-x-requires
coords3-x-requires c = omega (arith, indices_fit c.args.scheme c.args.level c.requires.within, c.requires.index)

pub returns-in-Oct : goal.returns-in-Oct
returns-in-Oct c =
    tile_in_oct c.args.scheme c.args.level c.args.index c.coords3-x.result.0 c.coords3-x.result.1 c.coords3-x.result.2 c.in-Oct.is c.requires.within c.requires.index c.coords3-x.ensures.only

pub invariant_of-result : goal.invariant_of-result
invariant_of-result c =
    let is = fits_at c.args.scheme c.args.level c.args.index (record { level = c.args.level; x = c.coords3-x.result.0; y = c.coords3-x.result.1; z = c.coords3-x.result.2 })
    (tile_in_oct c.args.scheme c.args.level c.args.index c.coords3-x.result.0 c.coords3-x.result.1 c.coords3-x.result.2 c.in-Oct.is c.requires.within c.requires.index c.coords3-x.ensures.only) in
    (omega (arith, levels_below_32 c.args.scheme c.args.level c.requires.within), is.x_fits, is.y_fits, is.z_fits)
