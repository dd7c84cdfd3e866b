-- The call's places past the level are 0.
use Rattle.std.proofs.Common.{sym, ap, subst, ◌∙◌, ◌<◌, ◌^◌}
use Rattle.implicit_tiling.specs.Tile.{Tile}
use Rattle.tile_word.proofs.Tiles.{index_in_quad, index_in_oct, coordinate_in_oct}
use Rattle.tile_word.proofs.index.index_of.Goals as goal

pub index3-requires : goal.index3-requires
index3-requires c = record {
  x_fits = subst (λ n. n < 2 ^ 21) (sym (ap (λ (t : Tile). t.x) c.tile.view_is)) (coordinate_in_oct c.args.scheme c.args.tile.now.level c.args.tile.now.x c.in-Oct.is c.requires.within c.requires.tile.x_fits);
  y_fits = subst (λ n. n < 2 ^ 21) (sym (ap (λ (t : Tile). t.y) c.tile.view_is)) (coordinate_in_oct c.args.scheme c.args.tile.now.level c.args.tile.now.y c.in-Oct.is c.requires.within c.requires.tile.y_fits);
  z_fits = subst (λ n. n < 2 ^ 21) (sym (ap (λ (t : Tile). t.z) c.tile.view_is)) (coordinate_in_oct c.args.scheme c.args.tile.now.level c.args.tile.now.z c.in-Oct.is c.requires.within c.requires.tile.z_fits);
}

pub returns-in-Quad : goal.returns-in-Quad
returns-in-Quad c =
    c.index2.ensures ∙ index_in_quad c.args.scheme c.args.tile.now c.tile.inside.x c.tile.inside.y c.in-Quad.is c.requires.tile c.requires.within
    (ap (λ (t : Tile). t.x) c.tile.view_is) (ap (λ (t : Tile). t.y) c.tile.view_is)

pub returns-in-Oct : goal.returns-in-Oct
returns-in-Oct c =
    c.index3.ensures ∙ index_in_oct c.args.scheme c.args.tile.now c.tile.inside.x c.tile.inside.y c.tile.inside.z c.in-Oct.is c.requires.tile c.requires.within
    (ap (λ (t : Tile). t.x) c.tile.view_is) (ap (λ (t : Tile). t.y) c.tile.view_is) (ap (λ (t : Tile). t.z) c.tile.view_is)
