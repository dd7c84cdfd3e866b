use Rattle.std.proofs.Common.{◌+◌, ◌*◌, refl, sym, ap, ◌∙◌, arith}
use Rattle.implicit_tiling.specs.Tile.{Tile}
use Rattle.tiling_laws.proofs.TileAt.{tile_at_level}
use Rattle.tile_word.proofs.Tiles.{fits_at}
use Rattle.tile_builder.proofs.Below.{index_fits}
use Rattle.tile_builder.proofs.runs.first_key.Goals as goal

pub overflow_mul-index : goal.overflow_mul-index
overflow_mul-index c = record {
  fits = omega (
    arith,
    (index_fits c.args.scheme c.args.root.now c.args.levels c.args.root.now.level c.index_of.result c.nodes_at.result c.requires.within refl c.index_of.ensures c.nodes_at.ensures).0,
  );
}

pub tile_at-first-requires-clause-index : goal.tile_at-first-requires-clause-index
tile_at-first-requires-clause-index c =
    (index_fits c.args.scheme c.args.root.now c.args.levels c.root.inside.level c.index_of.result c.nodes_at.result c.requires.within (sym (ap (λ (t : Tile). t.level) c.root.view_is))
    c.index_of.ensures c.nodes_at.ensures).1

pub word_of-requires-clause-within : goal.word_of-requires-clause-within
word_of-requires-clause-within c =
    let level = ap (λ (t : Tile). t.level) c.tile_at-first.ensures ∙ tile_at_level c.args.scheme (c.root.inside.level + c.args.levels) (c.index_of.result * c.nodes_at.result) in
    omega (arith, level, ap (λ (t : Tile). t.level) c.root.view_is, c.requires.within)

pub word_of-requires-clause-tile : goal.word_of-requires-clause-tile
word_of-requires-clause-tile c = fits_at c.args.scheme _ _ c.tile_at-first.result c.tile_at-first.ensures
