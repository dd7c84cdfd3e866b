-- The tile of a level and an index is a tile of that level.
use Rattle.std.proofs.Common.{◌<◌, sym, ap, subst, ◌∙◌}
use Rattle.implicit_tiling.specs.Limits.{most_levels}
use Rattle.implicit_tiling.specs.Tile.{Tile}
use Rattle.tiling_laws.proofs.TileAt.{tile_at_level}
use Rattle.tile_word.proofs.Tiles.{fits_at}
use Rattle.tile_word.proofs.word.word_tile.Goals as goal

pub returns-clause-is_tile : goal.returns-clause-is_tile
returns-clause-is_tile c = fits_at c.args.scheme _ _ c.tile_at.result c.tile_at.ensures

pub returns-clause-within : goal.returns-clause-within
returns-clause-within c =
    subst (λ l. l < most_levels c.args.scheme) (sym (ap (λ (t : Tile). t.level) c.tile_at.ensures ∙ tile_at_level c.args.scheme _ _ ∙ c.level_of.ensures)) c.requires.level_fits
