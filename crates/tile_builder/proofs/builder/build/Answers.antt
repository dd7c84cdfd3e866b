use Rattle.std.proofs.Common.{subst}
use Rattle.tileset_json.specs.Limits.{IsWithinLimits}
use Rattle.build_laws.specs.Made.{made_files}
use Rattle.tile_builder.specs.Puts.{ArePut, IfTold}
use Rattle.tile_builder.proofs.Holding.{holds_from, same_whole}
use Rattle.tile_builder.proofs.builder.build.Goals as goal

pub returns-clause-holds : goal.returns-clause-holds
returns-clause-holds g c =
    holds_from c.args.layout.now c.args.occupancy.now.words (g.K.FileKeeper.kept c.args.keeper.now) (g.K.FileKeeper.kept c.put_files.new.keeper)
    (record {
      limits = subst IsWithinLimits c.layout.view_is c.layout.invariant;
      whole = same_whole c.args.occupancy.now.scheme c.args.layout.now.scheme c.args.occupancy.now.levels c.args.layout.now.levels c.args.occupancy.now.words c.requires.scheme
          c.requires.levels c.words-words.ensures.whole;
      masks = c.requires.masks;
    })
    c.requires.names
    (subst (λ ws. IfTold (g.K.FileKeeper.kept c.args.keeper.now) (g.K.FileKeeper.kept c.put_files.new.keeper) (ArePut (made_files c.args.layout.now ws))) c.words-words.ensures.words
    c.in_ok-files.ensures.kept)
