use Rattle.std.proofs.Common.{◌≡◌, ◌<◌, ◌^◌, ap, subst, sym, ◌∙◌}
use Rattle.std.specs.List.{All}
use Rattle.implicit_tiling.specs.Code.{word_mask}
use Rattle.tile_occupancy.specs.Occupied.{Occupancy}
use Rattle.tile_occupancy.specs.Generated.{AreGenerated}
use Rattle.tile_occupancy.proofs.Points.{points_are_tiles}
use Rattle.tile_occupancy.proofs.Generated.{made_of, whole, generated}
use Rattle.tile_occupancy.proofs.Exact.{words_are, masks_below}
use Rattle.tile_occupancy.proofs.generator.generate.Goals as goal

pub of_whole-requires : goal.of_whole-requires
of_whole-requires c =
    whole c.args.scheme c.args.levels c.args.contents c.args.points c.args.number c.dedup.new.self.items
    (made_of c.args.scheme c.args.levels c.args.contents c.args.points c.args.number c.in_ok-words.words.items c.sort_unstable.new.self.items c.dedup.new.self.items
    c.requires.some c.requires.within c.requires.contents (points_are_tiles c.args.scheme c.args.levels c.args.number) c.in_ok-words.ensures
    c.sort_unstable.ensures.permutation c.sort_unstable.ensures.sorted c.dedup.ensures.filtered)

pub returns : goal.returns
returns c =
    let words = c.dedup.new.self.items in
    let tiles = points_are_tiles c.args.scheme c.args.levels c.args.number in
    let made = made_of c.args.scheme c.args.levels c.args.contents c.args.points c.args.number c.in_ok-words.words.items c.sort_unstable.new.self.items words
    c.requires.some c.requires.within c.requires.contents tiles c.in_ok-words.ensures c.sort_unstable.ensures.permutation c.sort_unstable.ensures.sorted c.dedup.ensures.filtered in
    let are_whole = whole c.args.scheme c.args.levels c.args.contents c.args.points c.args.number words made in
    let are_generated = generated c.args.scheme c.args.levels c.args.contents c.args.points c.args.number words made in
    let is : c.of_whole.result.words ≡ words = ap (λ (o : Occupancy). o.words) c.of_whole.ensures in
    record {
      scheme = ap (λ (o : Occupancy). o.scheme) c.of_whole.ensures;
      levels = ap (λ (o : Occupancy). o.levels) c.of_whole.ensures;
      words = subst (AreGenerated c.args.scheme c.args.levels c.args.contents c.args.points c.args.number) (sym is) are_generated;
      list = is ∙ words_are c.args.scheme c.args.levels c.args.contents c.args.points c.args.number words c.requires.some tiles are_whole are_generated;
      masks = subst (All (λ w. word_mask w < 2 ^ c.args.contents)) (sym is)
          (masks_below c.args.scheme c.args.levels c.args.contents c.args.points c.args.number words c.requires.contents are_whole are_generated);
    }
