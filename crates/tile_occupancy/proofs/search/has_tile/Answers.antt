use Rattle.std.proofs.Common.{Bool, subst, sym, rules}
use Rattle.std.specs.Bool.{Decides}
use Rattle.std.specs.List.{Contains}
use Rattle.std.proofs.lemmas.List.Sorted.{answers_always}
use Rattle.tile_word.specs.Words.{word_key}
use Rattle.tile_occupancy.specs.Occupied.{tiles_of}
use Rattle.tile_occupancy.proofs.Keys.{search_decides}
use Rattle.tile_occupancy.proofs.search.has_tile.Goals as goal

pub returns : goal.returns
returns c =
    let found = c.binary_search_by_key.ensures in
    subst (λ (b : Bool). Decides b (Contains (tiles_of c.args.scheme c.args.words.now) c.args.tile.now)) (sym c.is_ok.ensures.value)
    (search_decides c.args.scheme c.args.words.now c.args.tile.now c.word_of-wanted.result c.binary_search_by_key.result
    (record { is_tile = c.requires.tile; within = c.requires.within }) c.requires.words c.requires.rise c.word_of-wanted.ensures found.bound
    (found.position word_key (answers_always _ _ _ (λ f a r g called. search rules))))
