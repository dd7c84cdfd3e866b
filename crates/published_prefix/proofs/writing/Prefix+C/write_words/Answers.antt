use Rattle.std.proofs.Common.{◌≡◌, ℕ, ◌+◌, ◌*◌, take, length, slice_index, None, sym, ap, ◌∙◌, arith}
use Rattle.std.proofs.lemmas.Grind.{get_or_default_zero}
use Rattle.std.proofs.lemmas.List.{length-take-le}
use Rattle.tile_coords.specs.declared.walk_end.WalkEnd.TheVariants.{Partial}
use Rattle.published_prefix.specs.declared.view.Turn.TheVariants.{At}
use Rattle.published_prefix.specs.Prefixes.{halves_of, with_turn, word_with}
use Rattle.published_prefix.proofs.Codes.{halves_length, halves_more}
use Rattle.published_prefix.proofs.writing.Prefix+C.write_words.Goals as goal

pub write_word-requires-clause-turn : goal.write_word-requires-clause-turn
write_word-requires-clause-turn g c =
    let t = c.requires.turn in
    let i = c.loop-i.i in
    let row = take i c.args.words.now in
    let inside = c.loop-i-test.true in
    let len : length row ≡ i = length-take-le i c.args.words.now (omega arith) in
    let halves = halves_length row in
    (t.0, c.args.length, halves_of row, ap (λ m. m.0.turn) (c.loop-i.invariant.me t.0 t.1), omega arith)

pub loop-i-preserved : goal.loop-i-preserved
loop-i-preserved g c =
    let known = c.loop-i.invariant in
    let i = c.loop-i.i in
    let words = c.args.words.now in
    let inside = c.loop-i-test.true in
    let word = c.index-words-i.is ∙ get_or_default_zero words i c.index-words-i.result inside in
    let old = c.args.place.now.me in record {
      table = c.write_word.ensures.same.0 ∙ known.table;
      id = c.write_word.ensures.same.1 ∙ known.id;
      me = λ k is. c.write_word.ensures.row
          ∙ (ap (λ w. (with_turn c.loop-i.place.me.0 (word_with c.loop-i.place.me.0.turn w), c.loop-i.place.me.1)) word
          ∙ (ap (λ m. (with_turn m.0 (word_with m.0.turn (slice_index words i)), m.1)) (known.me k is)
          ∙ ap (λ row. (with_turn old.0 (At k c.args.length Partial row None None), old.1)) (sym (halves_more words i inside))));
    }
