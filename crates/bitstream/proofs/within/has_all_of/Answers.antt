-- Each word tells of 64 places, and the last one of the places after the whole words.
use Rattle.std.proofs.Common.{◌≡◌, ◌*◌, ◌/◌, ◌<◌, [], length, refl, arith, length-take}
use Rattle.std.proofs.lemmas.List.{get_or-take}
use Rattle.bitstream.proofs.Parts.{digits_of_chunk, digits_of_tail}
use Rattle.bitstream.proofs.Apart.{word_is_alone, word_keeps, rest_answers}
use Rattle.bitstream.proofs.within.has_all_of.Goals as goal

pub returns-then-alone-ne0 : goal.returns-then-alone-ne0
returns-then-alone-ne0 c =
    let i = c.loop-index.index in
    let words = c.as_chunks.result.0.now in
    let bytes = c.args.bytes.now in
    let other = c.args.other.now in
    let lt : i < c.args.n / 64 = omega (arith, c.loop-index-test.true, length-take (c.args.n / 64) words) in
    let many : i < length bytes / 8 = omega arith in
    let others : i < length other / 8 = omega arith in
    let word = rw (get_or-take (c.args.n / 64) words i [] lt) at c.word_of.ensures in
    word_is_alone bytes other c.args.n i c.word_of.result c.word_of-in-loop-index.result lt (omega arith) (omega arith)
    (digits_of_chunk bytes words i c.word_of.result c.as_chunks.ensures.front many word)
    (digits_of_chunk other c.as_chunks-2.result.0.now i c.word_of-in-loop-index.result c.as_chunks-2.ensures.front others c.word_of-in-loop-index.ensures)
    (omega arith)

pub loop-index-preserved : goal.loop-index-preserved
loop-index-preserved c =
    let i = c.loop-index.index in
    let words = c.as_chunks.result.0.now in
    let bytes = c.args.bytes.now in
    let other = c.args.other.now in
    let lt : i < c.args.n / 64 = omega (arith, c.loop-index-test.true, length-take (c.args.n / 64) words) in
    let many : i < length bytes / 8 = omega arith in
    let others : i < length other / 8 = omega arith in
    let word = rw (get_or-take (c.args.n / 64) words i [] lt) at c.word_of.ensures in
    word_keeps bytes other i c.word_of.result c.word_of-in-loop-index.result (omega arith)
    (digits_of_chunk bytes words i c.word_of.result c.as_chunks.ensures.front many word)
    (digits_of_chunk other c.as_chunks-2.result.0.now i c.word_of-in-loop-index.result c.as_chunks-2.ensures.front others c.word_of-in-loop-index.ensures)
    c.if-alone-ne0.false c.loop-index.invariant

pub returns : goal.returns
returns c =
    let i = c.args.n / 64 in
    let bytes = c.args.bytes.now in
    let other = c.args.other.now in
    let words = c.as_chunks.result.0.now in
    let end : c.loop-index.index ≡ i = omega (arith, c.loop-index.auto.index-end, c.loop-index-test.false, length-take i words, c.as_chunks.ensures.front_len) in
    let base : 8 * (8 * i) ≡ 64 * i = omega arith in
    let before = rw end at c.loop-index.invariant in
    rest_answers bytes other c.args.n i c.first_word.result c.first_word-2.result refl (omega arith) (omega arith)
    (rw base at (digits_of_tail bytes (8 * i) c.first_word.result c.first_word.ensures))
    (rw base at (digits_of_tail other (8 * i) c.first_word-2.result c.first_word-2.ensures))
    before
