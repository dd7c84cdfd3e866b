use Rattle.std.proofs.Common.{rules, ◌≡◌, ◌∙◌, ℕ, ◌+◌, ◌*◌, ◌/◌, ◌^◌, ◌<◌, List, length, drop, refl, arith, w64}
use Rattle.std.specs.Int.{trailing_zeros}
use Rattle.bitstream.specs.Bits.{HasNoOne, IsFirstOne}
use Rattle.implicit_tiling.specs.Bits.{bit_of_bytes, digit_of_bytes}
use Rattle.bitstream.specs.Words.{IsWordOf}
use Rattle.bitstream.proofs.Parts.{digits_of_chunk, digits_of_rest}
use Rattle.bitstream.proofs.Search.{Holds, whole, none_more, first_more}
use Rattle.bitstream.proofs.words.first_one_by_words.Goals as goal

pub returns-then-word-ne0 : goal.returns-then-word-ne0
returns-then-word-ne0 c =
    let bytes = c.args.bytes.now in
    let i = c.loop-index.index in
    let w = c.word_of-word.result in
    let many : i < length bytes / 8 = omega arith in
    let holds = whole (digit_of_bytes bytes) (64 * i) w (omega arith) (digits_of_chunk bytes c.as_chunks.result.0.now i w c.as_chunks.ensures.front many c.word_of-word.ensures) in
    rw c.from.ensures (first_more bytes 0 (64 * i) 64 w holds (omega arith) c.loop-index.invariant (omega arith))

pub loop-index-preserved : goal.loop-index-preserved
loop-index-preserved c =
    let bytes = c.args.bytes.now in
    let i = c.loop-index.index in
    let w = c.word_of-word.result in
    let many : i < length bytes / 8 = omega arith in
    let holds = whole (digit_of_bytes bytes) (64 * i) w (omega arith) (digits_of_chunk bytes c.as_chunks.result.0.now i w c.as_chunks.ensures.front many c.word_of-word.ensures) in
    let next : 64 * (i + 1) ≡ 64 * i + 64 = omega arith in
    rw next (none_more bytes 0 (64 * i) 64 w holds c.loop-index.invariant c.if-word-ne0.false)

-- the digits of the word after the whole ones
last : (bytes rest : List ℕ) (w : ℕ) → rest ≡ drop (length bytes / 8 * 8) bytes → w < 2 ^ 64 → IsWordOf rest w → Holds (digit_of_bytes bytes) (64 * (length bytes / 8)) 64 w
last bytes rest w e fits word =
    let base : 8 * (length bytes / 8 * 8) ≡ 64 * (length bytes / 8) = omega arith in
    rw (← base) (whole (digit_of_bytes bytes) (8 * (length bytes / 8 * 8)) w fits (digits_of_rest bytes (length bytes / 8 * 8) w (rw e at word)))

pub returns-then-word-eq0 : goal.returns-then-word-eq0
returns-then-word-eq0 c =
    let bytes = c.args.bytes.now in
    let w = c.first_word-word.result in
    let holds = last bytes c.as_chunks.result.1.now w c.as_chunks.ensures.back (omega arith) c.first_word-word.ensures in
    let end : c.loop-index.index ≡ length bytes / 8 = omega (arith, c.as_chunks.ensures.front_len) in
    let none = rw end at c.loop-index.invariant in
    λ i low high. none_more bytes 0 (64 * (length bytes / 8)) 64 w holds none c.if-word-eq0.true i low (omega arith)

found : (bytes rest : List ℕ) (index words w t : ℕ) → rest ≡ drop (length bytes / 8 * 8) bytes → words ≡ length bytes / 8 → index ≡ words → w < 2 ^ 64 → IsWordOf rest w
    → HasNoOne (bit_of_bytes bytes) 0 (64 * index) → 0 < w → t ≡ trailing_zeros w64 w → IsFirstOne (bit_of_bytes bytes) 0 (8 * length bytes) (64 * words + t)
found bytes rest index words w t e count end fits word none some zeros =
    let start : index ≡ length bytes / 8 = end ∙ count in
    rw (zeros, count) (first_more bytes 0 (64 * (length bytes / 8)) 64 w (last bytes rest w e fits word) (omega arith) (rw start at none) some)

pub overflow_mul-result-2 : goal.overflow_mul-result-2
overflow_mul-result-2 c =
    let all = found c.args.bytes.now c.as_chunks.result.1.now c.loop-index.index (length c.as_chunks.result.0.now) c.first_word-word.result _ c.as_chunks.ensures.back c.as_chunks.ensures.front_len (omega arith)
    (omega arith) c.first_word-word.ensures c.loop-index.invariant (omega arith) refl in
    search (rules, all.high)

pub overflow_add-result-2 : goal.overflow_add-result-2
overflow_add-result-2 c =
    let all = found c.args.bytes.now c.as_chunks.result.1.now c.loop-index.index (length c.as_chunks.result.0.now) c.first_word-word.result c.from-2.result c.as_chunks.ensures.back c.as_chunks.ensures.front_len (omega arith)
    (omega arith) c.first_word-word.ensures c.loop-index.invariant (omega arith) c.from-2.ensures in
    search (rules, all.high)

pub returns : goal.returns
returns c =
    found c.args.bytes.now c.as_chunks.result.1.now c.loop-index.index (length c.as_chunks.result.0.now) c.first_word-word.result c.from-2.result c.as_chunks.ensures.back c.as_chunks.ensures.front_len (omega arith)
    (omega arith) c.first_word-word.ensures c.loop-index.invariant (omega arith) c.from-2.ensures
