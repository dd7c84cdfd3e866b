-- The word is of eight of nine bytes, and two words hold them.
use Rattle.std.proofs.Common.{rules, ◌≡◌, ◌∙◌, ℕ, ◌+◌, ◌*◌, ◌/◌, ◌%◌, ◌^◌, ◌<◌, bit_and, bit_or, ap, arith}
use Rattle.std.specs.Int.{bit_at}
use Rattle.std.proofs.lemmas.Nat.{and_le_r}
use Rattle.implicit_tiling.specs.Bits.{digit_of_bytes}
use Rattle.bitstream.proofs.Parts.{digits_of_tail}
use Rattle.bitstream.proofs.Front.{behind_digits, digits_past}
use Rattle.bitstream.proofs.words.word_at.Goals as goal

pub overflow_cast-result-2 : goal.overflow_cast-result-2
overflow_cast-result-2 c =
    let both = bit_or (c.from.result * 2 ^ 64 % 2 ^ 128) c.from-2.result / 2 ^ (c.args.from % 8) in
    let less : bit_and both c.from-3.result < 2 ^ 64 = omega (arith, and_le_r both c.from-3.result, c.from-3.ensures) in
    search (rules, less)

pub returns : goal.returns
returns c = λ i h.
    let bytes = c.args.bytes.now in
    let q = c.args.from / 8 in
    let k = c.args.from % 8 in
    let low = c.first_word-low.result in
    let high = c.first_word-high.result in
    let next : (j : ℕ) → 8 * (q + 8) + j ≡ 8 * q + 64 + j = λ j. omega arith in
    let place : 8 * q + k + i ≡ c.args.from + i = omega arith in
    ap (λ n. bit_at (bit_and (bit_or (n * 2 ^ 64 % 2 ^ 128) c.from-2.result / 2 ^ k) c.from-3.result) i) c.from.ensures
    ∙ ap (λ n. bit_at (bit_and (bit_or (high * 2 ^ 64 % 2 ^ 128) n / 2 ^ k) c.from-3.result) i) c.from-2.ensures
    ∙ ap (λ n. bit_at (bit_and (bit_or (high * 2 ^ 64 % 2 ^ 128) low / 2 ^ k) n) i) c.from-3.ensures
    ∙ behind_digits (digit_of_bytes bytes) (8 * q) k low high (omega arith) (omega arith) (omega arith)
    (digits_past bytes q c.min.result low c.min.ensures (digits_of_tail bytes c.min.result low c.first_word-low.ensures))
    (λ j few. digits_past bytes (q + 8) c.min-2.result high c.min-2.ensures (digits_of_tail bytes c.min-2.result high c.first_word-high.ensures) j few ∙ ap (digit_of_bytes bytes) (next j))
    i h
    ∙ ap (digit_of_bytes bytes) place
