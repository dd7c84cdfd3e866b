use Rattle.std.proofs.Common.{rules, ◌≡◌, ℕ, ◌+◌, ◌-◌, ◌*◌, ◌/◌, ◌%◌, ◌^◌, ◌<◌, Bool, List, length, take, drop, arith, w64}
use Rattle.std.specs.Int.{trailing_zeros}
use Rattle.std.proofs.lemmas.List.{take_rest}
use Rattle.bitstream.specs.Bits.{HasNoOne, IsFirstOne}
use Rattle.implicit_tiling.specs.Bits.{bit_of_bytes, digit_of_bytes}
use Rattle.bitstream.specs.Words.{IsWordOf}
use Rattle.bitstream.proofs.Parts.{digits_of_tail}
use Rattle.bitstream.proofs.Search.{Holds, shifted, none_more, first_more, none_after, first_after}
use Rattle.bitstream.proofs.words.first_one_from.Goals as goal

-- the digits of the first word without those before `from`
head : (bytes : List ℕ) (from w : ℕ) → w < 2 ^ 64 → IsWordOf (take (length bytes - from / 8) (drop (from / 8) bytes)) w → Holds (digit_of_bytes bytes) from (64 - from % 8) (w / 2 ^ (from % 8))
head bytes from w fits word = shifted (digit_of_bytes bytes) (8 * (from / 8)) (from % 8) from w (omega arith) (omega arith) fits (digits_of_tail bytes (from / 8) w word)

-- no place is below `from` and at least `from`
before : (bit : ℕ → Bool) (from : ℕ) → HasNoOne bit from from
before bit from i low high = absurd (omega arith)

in_head : (bytes : List ℕ) (from w t : ℕ) → w < 2 ^ 64 → IsWordOf (take (length bytes - from / 8) (drop (from / 8) bytes)) w → 0 < w / 2 ^ (from % 8) → t ≡ trailing_zeros w64 (w / 2 ^ (from % 8))
    → IsFirstOne (bit_of_bytes bytes) from (8 * length bytes) (from + t)
in_head bytes from w t fits word some zeros =
    rw zeros (first_more bytes from from (64 - from % 8) (w / 2 ^ (from % 8)) (head bytes from w fits word) (omega arith) (before (bit_of_bytes bytes) from) some)

none_in_head : (bytes : List ℕ) (from w : ℕ) → w < 2 ^ 64 → IsWordOf (take (length bytes - from / 8) (drop (from / 8) bytes)) w → w / 2 ^ (from % 8) ≡ 0 → HasNoOne (bit_of_bytes bytes) from (8 * (from / 8 + 8))
none_in_head bytes from w fits word none =
    let end : from + (64 - from % 8) ≡ 8 * (from / 8 + 8) = omega arith in
    rw (← end) (none_more bytes from from (64 - from % 8) (w / 2 ^ (from % 8)) (head bytes from w fits word) (before (bit_of_bytes bytes) from) none)

pub overflow_add-result : goal.overflow_add-result
overflow_add-result c =
    let all = in_head c.args.bytes.now c.args.from c.first_word.result c.from.result (omega arith) c.first_word.ensures (omega arith) c.from.ensures in
    search (rules, all.high)

pub returns-then-word-ne0 : goal.returns-then-word-ne0
returns-then-word-ne0 c = in_head c.args.bytes.now c.args.from c.first_word.result c.from.result (omega arith) c.first_word.ensures (omega arith) c.from.ensures

pub returns-then-bytes-next : goal.returns-then-bytes-next
returns-then-bytes-next c = λ i low high.
    none_in_head c.args.bytes.now c.args.from c.first_word.result (omega arith) c.first_word.ensures c.if-word-ne0.false i low (omega (arith, c.if-bytes-next.true))

pub returns-in_err-place : goal.returns-in_err-place
returns-in_err-place c =
    let bytes = c.args.bytes.now in
    let next = c.args.from / 8 + 8 in
    let none = none_in_head bytes c.args.from c.first_word.result (omega arith) c.first_word.ensures c.if-word-ne0.false in
    rw c.from_residual.ensures (none_after bytes next c.args.from none (rw (take_rest bytes next) at c.in_err-place.ensures))

pub returns : goal.returns
returns c =
    let bytes = c.args.bytes.now in
    let next = c.args.from / 8 + 8 in
    let none = none_in_head bytes c.args.from c.first_word.result (omega arith) c.first_word.ensures c.if-word-ne0.false in
    first_after bytes next c.args.from c.in_ok-place.place (omega arith) none (rw (take_rest bytes next) at c.in_ok-place.ensures)
