use Rattle.std.proofs.Common.{◌∙◌, ◌-◌, ap}
use Rattle.bitstream.proofs.Front.{word_of_ones, word_of_front}
use Rattle.bitstream.proofs.bits.Bits.word_from.Goals as goal

pub returns-in-Bytes : goal.returns-in-Bytes
returns-in-Bytes c =
    let bytes = c.in-Bytes.bytes.items in
    let count = c.in-Bytes.count in
    let left = rw (← c.self.view_is, c.in-Bytes.is) at (c.saturating_sub-left.ensures ∙ ap (λ n. n - c.args.from) c.count.ensures) in
    let digits = rw c.deref.ensures.value at c.word_at.ensures in
    rw (c.low_bits-in-Bytes.ensures, ← c.self.view_is, c.in-Bytes.is) (word_of_front bytes count c.args.from c.saturating_sub-left.result c.word_at.result left digits)

pub returns-then-bit : goal.returns-then-bit
returns-then-bit c =
    let count = c.in-Constant.count in
    let left = rw (← c.self.view_is, c.in-Constant.is, c.if-bit.true) at (c.saturating_sub-left.ensures ∙ ap (λ n. n - c.args.from) c.count.ensures) in
    rw (c.low_bits.ensures, ← c.self.view_is, c.in-Constant.is, c.if-bit.true) (word_of_ones count c.args.from c.saturating_sub-left.result left)
