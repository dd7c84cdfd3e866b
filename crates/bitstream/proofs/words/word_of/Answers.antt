use Rattle.std.proofs.Common.{rules}
use Rattle.bitstream.proofs.Digits.{word_of_bytes}
use Rattle.bitstream.proofs.words.word_of.Goals as goal

pub returns : goal.returns
returns c = rw c.from_le_bytes.ensures (word_of_bytes c.args.bytes (search rules))
