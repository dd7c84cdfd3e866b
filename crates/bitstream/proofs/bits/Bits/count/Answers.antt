use Rattle.std.proofs.Common.{sym}
use Rattle.bitstream.proofs.Lists.{length-bits_of_bytes}
use Rattle.bitstream.proofs.bits.Bits.count.Goals as goal

pub returns-in-Bytes : goal.returns-in-Bytes
returns-in-Bytes c = rw (← c.self.view_is, c.in-Bytes.is) (sym (length-bits_of_bytes c.in-Bytes.bytes.items c.in-Bytes.count))
