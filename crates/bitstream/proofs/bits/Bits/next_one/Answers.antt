use Rattle.std.proofs.Common.{◌≤◌, length, ap, arith}
use Rattle.bitstream.specs.Bits.{bits_of_bytes}
use Rattle.implicit_tiling.specs.Bits.{bit_at, bit_of_bytes}
use Rattle.bitstream.proofs.Lists.{length-bits_of_bytes, bit_at-bits_of_bytes}
use Rattle.bitstream.proofs.Search.{match_same}
use Rattle.bitstream.proofs.bits.Bits.next_one.Goals as goal

pub first_one_in-requires-clause-within : goal.first_one_in-requires-clause-within
first_one_in-requires-clause-within c =
    let many = rw c.in-Bytes.is at c.self.invariant in
    let few = rw (← c.self.view_is, c.in-Bytes.is) at c.requires.within in
    omega (arith, many, few, length-bits_of_bytes c.in-Bytes.bytes.items c.in-Bytes.count, ap length c.deref.ensures.value)

pub returns-in-Bytes : goal.returns-in-Bytes
returns-in-Bytes c =
    let few = rw (← c.self.view_is, c.in-Bytes.is) at c.requires.within in
    let bytes = c.in-Bytes.bytes.items in
    let count = c.in-Bytes.count in
    let within : c.args.to ≤ count = omega (arith, few, length-bits_of_bytes bytes count) in
    let found = rw c.deref.ensures.value at c.first_one_in.ensures in
    rw (← c.self.view_is, c.in-Bytes.is)
    (match_same (bit_of_bytes bytes) (bit_at (bits_of_bytes bytes count)) c.args.from c.args.to c.first_one_in.result (λ i h. bit_at-bits_of_bytes bytes count i (omega arith)) found)
