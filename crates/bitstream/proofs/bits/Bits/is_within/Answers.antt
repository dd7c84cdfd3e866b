use Rattle.std.proofs.Common.{◌≤◌, length, ap, arith}
use Rattle.std.proofs.lemmas.List.{length-replicate}
use Rattle.bitstream.specs.Bits.{bits_of_bytes}
use Rattle.implicit_tiling.specs.Bits.{bit_at, bit_of_bytes}
use Rattle.bitstream.proofs.Lists.{length-bits_of_bytes, bit_at-bits_of_bytes}
use Rattle.bitstream.proofs.Full.{full_answers, same_answer}
use Rattle.bitstream.proofs.bits.Bits.is_within.Goals as goal

pub has_all_of-requires-clause-own : goal.has_all_of-requires-clause-own
has_all_of-requires-clause-own c =
    let many = rw c.in-Bytes-Bytes.is-0 at c.self.invariant in
    let few = rw (← c.self.view_is, c.in-Bytes-Bytes.is-0) at c.requires.own in
    omega (arith, many, few, length-bits_of_bytes c.in-Bytes-Bytes.bytes.items c.in-Bytes-Bytes.count-0, ap length c.deref-in-Bytes-Bytes.ensures.value)

pub has_all_of-requires-clause-others : goal.has_all_of-requires-clause-others
has_all_of-requires-clause-others c =
    let many = rw c.in-Bytes-Bytes.is-1 at c.other.invariant in
    let few = rw (← c.other.view_is, c.in-Bytes-Bytes.is-1) at c.requires.others in
    omega (arith, many, few, length-bits_of_bytes c.in-Bytes-Bytes.others.items c.in-Bytes-Bytes.count-1, ap length c.deref.ensures.value)

pub returns-else-not-bit : goal.returns-else-not-bit
returns-else-not-bit c =
    let few = rw (← c.self.view_is, c.in-Constant-default.is-0) at c.requires.own in
    let within : c.args.n ≤ c.in-Constant-default.count-0 = omega (arith, few, length-replicate c.in-Constant-default.count-0 c.in-Constant-default.bit) in
    rw (← c.self.view_is, c.in-Constant-default.is-0, c.if-not-bit.false)
    (full_answers c.args.other.now c.in-Constant-default.count-0 c.args.n c.ones.result within c.requires.others c.ones.ensures)

pub returns-in-Bytes-Bytes : goal.returns-in-Bytes-Bytes
returns-in-Bytes-Bytes c =
    let own = rw (← c.self.view_is, c.in-Bytes-Bytes.is-0) at c.requires.own in
    let others = rw (← c.other.view_is, c.in-Bytes-Bytes.is-1) at c.requires.others in
    let bytes = c.in-Bytes-Bytes.bytes.items in
    let more = c.in-Bytes-Bytes.others.items in
    let count = c.in-Bytes-Bytes.count-0 in
    let counted = c.in-Bytes-Bytes.count-1 in
    let within : c.args.n ≤ count = omega (arith, own, length-bits_of_bytes bytes count) in
    let inside : c.args.n ≤ counted = omega (arith, others, length-bits_of_bytes more counted) in
    let found = rw (c.deref.ensures.value, c.deref-in-Bytes-Bytes.ensures.value) at c.has_all_of.ensures in
    rw (← c.self.view_is, c.in-Bytes-Bytes.is-0, ← c.other.view_is, c.in-Bytes-Bytes.is-1)
    (same_answer (bit_of_bytes bytes) (bit_of_bytes more) (bit_at (bits_of_bytes bytes count)) (bit_at (bits_of_bytes more counted)) c.args.n c.has_all_of.result
    (λ i h. bit_at-bits_of_bytes bytes count i (omega arith)) (λ i h. bit_at-bits_of_bytes more counted i (omega arith)) found)
