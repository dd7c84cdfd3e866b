use Rattle.std.proofs.Common.{◌∙◌, ◌/◌, ◌%◌, ◌<◌, eqb, sym, ap, arith}
use Rattle.std.specs.Int.{bit_at}
use Rattle.std.proofs.lemmas.Nat.Bits.{shr_and_one}
use Rattle.std.proofs.lemmas.Grind.{get_or_default_zero}
use Rattle.bitstream.proofs.Lists.{length-bits_of_bytes, bit_at-bits_of_bytes}
use Rattle.bitstream.proofs.bits.Bits.get.Goals as goal

pub index-requires : goal.index-requires
index-requires c =
    let many = rw c.in-Bytes.is at c.self.invariant in
    let few = rw (← c.self.view_is, c.in-Bytes.is) at c.requires in
    omega (arith, many, few, length-bits_of_bytes c.in-Bytes.bytes.items c.in-Bytes.count, c.in-Bytes.bytes.ok)

pub returns-in-Bytes : goal.returns-in-Bytes
returns-in-Bytes c =
    let many = rw c.in-Bytes.is at c.self.invariant in
    let few = rw (← c.self.view_is, c.in-Bytes.is) at c.requires in
    let bytes = c.in-Bytes.bytes.items in
    let i = c.args.i in
    let short : i < c.in-Bytes.count = omega (arith, few, length-bits_of_bytes bytes c.in-Bytes.count) in
    let byte = c.index.ensures ∙ get_or_default_zero bytes (i / 8) c.index.result.now (omega (arith, many)) in
    rw (← c.self.view_is, c.in-Bytes.is)
    (ap (λ d. eqb d 1) (shr_and_one c.index.result.now (i % 8) ∙ ap (λ b. bit_at b (i % 8)) byte) ∙ sym (bit_at-bits_of_bytes bytes c.in-Bytes.count i short))
