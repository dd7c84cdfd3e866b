use Rattle.std.proofs.Common.{◌≡◌, ◌∙◌, ◌≤◌, true, length, ℕ, Bool, cond, take, replicate, sym, ap, arith}
use Rattle.std.proofs.lemmas.List.{take-replicate, length-replicate}
use Rattle.bitstream.specs.Bits.{ones_of}
use Rattle.bitstream.proofs.Lists.{length-bits_of_bytes, take-bits_of_bytes, ones_of-replicate}
use Rattle.bitstream.proofs.bits.Bits.ones.Goals as goal

-- the ones of a front of equal bits
front : (n count : ℕ) (bit : Bool) → n ≤ count → ones_of (take n (replicate count bit)) ≡ cond bit n 0
front n count bit h = ap ones_of (take-replicate n count bit h) ∙ ones_of-replicate n bit

pub returns-then-bit : goal.returns-then-bit
returns-then-bit c =
    let few = rw (← c.self.view_is, c.in-Constant.is) at c.requires in
    let within : c.args.n ≤ c.in-Constant.count = omega (arith, few, length-replicate c.in-Constant.count c.in-Constant.bit) in
    rw (← c.self.view_is, c.in-Constant.is, c.if-bit.true) (sym (front c.args.n c.in-Constant.count true within))

pub ones_in-requires : goal.ones_in-requires
ones_in-requires c =
    let many = rw c.in-Bytes.is at c.self.invariant in
    let few = rw (← c.self.view_is, c.in-Bytes.is) at c.requires in
    omega (arith, many, few, length-bits_of_bytes c.in-Bytes.bytes.items c.in-Bytes.count, ap length c.deref.ensures.value)

pub returns-in-Bytes : goal.returns-in-Bytes
returns-in-Bytes c =
    let few = rw (← c.self.view_is, c.in-Bytes.is) at c.requires in
    let bytes = c.in-Bytes.bytes.items in
    let within : c.args.n ≤ c.in-Bytes.count = omega (arith, few, length-bits_of_bytes bytes c.in-Bytes.count) in
    rw (← c.self.view_is, c.in-Bytes.is) ((rw c.deref.ensures.value at c.ones_in.ensures) ∙ ap ones_of (sym (take-bits_of_bytes bytes c.in-Bytes.count c.args.n within)))
