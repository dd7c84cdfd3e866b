use Rattle.std.proofs.Common.{◌∙◌, ◌-◌, ◌^◌, ◌≤◌, bit_and, sym, ap, arith}
use Rattle.std.proofs.Math.Nat.{mod-eq_of_lt, pow-le-pow_right}
use Rattle.std.proofs.lemmas.Nat.{one_shl, and_mask}
use Rattle.bitstream.proofs.words.low_bits.Goals as goal

pub returns-then-count-ge64 : goal.returns-then-count-ge64
returns-then-count-ge64 c =
    let wide : 2 ^ 64 ≤ 2 ^ c.args.count = pow-le-pow_right (omega arith) c.if-count-ge64.true in
    sym (mod-eq_of_lt (omega (arith, wide)))

pub returns : goal.returns
returns c = ap (λ m. bit_and c.args.word (m - 1)) (one_shl c.args.count 64 c.if-count-ge64.false) ∙ and_mask c.args.word c.args.count
