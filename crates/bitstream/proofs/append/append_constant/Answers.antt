use Rattle.std.proofs.Common.{◌≡◌, ◌∙◌, ℕ, ◌+◌, ◌-◌, ◌++◌, List, Bool, cond, length, take, replicate, vec_len, ap, ap₂, arith}
use Rattle.std.proofs.lemmas.List.{take_all}
use Rattle.bitstream.specs.Bytes.{bytes_filled}
use Rattle.bitstream.proofs.Bytes.{have_constant, appended_whole, appended_cut}
use Rattle.bitstream.proofs.append.append_constant.Goals as goal
use Rattle.bitstream.proofs.append.append_constant.Goals.{then-bit, else-bit}

-- what a longer size leaves and adds
grown : (old : List ℕ) (size len filled count byte : ℕ) (bit : Bool) → size ≡ length old → len ≡ size → filled ≡ bytes_filled count → byte ≡ cond bit 255 0
    → take (len + filled) old ++ replicate (len + filled - size) byte ≡ old ++ replicate (bytes_filled count) (cond bit 255 0)
grown old size len filled count byte bit all long many is =
    let more : len + filled - size ≡ bytes_filled count = omega arith in
    ap₂ (λ xs n. xs ++ replicate n byte) (take_all (len + filled) old (omega arith)) more ∙ ap (λ b. old ++ replicate (bytes_filled count) b) is

pub returns-then-count-gt0-clause-ok : goal.returns-then-count-gt0-clause-ok
returns-then-count-gt0-clause-ok c =
    let count = c.args.count in
    let bit = c.args.bit in
    let byte : c.if-bit.byte ≡ cond bit 255 0 = elim c.if-bit.branch [ then-bit w ↦ (rw w.if-bit.true w.byte-is) | else-bit w ↦ (rw w.if-bit.false w.byte-is) ] in
    let extended = c.in_ok-resize.ensures.items ∙ grown c.args.out.now.items (vec_len c.args.out.now) c.len.result c.div_ceil.result count c.if-bit.byte bit (omega (arith, c.args.out.now.ok)) c.len.ensures (omega (arith, c.div_ceil.ensures)) byte in
    appended_cut c.args.out.now.items (replicate (bytes_filled count) (cond bit 255 0)) c.resize.new.self.items c.keep_lowest.new.out.items (replicate count bit) count
    (have_constant bit count) c.if-count-gt0.true extended c.keep_lowest.ensures

pub returns-else-count-gt0-clause-ok : goal.returns-else-count-gt0-clause-ok
returns-else-count-gt0-clause-ok c =
    let count = c.args.count in
    let bit = c.args.bit in
    let byte : c.if-bit.byte ≡ cond bit 255 0 = elim c.if-bit.branch [ then-bit w ↦ (rw w.if-bit.true w.byte-is) | else-bit w ↦ (rw w.if-bit.false w.byte-is) ] in
    c.in_ok-resize.ensures.items ∙ grown c.args.out.now.items (vec_len c.args.out.now) c.len.result c.div_ceil.result count c.if-bit.byte bit (omega (arith, c.args.out.now.ok)) c.len.ensures (omega (arith, c.div_ceil.ensures)) byte
    ∙ appended_whole c.args.out.now.items (replicate (bytes_filled count) (cond bit 255 0)) (replicate count bit) count (have_constant bit count) c.if-count-gt0.false
