use Rattle.std.proofs.Common.{◌≡◌, ◌∙◌, ◌++◌, take, ap, arith}
use Rattle.bitstream.specs.Bits.{bits_of_bytes}
use Rattle.bitstream.specs.Bytes.{bytes_filled}
use Rattle.bitstream.proofs.Bytes.{have_front, appended_whole, appended_cut}
use Rattle.bitstream.proofs.append.append_front.Goals as goal

pub returns-then-count-gt0-clause-ok : goal.returns-then-count-gt0-clause-ok
returns-then-count-gt0-clause-ok c =
    let bytes = c.args.bytes.now in
    let count = c.args.count in
    let filled : c.div_ceil.result ≡ bytes_filled count = omega (arith, c.div_ceil.ensures) in
    let extended = c.in_ok-extend_from_slice.ensures.items ∙ ap (λ n. c.args.out.now.items ++ take n bytes) filled in
    appended_cut c.args.out.now.items (take (bytes_filled count) bytes) c.extend_from_slice.new.self.items c.keep_lowest.new.out.items (bits_of_bytes bytes count) count
    (have_front bytes count c.requires (λ k. omega (arith, c.type_inv.bytes k))) c.if-count-gt0.true extended c.keep_lowest.ensures

pub returns-else-count-gt0-clause-ok : goal.returns-else-count-gt0-clause-ok
returns-else-count-gt0-clause-ok c =
    let bytes = c.args.bytes.now in
    let count = c.args.count in
    let filled : c.div_ceil.result ≡ bytes_filled count = omega (arith, c.div_ceil.ensures) in
    c.in_ok-extend_from_slice.ensures.items ∙ ap (λ n. c.args.out.now.items ++ take n bytes) filled
    ∙ appended_whole c.args.out.now.items (take (bytes_filled count) bytes) (bits_of_bytes bytes count) count (have_front bytes count c.requires (λ k. omega (arith, c.type_inv.bytes k))) c.if-count-gt0.false
