use Rattle.std.proofs.Common.{◌≡◌, ◌∙◌, ◌-◌, ◌*◌, ◌%◌, ◌^◌, ◌<◌, length, get_or, set, bit_and, ap, arith}
use Rattle.std.proofs.lemmas.Nat.{and_mask}
use Rattle.std.proofs.lemmas.Grind.{get_or_default_zero}
use Rattle.bitstream.proofs.Bytes.{low_mask}
use Rattle.bitstream.proofs.append.keep_lowest.Goals as goal

pub returns : goal.returns
returns c =
    let bytes = c.args.out.now.items in
    let used = c.args.used in
    let byte = c.index_mut.result.now in
    let last : c.len-last.result ≡ length bytes = omega (arith, c.len-last.ensures, c.args.out.now.ok) in
    let lt : length bytes - 1 < length bytes = omega (arith, c.requires.some, c.args.out.now.ok) in
    let stood = c.index_mut.ensures.value ∙ ap (λ n. get_or bytes (n - 1) byte) last ∙ get_or_default_zero bytes (length bytes - 1) byte lt in
    ap (λ n. set bytes (n - 1) (bit_and byte (1 * 2 ^ used % 256 - 1))) last
    ∙ ap (λ m. set bytes (length bytes - 1) (bit_and byte (m - 1))) (low_mask used c.requires.few)
    ∙ ap (λ b. set bytes (length bytes - 1) b) (and_mask byte used)
    ∙ ap (λ b. set bytes (length bytes - 1) (b % 2 ^ used)) stood
