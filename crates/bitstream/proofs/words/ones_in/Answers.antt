use Rattle.std.proofs.Common.{rules, ◌≡◌, ◌∙◌, ℕ, ◌+◌, ◌-◌, ◌*◌, ◌/◌, ◌%◌, ◌^◌, ◌<◌, ◌≤◌, [], length, bit_and, sym, ap, arith, length-take}
use Rattle.std.specs.Int.{bit_at}
use Rattle.std.specs.Int.Count.{ones}
use Rattle.std.proofs.lemmas.List.{get_or-take}
use Rattle.std.proofs.lemmas.Nat.{one_shl, and_mask, ones-le, mod_below, pow_pos}
use Rattle.implicit_tiling.specs.Bits.{digit_of_bytes}
use Rattle.bitstream.proofs.Ones.{count_below, ones_more, ones-bits_of_bytes}
use Rattle.bitstream.proofs.Parts.{digits_of_chunk, digits_of_tail}
use Rattle.bitstream.proofs.words.ones_in.Goals as goal

-- the word under the mask of its k lowest digits
masked : (w k : ℕ) → k < 64 → bit_and w (1 * 2 ^ k % 18446744073709551616 - 1) ≡ w % 2 ^ k
masked w k h = ap (λ m. bit_and w (m - 1)) (one_shl k 64 h) ∙ and_mask w k

masked_ones : (w k n : ℕ) → k < 64 → n ≡ ones (bit_and w (1 * 2 ^ k % 18446744073709551616 - 1)) → (n ≡ ones (w % 2 ^ k)) × (n ≤ k)
masked_ones w k n h e =
    let same = e ∙ ap ones (masked w k h) in
    (same, omega (arith, same, ones-le k (w % 2 ^ k) (mod_below w (2 ^ k) (pow_pos k))))

whole_ones : (f : ℕ → ℕ) (base w : ℕ) → w < 2 ^ 64 → ((j : ℕ) → j < 64 → bit_at w j ≡ f (base + j)) → count_below f base + ones w ≡ count_below f (base + 64)
whole_ones f base w fits same = let e : w % 2 ^ 64 ≡ w = omega arith in ap (λ v. count_below f base + ones v) (sym e) ∙ ones_more f base 64 w (omega arith) same

pub loop-word-preserved : goal.loop-word-preserved
loop-word-preserved c =
    let i = c.loop-word.word-index in
    let words = c.as_chunks.result.0.now in
    let bytes = c.args.bytes.now in
    let lt : i < c.args.n / 64 = omega (arith, c.loop-word-test.true, length-take (c.args.n / 64) words) in
    let many : i < length bytes / 8 = omega arith in
    let word = rw (get_or-take (c.args.n / 64) words i [] lt) at c.word_of.ensures in
    let next : 64 * (i + 1) ≡ 64 * i + 64 = omega arith in
    record {
      counted = ap (λ k. k + c.from-ones.result) c.loop-word.invariant.counted ∙ ap (λ k. count_below (digit_of_bytes bytes) (64 * i) + k) c.from-ones.ensures
          ∙ whole_ones (digit_of_bytes bytes) (64 * i) c.word_of.result (omega arith) (digits_of_chunk bytes words i c.word_of.result c.as_chunks.ensures.front many word)
          ∙ ap (count_below (digit_of_bytes bytes)) (sym next);
      few = omega (arith, c.loop-word.invariant.few, c.from-ones.ensures, ones-le 64 c.word_of.result (omega arith));
    }

pub overflow_add-result : goal.overflow_add-result
overflow_add-result c =
    let words = c.as_chunks.result.0.now in
    let last = masked_ones c.first_word.result (c.args.n % 64) c.from.result (omega arith) c.from.ensures in
    let end : c.loop-word.word-index ≤ c.args.n / 64 = omega (arith, c.loop-word.auto.word-index-end, length-take (c.args.n / 64) words) in
    search (rules, last.1, end, c.loop-word.invariant.few)

pub returns : goal.returns
returns c =
    let i = c.args.n / 64 in
    let bytes = c.args.bytes.now in
    let words = c.as_chunks.result.0.now in
    let last = masked_ones c.first_word.result (c.args.n % 64) c.from.result (omega arith) c.from.ensures in
    let end : c.loop-word.word-index ≡ i = omega (arith, c.loop-word.auto.word-index-end, c.loop-word-test.false, length-take i words, c.as_chunks.ensures.front_len) in
    let base : 8 * (8 * i) ≡ 64 * i = omega arith in
    let n : 64 * i + c.args.n % 64 ≡ c.args.n = omega arith in
    let digits = rw base at (digits_of_tail bytes (8 * i) c.first_word.result c.first_word.ensures) in
    ap (λ k. k + c.from.result) (c.loop-word.invariant.counted ∙ ap (λ k. count_below (digit_of_bytes bytes) (64 * k)) end)
    ∙ ap (λ k. count_below (digit_of_bytes bytes) (64 * i) + k) last.0
    ∙ ones_more (digit_of_bytes bytes) (64 * i) (c.args.n % 64) c.first_word.result (omega arith) digits
    ∙ ap (count_below (digit_of_bytes bytes)) n ∙ sym (ones-bits_of_bytes bytes c.args.n)
