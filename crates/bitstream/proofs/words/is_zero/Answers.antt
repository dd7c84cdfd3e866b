use Rattle.std.proofs.Common.{◌≡◌, ℕ, ◌+◌, ◌*◌, ◌/◌, ◌^◌, ◌<◌, List, [], length, get_or, bit_or, nat_eq, arith}
use Rattle.std.specs.Bool.{IsTrue}
use Rattle.std.proofs.lemmas.Bool.Decides.{Decides-eqb}
use Rattle.std.specs.Simd.{first_chunks}
use Rattle.std.proofs.lemmas.Nat.{le_or_l, le_or_r}
use Rattle.bitstream.specs.Bits.{HasNoOne}
use Rattle.implicit_tiling.specs.Bits.{bit_of_bytes, digit_of_bytes}
use Rattle.bitstream.specs.Words.{IsWordOf}
use Rattle.bitstream.proofs.Parts.{digits_of_chunk}
use Rattle.bitstream.proofs.Search.{whole, none_more}
use Rattle.bitstream.proofs.words.is_zero.Goals as goal

zero_parts : (a b : ℕ) → bit_or a b ≡ 0 → (a ≡ 0) × (b ≡ 0)
zero_parts a b e = (omega (arith, le_or_l a b), omega (arith, le_or_r a b))

four_zeros : (a b c d : ℕ) → IsTrue (nat_eq (bit_or (bit_or (bit_or a b) c) d) 0) → (a ≡ 0) × (b ≡ 0) × (c ≡ 0) × (d ≡ 0)
four_zeros a b c d h =
    let last = zero_parts (bit_or (bit_or a b) c) d ((Decides-eqb (bit_or (bit_or (bit_or a b) c) d) 0).0 h) in
    let third = zero_parts (bit_or a b) c last.0 in
    let second = zero_parts a b third.0 in
    (second.0, second.1, third.1, last.1)

-- one more word that is 0
more : (block : List ℕ) (words : List (List ℕ)) (q w : ℕ) → words ≡ first_chunks 8 (length block / 8) block → q < length block / 8 → w < 2 ^ 64 → IsWordOf (get_or words q []) w → w ≡ 0
    → HasNoOne (bit_of_bytes block) 0 (64 * q) → HasNoOne (bit_of_bytes block) 0 (64 * q + 64)
more block words q w e lt fits word zeros before =
    none_more block 0 (64 * q) 64 w (whole (digit_of_bytes block) (64 * q) w fits (digits_of_chunk block words q w e lt word)) before zeros

pub returns : goal.returns
returns c = λ h.
    let block = c.args.block in
    let words = c.as_chunks.result.0.now in
    let front = c.as_chunks.ensures.front in
    let zeros = four_zeros c.word_of.result c.word_of-2.result c.word_of-3.result c.word_of-4.result h in
    let first = more block words 0 c.word_of.result front (omega arith) (omega arith) c.word_of.ensures zeros.0 (λ i low high. absurd (omega arith)) in
    let second = more block words 1 c.word_of-2.result front (omega arith) (omega arith) c.word_of-2.ensures zeros.1 first in
    let third = more block words 2 c.word_of-3.result front (omega arith) (omega arith) c.word_of-3.ensures zeros.2 second in
    more block words 3 c.word_of-4.result front (omega arith) (omega arith) c.word_of-4.ensures zeros.3 third
