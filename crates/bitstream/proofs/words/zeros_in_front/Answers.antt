use Rattle.std.proofs.Common.{◌≡◌, ◌∙◌, ℕ, ◌+◌, ◌-◌, ◌*◌, ◌/◌, ◌<◌, List, [], length, get_or, take, drop, inl, inr, refl, sym, ap, arith}
use Rattle.std.specs.Simd.{first_chunks}
use Rattle.std.proofs.lemmas.Bool.{cases_lt}
use Rattle.bitstream.specs.Bits.{HasNoOne}
use Rattle.implicit_tiling.specs.Bits.{bit_of_bytes}
use Rattle.bitstream.proofs.Digits.{chunk_at}
use Rattle.bitstream.proofs.Search.{bit_in-drop, bit-take}
use Rattle.bitstream.proofs.words.zeros_in_front.Goals as goal

-- one more block of zeros
more : (bytes : List ℕ) (blocks : List (List ℕ)) (q : ℕ) → blocks ≡ first_chunks 32 (length bytes / 32) bytes → q < length bytes / 32 → HasNoOne (bit_of_bytes bytes) 0 (256 * q)
    → HasNoOne (bit_of_bytes (get_or blocks q [])) 0 256 → HasNoOne (bit_of_bytes bytes) 0 (256 * (q + 1))
more bytes blocks q e lt before block i low high =
    let here : get_or blocks q [] ≡ take 32 (drop (32 * q) bytes) = ap (λ bs. get_or bs q []) e ∙ chunk_at 32 (length bytes / 32) bytes q [] lt in
    elim (cases_lt i (256 * q)) [
      | inl less ↦ before i low less
      | inr ge ↦
          let k : ℕ = i - 8 * (32 * q) in
          bit_in-drop (32 * q) bytes i (omega arith) ∙ bit-take 32 (drop (32 * q) bytes) k (omega arith) ∙ sym (ap (λ b. bit_of_bytes b k) here) ∙ block k (omega arith) (omega arith)
    ]

pub loop-index-preserved : goal.loop-index-preserved
loop-index-preserved c = more c.args.bytes.now c.as_chunks.result.0.now c.loop-index.index c.as_chunks.ensures.front (omega arith) c.loop-index.invariant (c.if-not-is_zero.ensures refl)
