-- Which digits the word of a part of some bytes has.
use Rattle.std.proofs.Common.{◌≡◌, ◌∙◌, ℕ, ◌+◌, ◌-◌, ◌*◌, ◌/◌, ◌<◌, List, [], length, get_or, take, drop, ap, arith}
use Rattle.std.specs.Int.{bit_at}
use Rattle.std.specs.Simd.{first_chunks}
use Rattle.std.proofs.lemmas.List.{take_rest}
use Rattle.implicit_tiling.specs.Bits.{digit_of_bytes}
use Rattle.bitstream.specs.Words.{IsWordOf}
use Rattle.bitstream.proofs.Digits.{chunk_at, digit-take, digit-drop}

-- of the bytes from place q on
pub digits_of_rest : (bytes : List ℕ) (q w : ℕ) → IsWordOf (drop q bytes) w → (j : ℕ) → j < 64 → bit_at w j ≡ digit_of_bytes bytes (8 * q + j)
digits_of_rest bytes q w word j few = word.digits j few ∙ digit-drop q bytes j

pub digits_of_tail : (bytes : List ℕ) (q w : ℕ) → IsWordOf (take (length bytes - q) (drop q bytes)) w → (j : ℕ) → j < 64 → bit_at w j ≡ digit_of_bytes bytes (8 * q + j)
digits_of_tail bytes q w word = digits_of_rest bytes q w (rw (take_rest bytes q) at word)

-- of chunk q
pub digits_of_chunk : (bytes : List ℕ) (words : List (List ℕ)) (q w : ℕ) → words ≡ first_chunks 8 (length bytes / 8) bytes → q < length bytes / 8 → IsWordOf (get_or words q []) w
    → (j : ℕ) → j < 64 → bit_at w j ≡ digit_of_bytes bytes (64 * q + j)
digits_of_chunk bytes words q w e lt word j few =
    let place : 8 * (8 * q) + j ≡ 64 * q + j = omega arith in
    word.digits j few
    ∙ ap (λ b. digit_of_bytes b j) (ap (λ ws. get_or ws q []) e ∙ chunk_at 8 (length bytes / 8) bytes q [] lt)
    ∙ digit-take 8 (drop (8 * q) bytes) j (omega arith) ∙ digit-drop (8 * q) bytes j ∙ ap (digit_of_bytes bytes) place
