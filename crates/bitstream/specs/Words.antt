-- For proofs and inner functions: words of 64 bits (this project's own).
use Rattle.std.specs.Prelude.{◌≡◌, ℕ, ◌/◌, ◌%◌, ◌^◌, ◌<◌, List, ◌+◌, ◌==◌, Bool}
use Rattle.implicit_tiling.specs.Bits.{digit_of_bytes, bit_at}

-- bit i of the word is bit i of the bytes; bits past their end are 0
pub record IsWordOf (bytes : List ℕ) (word : ℕ) : Type 0 where
  pub digits : (i : ℕ) → i < 64 → word / 2 ^ i % 2 ≡ digit_of_bytes bytes i

-- digit i of the word is digit from + i of the others
abbrev pub HasDigits : (ℕ → ℕ) → ℕ → ℕ → Type 0
HasDigits digit from word = (i : ℕ) → i < 64 → word / 2 ^ i % 2 ≡ digit (from + i)

-- bit i of the word is bit from + i of the bits; bits past their end are 0
pub record IsWordFrom (bits : List Bool) (from word : ℕ) : Type 0 where
  pub digits : (i : ℕ) → i < 64 → (word / 2 ^ i % 2 == 1) ≡ bit_at bits (from + i)
