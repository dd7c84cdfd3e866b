-- For proofs and inner functions: bytes by the places of their ones (this project's own).
use Rattle.std.specs.Prelude.{◌≡◌, ℕ, ◌<◌, ◌==◌, List, length}
use Rattle.std.specs.List.{list_any}
use Rattle.implicit_tiling.specs.Bits.{bit_of_bytes}
use Rattle.bitstream.specs.Bytes.{bytes_filled}

-- as few bytes as `count` bits fill, of which those at the places are 1 and the others are 0
pub record HasOnesAt (bytes : List ℕ) (count : ℕ) (places : List ℕ) : Type 0 where
  pub filled : length bytes ≡ bytes_filled count
  pub bits : (i : ℕ) → i < count → bit_of_bytes bytes i ≡ list_any (λ p. p == i) places
