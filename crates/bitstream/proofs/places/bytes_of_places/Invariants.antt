use Rattle.std.proofs.Common.{◌≡◌, ℕ, ◌<◌, eqb, take, length}
use Rattle.std.specs.List.{list_any}
use Rattle.implicit_tiling.specs.Bits.{bit_of_bytes}
use Rattle.bitstream.specs.Bytes.{bytes_filled}
use Rattle.bitstream.proofs.places.bytes_of_places.Given as goal

abbrev pub invariant-loop-place : goal.invariant-loop-place
invariant-loop-place l = record {
  filled : length l.bytes.items ≡ bytes_filled l.count;
  bits : (i : ℕ) → i < l.count → bit_of_bytes l.bytes.items i ≡ list_any (λ p. eqb p i) (take l.place-index l.places);
}
