use Rattle.std.proofs.Common.{◌≡◌, ◌∙◌, ℕ, ◌*◌, ◌/◌, ◌%◌, ◌^◌, ◌<◌, ◌||◌, eqb, bit_or, length, get_or, set, replicate, length-set, sym, ap, arith}
use Rattle.std.specs.List.{list_any}
use Rattle.std.proofs.lemmas.List.{length-replicate, take_all}
use Rattle.std.proofs.lemmas.List.Elements.{All-get_or}
use Rattle.std.proofs.lemmas.List.Folds.{list_any_more}
use Rattle.std.proofs.lemmas.Grind.{get_or_default_zero}
use Rattle.implicit_tiling.specs.Bits.{bit_of_bytes}
use Rattle.bitstream.specs.Bytes.{bytes_filled}
use Rattle.bitstream.proofs.Put.{bit-set, bit-zeros}
use Rattle.bitstream.proofs.places.bytes_of_places.Goals as goal

pub loop-place-init : goal.loop-place-init
loop-place-init c =
    let zeros : c.in_ok-bytes.bytes.items ≡ replicate c.div_ceil.result 0 = c.in_ok-bytes.ensures.items_if_clones_equal (λ y same. same) in
    let filled : c.div_ceil.result ≡ bytes_filled c.args.count = omega (arith, c.div_ceil.ensures) in
    record {
      filled = ap length zeros ∙ length-replicate c.div_ceil.result 0 ∙ filled;
      bits = λ i h. ap (λ bytes. bit_of_bytes bytes i) zeros ∙ bit-zeros c.div_ceil.result i (omega arith);
    }

pub index_mut-requires : goal.index_mut-requires
index_mut-requires c =
    let low = All-get_or (λ p. p < c.args.count) c.args.places.now c.loop-place.place-index 0 c.loop-place-test.true c.requires in
    omega (arith, low, c.loop-place.invariant.filled, c.loop-place.bytes.ok)

pub loop-place-preserved : goal.loop-place-preserved
loop-place-preserved c =
    let places = c.args.places.now in
    let k = c.loop-place.place-index in
    let place : ℕ = get_or places k 0 in
    let bytes = c.loop-place.bytes.items in
    let low : place < c.args.count = All-get_or (λ p. p < c.args.count) places k 0 c.loop-place-test.true c.requires in
    let within : place / 8 < length bytes = omega (arith, c.loop-place.invariant.filled) in
    let byte = c.index_mut.ensures.value ∙ get_or_default_zero bytes (place / 8) c.index_mut.result.now within in
    record {
      filled = length-set bytes (place / 8) (bit_or c.index_mut.result.now (1 * 2 ^ (place % 8) % 256)) ∙ c.loop-place.invariant.filled;
      bits = λ i h.
          ap (λ b. bit_of_bytes (set bytes (place / 8) (bit_or b (1 * 2 ^ (place % 8) % 256))) i) byte
          ∙ bit-set bytes place i within
          ∙ ap (λ b. b || eqb place i) (c.loop-place.invariant.bits i h)
          ∙ sym (list_any_more (λ p. eqb p i) places k 0 c.loop-place-test.true);
    }

pub returns : goal.returns
returns c =
    let places = c.args.places.now in
    record {
      filled = c.loop-place.invariant.filled;
      bits = λ i h. c.loop-place.invariant.bits i h ∙ ap (list_any (λ p. eqb p i)) (take_all c.loop-place.place-index places c.loop-place-test.false);
    }
