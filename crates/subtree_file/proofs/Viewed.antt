-- The bits of a view, and of all that are used.
use Rattle.std.proofs.Common.{◌≡◌, ℕ, zero, suc, ◌+◌, ◌*◌, ◌-◌, ◌<◌, ◌≤◌, Bool, true, false, List, [], ◌∷◌, ◌++◌, length, get_or, drop, map, replicate, refl, sym, ap, ◌∙◌, add-one, arith}
use Rattle.std.specs.Prelude.{Result, Ok, Err, ◌==◌}
use Rattle.std.specs.List.{list_any, range_with_len, slice_range}
use Rattle.std.proofs.lemmas.List.Folds.{list_any_at}
use Rattle.std.proofs.lemmas.List.FromFn.{map-range_with_len_more}
use Rattle.bitstream.specs.Bits.{bits_of_bytes}
use Rattle.implicit_tiling.specs.Bits.{bit_of_bytes}
use Rattle.bitstream.proofs.Digits.{digit-take}
use Rattle.implicit_tiling.specs.Checks.{refuse}
use Rattle.implicit_tileset.specs.Record.{BufferView}
use Rattle.implicit_tileset.specs.SubtreeFile.{Used, is_miscounted, raw_bits}
use Rattle.implicit_tileset.specs.FileOutcome.{Sources, held_at}
use Rattle.subtree_file.specs.declared.fault.DecodeFault.{DecodeFault}
use Rattle.subtree_file.specs.declared.fault.DecodeFault.TheVariants.{Fault, Memory}
use Rattle.subtree_file.specs.Decoding.{Decodes, DecodesList, bits_counted, all_counted, bits_of_view}

same_range : {X : Type 0} (f g : ℕ → X) (n : ℕ) → ((i : ℕ) → i < n → f i ≡ g i) → map f (range_with_len 0 n) ≡ map g (range_with_len 0 n)
same_range f g zero same = refl
same_range f g (suc n) same =
    ap (λ k. map f (range_with_len 0 k)) (sym (add-one n))
    ∙ map-range_with_len_more f 0 n n (omega arith)
    ∙ ap (λ xs. xs ++ f n ∷ []) (same_range f g n (λ i h. same i (omega arith)))
    ∙ ap (λ x. map g (range_with_len 0 n) ++ x ∷ []) (same n (omega arith))
    ∙ sym (map-range_with_len_more g 0 n n (omega arith))
    ∙ ap (λ k. map g (range_with_len 0 k)) (add-one n)

pub same_everywhere : {X : Type 0} (b : X) (a n : ℕ) → map (λ i. b) (range_with_len a n) ≡ replicate n b
same_everywhere b a zero = refl
same_everywhere b a (suc n) = ap (λ xs. b ∷ xs) (same_everywhere b (a + 1) n)

-- the bits of the bytes that were copied are those of the whole view
pub bits_of_view-copied : (binary : List ℕ) (v : BufferView) (offset size needed : ℕ) → v.offset ≡ offset → needed ≤ 8 * size → size ≤ v.length
    → bits_of_bytes (slice_range binary offset (offset + size)) needed ≡ bits_of_view binary v needed
bits_of_view-copied binary v offset size needed at enough within =
    let bytes = drop v.offset binary in
    ap (λ k. bits_of_bytes (slice_range binary k (k + size)) needed) (sym at)
    ∙ same_range (bit_of_bytes (slice_range binary v.offset (v.offset + size))) (bit_of_bytes (slice_range binary v.offset (v.offset + v.length))) needed
    (λ i h. ap (λ d. d == 1) (digit-take (v.offset + size - v.offset) bytes i (omega arith) ∙ sym (digit-take (v.offset + v.length - v.offset) bytes i (omega arith))))

-- a last row that was refused
pub refused : {B : Type 0} (number : ℕ) (test : Bool) (b : B) (n : ℕ) → refuse number test (Ok b) ≡ Err n → (test ≡ true) × (number ≡ n)
refused number true b n is = (refl, cc)
refused number false b n is = cc

-- whether the bits of one have another count, and these bits, beside the bytes of its buffer
abbrev pub miscounted : Sources → Used → Bool
miscounted s u = is_miscounted (held_at s u.availability) u

abbrev pub bits_at : Sources → Used → List Bool
bits_at s u = raw_bits (held_at s u.availability) u

abbrev pub counted_at : Sources → Used → Result (List Bool) ℕ
counted_at s u = bits_counted (held_at s u.availability) u

-- one that can't be read
pub all_counted-err : (s : Sources) (used : List Used) (i : ℕ) (u : Used) (fault : DecodeFault) → i < length used → u ≡ get_or used i u
    → Decodes (bits_counted (held_at s u.availability) u) (Err fault) → DecodesList (all_counted s used) (Err fault)
all_counted-err s used i u Memory within is one = tt
all_counted-err s used i u (Fault n) within is one =
    let row = refused 16 (miscounted s u) (bits_at s u) n one in
    let any : list_any (miscounted s) used ≡ true = list_any_at (miscounted s) used i u within (ap (miscounted s) (sym is) ∙ row.0) in
    rw any (ap Err row.1)
