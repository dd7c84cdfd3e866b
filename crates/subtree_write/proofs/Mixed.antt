-- Constants and bitstreams by the number of ones.
use Rattle.std.proofs.Common.{◌≡◌, ◌≢◌, ◌⊎◌, ◌∙◌, ℕ, zero, suc, ◌+◌, ◌<◌, ◌≤◌, ◌&&◌, Bool, true, false, not, cond, nat_lt, List, [], ◌∷◌, length, refl, sym, ap, ap₂, inl, inr, arith}
use Rattle.std.specs.List.{list_any, count_by}
use Rattle.std.proofs.lemmas.List.Sums.{sum_by-cons}
use Rattle.std.proofs.lemmas.Bool.{lt-ltb}
use Rattle.subtree_write.specs.Canonical.{has_one, is_mixed, streams_of, constant_value, stream_value, availability_value}

abbrev pub ones : List Bool → ℕ
ones bits = count_by (λ bit. bit) bits

ones-cons : (bit : Bool) (bits : List Bool) → ones (bit ∷ bits) ≡ cond bit 1 0 + ones bits
ones-cons bit bits = sum_by-cons (λ b. cond b 1 0) bit bits

pub ones-le : (bits : List Bool) → ones bits ≤ length bits
ones-le [] = omega arith
ones-le (true ∷ bits) = omega (arith, ones-cons true bits, ones-le bits)
ones-le (false ∷ bits) = omega (arith, ones-cons false bits, ones-le bits)

no_one : (bits : List Bool) → ones bits ≡ 0 → has_one bits ≡ false
no_one [] h = refl
no_one (true ∷ bits) h = absurd (omega (arith, ones-cons true bits))
no_one (false ∷ bits) h = no_one bits (omega (arith, ones-cons false bits))

some_one : (bits : List Bool) → 0 < ones bits → has_one bits ≡ true
some_one [] h = absurd (omega arith)
some_one (true ∷ bits) h = refl
some_one (false ∷ bits) h = some_one bits (omega (arith, ones-cons false bits))

no_zero : (bits : List Bool) → ones bits ≡ length bits → list_any not bits ≡ false
no_zero [] h = refl
no_zero (true ∷ bits) h = no_zero bits (omega (arith, ones-cons true bits))
no_zero (false ∷ bits) h = absurd (omega (arith, ones-cons false bits, ones-le bits))

some_zero : (bits : List Bool) → ones bits < length bits → list_any not bits ≡ true
some_zero [] h = absurd (omega arith)
some_zero (true ∷ bits) h = some_zero bits (omega (arith, ones-cons true bits))
some_zero (false ∷ bits) h = refl

and_false : (b : Bool) → (b && false) ≡ false
and_false true = refl
and_false false = refl

pub not_mixed : (bits : List Bool) → (ones bits ≡ 0) ⊎ (ones bits ≡ length bits) → is_mixed bits ≡ false
not_mixed bits (inl none) = ap (λ b. b && list_any not bits) (no_one bits none)
not_mixed bits (inr all) = ap (λ b. has_one bits && b) (no_zero bits all) ∙ and_false (has_one bits)

pub mixed : (bits : List Bool) → ones bits ≢ 0 → ones bits ≢ length bits → is_mixed bits ≡ true
mixed bits some few = ap₂ (λ a b. a && b) (some_one bits (omega arith)) (some_zero bits (omega (arith, ones-le bits)))

pub has_one-positive : (bits : List Bool) (n : ℕ) → n ≡ ones bits → nat_lt 0 n ≡ has_one bits
has_one-positive bits zero e = sym (no_one bits (sym e))
has_one-positive bits (suc n) e = lt-ltb 0 (suc n) (omega arith) ∙ sym (some_one bits (omega arith))

pub constant_of : (view : ℕ) (bits : List Bool) → is_mixed bits ≡ false → availability_value view bits ≡ constant_value (has_one bits)
constant_of view bits e = ap (λ b. cond b (stream_value (ones bits) view) (constant_value (has_one bits))) e

pub stream_of : (view : ℕ) (bits : List Bool) → is_mixed bits ≡ true → availability_value view bits ≡ stream_value (ones bits) view
stream_of view bits e = ap (λ b. cond b (stream_value (ones bits) view) (constant_value (has_one bits))) e

pub no_stream : (bits : List Bool) → is_mixed bits ≡ false → streams_of (bits ∷ []) ≡ []
no_stream bits e = ap (λ b. cond b (bits ∷ []) []) e

pub one_stream : (bits : List Bool) → is_mixed bits ≡ true → streams_of (bits ∷ []) ≡ bits ∷ []
one_stream bits e = ap (λ b. cond b (bits ∷ []) []) e
