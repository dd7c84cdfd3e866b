-- Heads and faults read back, and the numbers of words.
use Rattle.std.proofs.Common.{◌≡◌, ◌≢◌, ℕ, zero, suc, ◌+◌, ◌*◌, ◌/◌, ◌%◌, ◌^◌, ◌<◌, ◌≤◌, List, [], ◌∷◌, ◌++◌, length, take, get_or, replicate, refl, sym, ap, ◌∙◌, arith, Option, Some, None, false, true≢false}
use mathlib.Core.Logic.{dite}
use native.Mathlib.Decide.{dec_le}
use Rattle.std.proofs.lemmas.List.{length-replicate, get_or-replicate, get_or_past}
use Rattle.published_prefix.specs.declared.head.EndKind.{EndKind}
use Rattle.published_prefix.specs.declared.head.EndKind.TheVariants as kind
use Rattle.tile_coords.specs.declared.walk_end.WalkEnd.{WalkEnd}
use Rattle.tile_coords.specs.declared.walk_end.WalkEnd.TheVariants.{Partial, Complete, TooMany, Fault}
use Rattle.published_prefix.specs.Heads.{kind_of, code, fault_high, fault_low, FitsFaultWord}
use Rattle.published_prefix.specs.Prefixes.{halves_of}

-- the fault of the words that stand for it
pub fault_read : (e : WalkEnd) (high low : ℕ) → kind.Fault ≡ kind_of e → FitsFaultWord e → ((x : ℕ) → fault_high e ≡ Some x → high ≡ x) → ((x : ℕ) → fault_low e ≡ Some x → low ≡ x)
    → Fault (high / 2 ^ 16 * 2 ^ 80 + low) (high % 2 ^ 16) ≡ e
fault_read (Fault root number) high low is fits reads_high reads_low = let h = reads_high _ refl in let l = reads_low _ refl in let bare = fits.0 in let small = fits.1 in
    let root_is : high / 2 ^ 16 * 2 ^ 80 + low ≡ root = omega arith in
    let number_is : high % 2 ^ 16 ≡ number = omega arith in
    λ i. Fault (root_is i) (number_is i)
fault_read Partial high low is fits reads_high reads_low = absurd (cc)
fault_read Complete high low is fits reads_high reads_low = absurd (cc)
fault_read TooMany high low is fits reads_high reads_low = absurd (cc)

-- the two parts of a fault
pub fault_parts : (e : WalkEnd) (root number : ℕ) → e ≡ Fault root number → (fault_high e ≡ Some (root / 2 ^ 64 + number)) × (fault_low e ≡ Some (root % 2 ^ 64))
fault_parts e root number is = (ap fault_high is, ap fault_low is)

-- all numbers of a new table are 0
pub zero_at : (n i : ℕ) → get_or {A = ℕ} (replicate n 0) i 0 ≡ 0
zero_at n i = dite (dec_le (suc i) n) (λ inside. get_or-replicate n i 0 0 inside) (λ past. get_or_past (replicate n 0) i 0 (omega (arith, length-replicate {A = ℕ} n 0)))

-- the numbers of one word more
halves_next : (ws : List ℕ) (i : ℕ) → i < length ws → halves_of (take (suc i) ws) ≡ (halves_of (take i ws) ++ get_or ws i 0 / 2 ^ 64 ∷ []) ++ get_or ws i 0 % 2 ^ 64 ∷ []
halves_next [] i inside = absurd (omega arith)
halves_next (w ∷ ws) zero inside = refl
halves_next (w ∷ ws) (suc i) inside = ap (λ (l : List ℕ). w / 2 ^ 64 ∷ w % 2 ^ 64 ∷ l) (halves_next ws i (omega arith))

pub halves_more : (ws : List ℕ) (i : ℕ) → i < length ws → halves_of (take (i + 1) ws) ≡ (halves_of (take i ws) ++ get_or ws i 0 / 2 ^ 64 ∷ []) ++ get_or ws i 0 % 2 ^ 64 ∷ []
halves_more ws i inside = ap (λ (n : ℕ). halves_of (take n ws)) (after i) ∙ halves_next ws i inside
  where
    after : (i : ℕ) → i + 1 ≡ suc i
    after i = omega arith

pub halves_length : (ws : List ℕ) → length (halves_of ws) ≡ 2 * length ws
halves_length [] = refl
halves_length (w ∷ ws) = let more = halves_length ws in omega arith

pub high_half : (ws : List ℕ) (i : ℕ) → get_or (halves_of ws) (2 * i) 0 ≡ get_or ws i 0 / 2 ^ 64
high_half [] i = refl
high_half (w ∷ ws) zero = refl
high_half (w ∷ ws) (suc i) = ap (λ (j : ℕ). get_or (w / 2 ^ 64 ∷ w % 2 ^ 64 ∷ halves_of ws) j 0) (twice i) ∙ high_half ws i
  where
    twice : (i : ℕ) → 2 * suc i ≡ suc (suc (2 * i))
    twice i = omega arith

pub low_half : (ws : List ℕ) (i : ℕ) → get_or (halves_of ws) (2 * i + 1) 0 ≡ get_or ws i 0 % 2 ^ 64
low_half [] i = refl
low_half (w ∷ ws) zero = refl
low_half (w ∷ ws) (suc i) = ap (λ (j : ℕ). get_or (w / 2 ^ 64 ∷ w % 2 ^ 64 ∷ halves_of ws) j 0) (twice i) ∙ low_half ws i
  where
    twice : (i : ℕ) → 2 * suc i + 1 ≡ suc (suc (2 * i + 1))
    twice i = omega arith

pub whole_again : (w : ℕ) → w / 2 ^ 64 * 2 ^ 64 + w % 2 ^ 64 ≡ w
whole_again w = omega arith
