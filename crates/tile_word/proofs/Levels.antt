-- Powers of N by shifts, and how far they go within the limits.
use Rattle.std.proofs.Common.{◌≡◌, ℕ, zero, suc, ◌+◌, ◌*◌, ◌%◌, ◌^◌, ◌<◌, ◌≤◌, refl, ap, ◌∙◌, arith, lit<}
use Rattle.std.proofs.Math.Nat.{pow-suc, pow-le-pow_right}
use Rattle.std.proofs.lemmas.Nat.{pow-add, one_shl}
use Rattle.implicit_tiling.specs.declared.Scheme.{Scheme}
use Rattle.implicit_tiling.specs.declared.Scheme.TheVariants.{Quad, Oct}
use Rattle.implicit_tiling.specs.Limits.{most_levels, most_subtree_levels}
use Rattle.implicit_tiling.specs.Tile.{axes, branching}

power_of_4 : (l : ℕ) → 2 ^ (2 * l) ≡ 4 ^ l
power_of_4 zero = refl
power_of_4 (suc l) = let more : 2 * suc l ≡ 2 * l + 2 = omega arith in omega (arith, ap (λ e. 2 ^ e) more, pow-add 2 (2 * l) 2, power_of_4 l, pow-suc 4 l)

power_of_8 : (l : ℕ) → 2 ^ (3 * l) ≡ 8 ^ l
power_of_8 zero = refl
power_of_8 (suc l) = let more : 3 * suc l ≡ 3 * l + 3 = omega arith in omega (arith, ap (λ e. 2 ^ e) more, pow-add 2 (3 * l) 3, power_of_8 l, pow-suc 8 l)

-- 2^(axes * l) is N^l
pub power_of_branching : (scheme : Scheme) (l : ℕ) → 2 ^ (axes scheme * l) ≡ branching scheme ^ l
power_of_branching Quad l = power_of_4 l
power_of_branching Oct l = power_of_8 l

places_of_level : (scheme : Scheme) (l : ℕ) → l < most_levels scheme → axes scheme * l < 64
places_of_level Quad l h = omega arith
places_of_level Oct l h = omega arith

-- the shift of a word by the places of a level
pub shift_is_nodes : (scheme : Scheme) (a l : ℕ) → a ≡ axes scheme → l < most_levels scheme → (1 * 2 ^ (a * l)) % 2 ^ 64 ≡ branching scheme ^ l
shift_is_nodes scheme a l is low =
    ap (λ n. (1 * 2 ^ (n * l)) % 2 ^ 64) is ∙ one_shl (axes scheme * l) 64 (places_of_level scheme l low) ∙ power_of_branching scheme l

-- a level within a subtree is one within the limits
pub few_levels : (scheme : Scheme) (l : ℕ) → l ≤ most_subtree_levels scheme → l < most_levels scheme
few_levels Quad l h = omega arith
few_levels Oct l h = omega arith

pub one_level : (scheme : Scheme) → 1 < most_levels scheme
one_level Quad = omega arith
one_level Oct = omega arith

pub levels_below_32 : (scheme : Scheme) (l : ℕ) → l < most_levels scheme → l < 2 ^ 5
levels_below_32 Quad l h = omega arith
levels_below_32 Oct l h = omega arith

-- the indices of a level take 62 bits at most
pub indices_fit : (scheme : Scheme) (l : ℕ) → l < most_levels scheme → branching scheme ^ l ≤ 2 ^ 62
indices_fit Quad l h = let most : 4 ^ l ≤ 4 ^ 31 = pow-le-pow_right (lit< tt) (let le : l ≤ 31 = omega arith in le) in omega (arith, most)
indices_fit Oct l h = let most : 8 ^ l ≤ 8 ^ 20 = pow-le-pow_right (lit< tt) (let le : l ≤ 20 = omega arith in le) in omega (arith, most)

pub branching_at_1 : (scheme : Scheme) → branching scheme ^ 1 ≡ branching scheme
branching_at_1 Quad = refl
branching_at_1 Oct = refl

pub branching_above_1 : (scheme : Scheme) → 1 < branching scheme
branching_above_1 Quad = lit< tt
branching_above_1 Oct = lit< tt
