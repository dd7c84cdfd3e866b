-- Lists cut at a place.
use Rattle.std.proofs.Common.{◌≡◌, ℕ, suc, ◌+◌, ◌<◌, List, [], ◌∷◌, ◌++◌, Some, length, get_or, take, drop, refl, sym, ap, ◌∙◌, arith, length-append}
use Rattle.std.specs.Prelude.{slice_get}
use Rattle.std.proofs.Math.Seq.{drop-cons}
use Rattle.std.proofs.lemmas.List.{take-append-drop}

pub split_at : {X : Type 0} (xs : List X) (p : ℕ) (d : X) → p < length xs → xs ≡ take p xs ++ get_or xs p d ∷ drop (suc p) xs
split_at xs p d h = sym (take-append-drop p xs) ∙ ap (λ w. take p xs ++ w) (drop-cons xs p d h)

-- what stands behind some elements
pub get_behind : {X : Type 0} (xs : List X) (y : X) (ys : List X) → slice_get (xs ++ y ∷ ys) (length xs) ≡ Some y
get_behind [] y ys = refl
get_behind (x ∷ xs) y ys = get_behind xs y ys

pub get_at : {X : Type 0} (zs xs : List X) (y : X) (ys : List X) (k : ℕ) → zs ≡ xs ++ y ∷ ys → k ≡ length xs → slice_get zs k ≡ Some y
get_at zs xs y ys k parts at = ap (λ w. slice_get w k) parts ∙ ap (slice_get (xs ++ y ∷ ys)) at ∙ get_behind xs y ys

pub length_at : {X : Type 0} (zs xs : List X) (y : X) (ys : List X) (k : ℕ) → zs ≡ xs ++ y ∷ ys → k ≡ length xs → length zs ≡ k + suc (length ys)
length_at zs xs y ys k parts at = omega (arith, ap length parts, length-append xs (y ∷ ys))
