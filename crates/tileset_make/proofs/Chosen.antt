-- A recipe of numbers in their ranges is the recipe of these numbers, whatever proved the ranges.
use Rattle.std.proofs.Common.{◌≡◌, ℕ, Bool, true, false, refl, ap}
use Rattle.std.specs.Prelude.{Some}
use Rattle.std.proofs.Props.{props}
use Rattle.implicit_tiling.specs.declared.Scheme.{Scheme}
use Rattle.tileset_make.specs.Ranges.{IsInRange, is_in_range, IsInRange-from_test}
use Rattle.tileset_make.specs.Chosen.{made_if, recipe_of}
use Rattle.tileset_make.specs.declared.recipe.Recipe.{Recipe}

IsInRange-prop : (scheme : Scheme) (levels subtree_levels contents points : ℕ) → IsProp (IsInRange scheme levels subtree_levels contents points)
IsInRange-prop scheme levels subtree_levels contents points = hlevel props

made_if-true : {X : Type 0} (test : Bool) (make : test ≡ true → X) (x : X) → test ≡ true → ((inside : test ≡ true) → x ≡ make inside) → Some x ≡ made_if test make
made_if-true true make x inside same = ap (λ y. Some y) (same refl)
made_if-true false make x inside same = cc

pub recipe_of-inside : (scheme : Scheme) (levels subtree_levels contents points number : ℕ) (range : IsInRange scheme levels subtree_levels contents points)
    → is_in_range scheme levels subtree_levels contents points ≡ true
    → Some (record { scheme = scheme; levels = levels; subtree_levels = subtree_levels; contents = contents; points = points; number = number; in_range = range }) ≡ recipe_of scheme levels subtree_levels contents points number
recipe_of-inside scheme levels subtree_levels contents points number range inside =
    let with_range : IsInRange scheme levels subtree_levels contents points → Recipe = λ r. record { scheme = scheme; levels = levels; subtree_levels = subtree_levels; contents = contents; points = points; number = number; in_range = r } in
    made_if-true (is_in_range scheme levels subtree_levels contents points) _ (with_range range) inside
    (λ e. ap with_range (IsInRange-prop scheme levels subtree_levels contents points range (IsInRange-from_test scheme levels subtree_levels contents points e)))
