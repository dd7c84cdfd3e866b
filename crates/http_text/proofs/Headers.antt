-- Whether a header of some passes a test.
use Rattle.std.proofs.Common.{◌≡◌, ℕ, ◌<◌, ◌≤◌, Bool, true, false, List, [], ◌∷◌, length, map, take, get_or, refl, sym, ap, ◌∙◌}
use Rattle.std.specs.Prelude.{◌||◌}
use Rattle.std.specs.List.{list_any}
use Rattle.std.proofs.lemmas.List.{take_all}
use Rattle.std.proofs.lemmas.List.Folds.{list_any_at}
use Rattle.http_text.specs.Heads.{Header}

pub any_of_map : {X Y : Type 0} (test : Y → Bool) (f : X → Y) (xs : List X) → list_any test (map f xs) ≡ list_any (λ x. test (f x)) xs
any_of_map test f [] = refl
any_of_map test f (x ∷ xs) = ap (λ more. test (f x) || more) (any_of_map test f xs)

pub one_passes : {X Y : Type 0} (test : Y → Bool) (f : X → Y) (xs : List X) (i : ℕ) (d : X) → i < length xs → test (f (get_or xs i d)) ≡ true → list_any test (map f xs) ≡ true
one_passes test f xs i d low is = any_of_map test f xs ∙ list_any_at (λ x. test (f x)) xs i d low is

pub none_passes : {X Y : Type 0} (test : Y → Bool) (f : X → Y) (xs : List X) (i : ℕ) → length xs ≤ i → list_any (λ x. test (f x)) (take i xs) ≡ false → list_any test (map f xs) ≡ false
none_passes test f xs i past so_far =
    any_of_map test f xs ∙ ap (list_any (λ x. test (f x))) (sym (take_all i xs past)) ∙ so_far

-- a test of a name and a value that were read
pub tested : (test : Header → Bool) (name name_read value value_read : List ℕ) (found wanted : Bool) → name_read ≡ name → value_read ≡ value
    → found ≡ test (name_read, value_read) → found ≡ wanted → test (name, value) ≡ wanted
tested test name name_read value value_read found wanted one two is here =
    ap (λ n. test (n, value)) (sym one) ∙ ap (λ v. test (name_read, v)) (sym two) ∙ sym is ∙ here
