-- That desks whose sources tell nothing are free; and a list that is pushed to.
use Rattle.std.proofs.Common.{◌≡◌, ◌<◌, ⊎_elim, List, [], ◌∷◌, ◌++◌, length, refl, sym, subst, arith}
use Rattle.std.proofs.lemmas.List.{get_or_append_left, get_or_push, length_push}
use Rattle.std.proofs.lemmas.Bool.{cases_lt}
use Rattle.std.specs.Prelude.{Option, None}
use Rattle.std.specs.List.{All}
use Rattle.implicit_tiling.specs.Files.{Files}
use Rattle.shared_commands.specs.Desks.{Place, files_of, IsFree}

files_untold : {S : Type 0} (told : S → Option Files) → ((s : S) → told s ≡ None) → (desks : List (Place S)) → files_of told desks ≡ None
files_untold told untold [] = refl
files_untold told untold (desk ∷ desks) = untold desk.source

pub free_of_untold : {S : Type 0} (told : S → Option Files) → ((s : S) → told s ≡ None) → (desks : List (Place S)) → All (IsFree told None) desks → All (IsFree told (files_of told desks)) desks
free_of_untold told untold desks free = subst (λ files. All (IsFree told files) desks) (sym (files_untold told untold desks)) free

pub all_pushed : {X : Type 0} (IsGood : X → Type 0) (xs : List X) (x : X) → All IsGood xs → IsGood x → All IsGood (xs ++ x ∷ [])
all_pushed IsGood xs x good one = λ k d low. ⊎_elim
    (λ (inside : k < length xs). subst IsGood (sym (get_or_append_left xs (x ∷ []) d k inside)) (good k d inside))
    (λ high. subst IsGood (sym (get_or_push xs x d k (omega (arith, low, high, length_push xs x)))) one)
    (cases_lt k (length xs))
