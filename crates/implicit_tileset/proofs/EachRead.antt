-- A list of JSON values read member by member: what has been read, and what is left.
use Rattle.std.proofs.Common.{◌≡◌, ℕ, suc, ◌+◌, ◌<◌, ◌≤◌, List, [], ◌∷◌, ◌++◌, length, get_or, drop, refl, sym, ap, ◌∙◌, add-one, append_assoc, append-nil}
use Rattle.std.specs.Prelude.{Option, Some, None, option_and_then, option_map}
use Rattle.std.proofs.Math.Seq.{drop-cons}
use Rattle.std.proofs.Math.ListN.{drop_of_length-le}
use Rattle.serde_json.specs.Data.{Data}
use Rattle.serde_json.specs.View.{view, items_view, items_of}
use Rattle.serde_json.specs.declared.value.Value.{Value}
use Rattle.implicit_tileset.specs.Json.{list_of, each_read}

abbrev pub read_all : {A : Type 0} → (Data → Option A) → List Value → Option (List A)
read_all of vs = each_read of (list_of (items_view vs))

pub list_of-items_of : (values : List Data) → list_of (items_of values) ≡ values
list_of-items_of [] = refl
list_of-items_of (value ∷ values) = ap (λ l. value ∷ l) (list_of-items_of values)

-- what was read, followed by what is read of the rest
abbrev pub followed : {A : Type 0} → List A → Option (List A) → Option (List A)
followed done rest = option_map (λ more. done ++ more) rest

-- what was read, followed by what is read of the values from a place on
abbrev pub goes_on : {A : Type 0} → (Data → Option A) → List A → List Value → ℕ → Option (List A)
goes_on of done vs i = followed done (read_all of (drop i vs))

followed-nil : {A : Type 0} (rest : Option (List A)) → followed [] rest ≡ rest
followed-nil None = refl
followed-nil (Some more) = refl

pub goes_on-start : {A : Type 0} (of : Data → Option A) (vs : List Value) → goes_on of [] vs 0 ≡ read_all of vs
goes_on-start of vs = followed-nil (read_all of vs)

followed-one : {A : Type 0} (done : List A) (a : A) (rest : Option (List A)) → followed (done ++ a ∷ []) rest ≡ followed done (option_map (λ more. a ∷ more) rest)
followed-one done a None = refl
followed-one done a (Some more) = ap Some (append_assoc done (a ∷ []) more)

-- the values from a place on, where there is one at it
here : (vs : List Value) (i : ℕ) (v : Value) → i < length vs → v ≡ get_or vs i v → drop i vs ≡ v ∷ drop (i + 1) vs
here vs i v within is = drop-cons vs i v within ∙ rw (add-one) (ap (λ w. w ∷ drop (suc i) vs) (sym is))

-- one more is read
pub goes_on-step : {A : Type 0} (of : Data → Option A) (done : List A) (a : A) (vs : List Value) (i : ℕ) (v : Value)
    → i < length vs → v ≡ get_or vs i v → Some a ≡ of (view v) → goes_on of (done ++ a ∷ []) vs (i + 1) ≡ goes_on of done vs i
goes_on-step of done a vs i v within is read =
    followed-one done a (read_all of (drop (i + 1) vs))
    ∙ ap (λ o. followed done (option_and_then (λ b. option_map (λ rest. b ∷ rest) (read_all of (drop (i + 1) vs))) o)) read
    ∙ ap (λ ws. followed done (read_all of ws)) (sym (here vs i v within is))

-- one can't be read
pub goes_on-fails : {A : Type 0} (of : Data → Option A) (done : List A) (vs : List Value) (i : ℕ) (v : Value)
    → i < length vs → v ≡ get_or vs i v → None ≡ of (view v) → goes_on of done vs i ≡ None
goes_on-fails of done vs i v within is read =
    ap (λ ws. followed done (read_all of ws)) (here vs i v within is)
    ∙ ap (λ o. followed done (option_and_then (λ b. option_map (λ rest. b ∷ rest) (read_all of (drop (i + 1) vs))) o)) (sym read)

-- all are read
pub goes_on-end : {A : Type 0} (of : Data → Option A) (done : List A) (vs : List Value) (i : ℕ) → length vs ≤ i → goes_on of done vs i ≡ Some done
goes_on-end of done vs i past = ap (λ ws. followed done (read_all of ws)) (drop_of_length-le vs past) ∙ ap Some (append-nil done)
