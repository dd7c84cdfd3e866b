-- Lists whose elements rise: two of them with the same elements are one list. The elements of a filtered list.
use Rattle.std.proofs.Common.{◌≡◌, ℕ, zero, suc, ◌<◌, Bool, true, List, [], ◌∷◌, length, get_or, refl, sym, ap, subst, ◌∙◌, arith, inl, inr, ◌⊎◌}
use Rattle.std.specs.Prelude.{◌↔◌}
use Rattle.std.specs.List.{All, AllPairs, Contains, filter}
use Rattle.std.proofs.lemmas.Bool.{cases_Bool, both_ways, cond-true, cond-false}
use Rattle.std.proofs.lemmas.List.Elements.{All-contains, All-contains_itself, All-filter, filter_passes}
use Rattle.implicit_tiling.specs.declared.Scheme.{Scheme}
use Rattle.implicit_tiling.specs.Tile.{Tile, is_key_below, IsInKeyOrder}
use Rattle.tiling_laws.proofs.Order.{keys_are_an_order}

-- the elements of a list with one more
pub none_in_nil : {X : Type 0} (y : X) → Contains [] y → ⊥
none_in_nil y there = let low = there.1 in omega (arith, low)

pub contains_first : {X : Type 0} (x : X) (xs : List X) → Contains (x ∷ xs) x
contains_first x xs = (0, omega arith, refl)

pub contains_later : {X : Type 0} (x : X) (xs : List X) (y : X) → Contains xs y → Contains (x ∷ xs) y
contains_later x xs y there = let low = there.1 in (suc there.0, omega (arith, low), there.2)

contains_at : {X : Type 0} (x : X) (xs : List X) (y : X) (k : ℕ) → k < length (x ∷ xs) → get_or (x ∷ xs) k y ≡ y → (x ≡ y) ⊎ Contains xs y
contains_at x xs y zero low same = inl same
contains_at x xs y (suc k) low same = inr (k, omega (arith, low), same)

pub contains_cases : {X : Type 0} (x : X) (xs : List X) (y : X) → Contains (x ∷ xs) y → (x ≡ y) ⊎ Contains xs y
contains_cases x xs y there = contains_at x xs y there.0 there.1 there.2

-- the parts of a list that rises
pub pairs_first : {X : Type 0} (R : X → X → Type 0) (x : X) (xs : List X) → AllPairs R (x ∷ xs) → All (R x) xs
pairs_first R x xs pairs = λ k d low. pairs 0 (suc k) d (omega arith) (omega (arith, low))

pub pairs_rest : {X : Type 0} (R : X → X → Type 0) (x : X) (xs : List X) → AllPairs R (x ∷ xs) → AllPairs R xs
pairs_rest R x xs pairs = λ i j d low high. pairs (suc i) (suc j) d (omega (arith, low)) (omega (arith, high))

-- nothing comes before itself, and what comes before something comes before all that comes after that
pub record IsStrict {X : Type 0} (R : X → X → Type 0) : Type 0 where
  pub irreflexive : (x : X) → R x x → ⊥
  pub transitive : (x y z : X) → R x y → R y z → R x z

first_is : {X : Type 0} (R : X → X → Type 0) → IsStrict R → (x y : X) (xs ys : List X) → All (R x) xs → All (R y) ys
    → (y ≡ x) ⊎ Contains ys x → (x ≡ y) ⊎ Contains xs y → x ≡ y
first_is R strict x y xs ys one other (inl same) there = sym same
first_is R strict x y xs ys one other (inr after) (inl same) = same
first_is R strict x y xs ys one other (inr after) (inr later) =
    absurd (strict.irreflexive x (strict.transitive x y x (All-contains (R x) xs y one later) (All-contains (R y) ys x other after)))

-- what is after the first of one list is after the first of the other
after_first : {X : Type 0} (R : X → X → Type 0) → IsStrict R → (x y z : X) (xs ys : List X) → x ≡ y → All (R x) xs → Contains xs z → (y ≡ z) ⊎ Contains ys z
    → Contains ys z
after_first R strict x y z xs ys first one there (inl same) =
    absurd (strict.irreflexive x (subst (R x) (sym (first ∙ same)) (All-contains (R x) xs z one there)))
after_first R strict x y z xs ys first one there (inr later) = later

pub rising_lists_are_one : {X : Type 0} (R : X → X → Type 0) → IsStrict R → (xs ys : List X) → AllPairs R xs → AllPairs R ys
    → ((x : X) → Contains xs x ↔ Contains ys x) → xs ≡ ys
rising_lists_are_one R strict [] [] one other same = refl
rising_lists_are_one R strict [] (y ∷ ys) one other same = absurd (none_in_nil y ((same y).1 (contains_first y ys)))
rising_lists_are_one R strict (x ∷ xs) [] one other same = absurd (none_in_nil x ((same x).0 (contains_first x xs)))
rising_lists_are_one R strict (x ∷ xs) (y ∷ ys) one other same =
    let mine = pairs_first R x xs one in
    let yours = pairs_first R y ys other in
    let first : x ≡ y = first_is R strict x y xs ys mine yours (contains_cases y ys x ((same x).0 (contains_first x xs))) (contains_cases x xs y ((same y).1 (contains_first y ys))) in
    let rest : xs ≡ ys = rising_lists_are_one R strict xs ys (pairs_rest R x xs one) (pairs_rest R y ys other) (λ z. (
      λ there. after_first R strict x y z xs ys first mine there (contains_cases y ys z ((same z).0 (contains_later x xs z there))),
      λ there. after_first R strict y x z ys xs (sym first) yours there (contains_cases x xs z ((same z).1 (contains_later y ys z there))),
    )) in
    ap (λ w. w ∷ xs) first ∙ ap (λ ws. y ∷ ws) rest

-- keys
pub keys_are_strict : (scheme : Scheme) → IsStrict (λ t u. is_key_below scheme t u ≡ true)
keys_are_strict scheme = record {
  irreflexive = λ t below. both_ways (is_key_below scheme t t) ((keys_are_an_order scheme).irreflexive t) below;
  transitive = (keys_are_an_order scheme).transitive;
}

pub rising_tiles_are_one : (scheme : Scheme) (one other : List Tile) → IsInKeyOrder scheme one → IsInKeyOrder scheme other
    → ((t : Tile) → Contains one t ↔ Contains other t) → one ≡ other
rising_tiles_are_one scheme = rising_lists_are_one (λ t u. is_key_below scheme t u ≡ true) (keys_are_strict scheme)

-- a filtered list has the elements that pass
filtered_first : {X : Type 0} (test : X → Bool) (x y : X) (xs : List X) → (x ≡ y) ⊎ Contains xs y → test y ≡ true → (Contains xs y → Contains (filter test xs) y)
    → Contains (filter test (x ∷ xs)) y
filtered_first test x y xs (inl same) passes later =
    let whole : filter test (x ∷ xs) ≡ x ∷ filter test xs = cond-true (test x) (x ∷ filter test xs) (filter test xs) (ap test same ∙ passes) in
    subst (λ ws. Contains ws y) (sym whole) (subst (Contains (x ∷ filter test xs)) same (contains_first x (filter test xs)))
filtered_first test x y xs (inr there) passes later =
    elim (cases_Bool (test x)) [
      | inl is ↦ subst (λ ws. Contains ws y) (sym (cond-true (test x) (x ∷ filter test xs) (filter test xs) is)) (contains_later x (filter test xs) y (later there))
      | inr fails ↦ subst (λ ws. Contains ws y) (sym (cond-false (test x) (x ∷ filter test xs) (filter test xs) fails)) (later there)
    ]

into_filtered : {X : Type 0} (test : X → Bool) (xs : List X) (y : X) → Contains xs y → test y ≡ true → Contains (filter test xs) y
into_filtered test [] y there passes = absurd (none_in_nil y there)
into_filtered test (x ∷ xs) y there passes =
    filtered_first test x y xs (contains_cases x xs y there) passes (λ later. into_filtered test xs y later passes)

pub in_filtered : {X : Type 0} (test : X → Bool) (xs : List X) (y : X) → Contains (filter test xs) y ↔ (Contains xs y × (test y ≡ true))
in_filtered test xs y = (
  λ there. (
    All-contains (Contains xs) (filter test xs) y (All-filter test (Contains xs) xs (All-contains_itself xs)) there,
    All-contains (λ x. test x ≡ true) (filter test xs) y (filter_passes test xs) there,
  ),
  λ is. into_filtered test xs y is.0 is.1,
)
