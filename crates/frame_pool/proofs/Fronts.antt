-- An order in which a number stands once, and the same order with that number at its front.
use Rattle.std.proofs.Common.{◌≡◌, ℕ, zero, suc, ◌+◌, ◌<◌, ◌≤◌, Bool, true, false, not, cond, eqb, List, [], ◌∷◌, length, count_by, filter, position, Some, None, refl, sym, ap, ◌∙◌, subst, ⊎_elim, zero-add, arith}
use Rattle.std.specs.List.{prefix_len, range_with_len}
use Rattle.std.specs.List.Sorted.{IsPermutation}
use Rattle.std.proofs.lemmas.List.Sums.{length-filter, sum_by-cons}
use Rattle.std.proofs.lemmas.List.Sorted.{sum_by-IsPermutation, IsPermutation-refl, IsPermutation-trans, IsPermutation-cons, IsPermutation-middle}
use Rattle.frame_pool.specs.Moves.{asked_last}
use Rattle.std.proofs.lemmas.Bool.{lt-ltb, cases_eq, eq-eqb, ne_eqb}

-- where nothing passes, all is kept
pub filter-none : {X : Type 0} (p : X → Bool) (xs : List X) → length (filter p xs) ≡ 0 → filter (λ x. not (p x)) xs ≡ xs
filter-none p [] h = refl
filter-none p (x ∷ xs) h =
    elim (p x) as (λ b. length (cond b (x ∷ filter p xs) (filter p xs)) ≡ 0 → cond (not b) (x ∷ filter (λ y. not (p y)) xs) (filter (λ y. not (p y)) xs) ≡ x ∷ xs) [
      | true ↦ λ k. absurd (omega arith)
      | false ↦ λ k. ap (λ ys. x ∷ ys) (filter-none p xs k)
    ] h

-- where one passes, it stands before the end
pub prefix_len-once : {X : Type 0} (p : X → Bool) (xs : List X) → length (filter p xs) ≡ 1 → prefix_len (λ x. not (p x)) xs < length xs
prefix_len-once p [] h = absurd (omega arith)
prefix_len-once p (x ∷ xs) h =
    elim (p x) as (λ b. length (cond b (x ∷ filter p xs) (filter p xs)) ≡ 1 → cond (not b) (1 + prefix_len (λ y. not (p y)) xs) 0 < length (x ∷ xs)) [
      | true ↦ λ k. omega arith
      | false ↦ λ k. let before = prefix_len-once p xs k in omega arith
    ] h

-- the place of the one that passes
pub position-once : {X : Type 0} (p : X → Bool) (xs : List X) → length (filter p xs) ≡ 1 → position p xs ≡ Some (prefix_len (λ x. not (p x)) xs)
position-once p xs h = let before = prefix_len-once p xs h in ap (λ b. cond b (Some (prefix_len (λ x. not (p x)) xs)) None) (lt-ltb _ _ before)

-- with the number at its front it is the same order but for that
pub permutation-asked_last : (f : ℕ) (xs : List ℕ) → length (filter (λ g. eqb g f) xs) ≡ 1 → IsPermutation xs (asked_last f xs)
permutation-asked_last f [] h = absurd (omega arith)
permutation-asked_last f (x ∷ xs) h = ⊎_elim
    (λ (same : x ≡ f).
    let here = eq-eqb x f same in
    let once : length (filter (λ g. eqb g f) xs) ≡ 0 = let k = subst (λ b. length (cond b (x ∷ filter (λ g. eqb g f) xs) (filter (λ g. eqb g f) xs)) ≡ 1) here h in omega arith in
    subst (λ b. IsPermutation (x ∷ xs) (f ∷ cond (not b) (x ∷ filter (λ g. not (eqb g f)) xs) (filter (λ g. not (eqb g f)) xs))) (sym here)
    (subst (λ ys. IsPermutation (x ∷ xs) (f ∷ ys)) (sym (filter-none (λ g. eqb g f) xs once)) (subst (λ y. IsPermutation (x ∷ xs) (y ∷ xs)) same (IsPermutation-refl (x ∷ xs)))))
    (λ (other : x ≡ f → ⊥).
    let here = ne_eqb x f other in
    let once = subst (λ b. length (cond b (x ∷ filter (λ g. eqb g f) xs) (filter (λ g. eqb g f) xs)) ≡ 1) here h in
    subst (λ b. IsPermutation (x ∷ xs) (f ∷ cond (not b) (x ∷ filter (λ g. not (eqb g f)) xs) (filter (λ g. not (eqb g f)) xs))) (sym here)
    (IsPermutation-trans (x ∷ xs) (x ∷ f ∷ filter (λ g. not (eqb g f)) xs) (f ∷ x ∷ filter (λ g. not (eqb g f)) xs)
    (IsPermutation-cons x xs (asked_last f xs) (permutation-asked_last f xs once))
    (IsPermutation-middle (x ∷ []) f (filter (λ g. not (eqb g f)) xs))))
    (cases_eq x f)

-- each number of a range stands in it once
pub count-below : (f a n : ℕ) → f < a → count_by (λ g. eqb g f) (range_with_len a n) ≡ 0
count-below f a zero h = refl
count-below f a (suc n) h =
    sum_by-cons (λ g. cond (eqb g f) 1 0) a (range_with_len (a + 1) n)
    ∙ ap (λ b. cond b 1 0 + count_by (λ g. eqb g f) (range_with_len (a + 1) n)) (ne_eqb a f (λ e. omega arith))
    ∙ zero-add (count_by (λ g. eqb g f) (range_with_len (a + 1) n))
    ∙ count-below f (a + 1) n (omega arith)

pub count-in_range : (f a n : ℕ) → a ≤ f → f < a + n → count_by (λ g. eqb g f) (range_with_len a n) ≡ 1
count-in_range f a zero low high = absurd (omega arith)
count-in_range f a (suc n) low high = ⊎_elim
    (λ (same : a ≡ f). sum_by-cons (λ g. cond (eqb g f) 1 0) a (range_with_len (a + 1) n)
    ∙ ap (λ b. cond b 1 0 + count_by (λ g. eqb g f) (range_with_len (a + 1) n)) (eq-eqb a f same)
    ∙ ap (λ k. 1 + k) (count-below f (a + 1) n (omega arith)))
    (λ (other : a ≡ f → ⊥). sum_by-cons (λ g. cond (eqb g f) 1 0) a (range_with_len (a + 1) n)
    ∙ ap (λ b. cond b 1 0 + count_by (λ g. eqb g f) (range_with_len (a + 1) n)) (ne_eqb a f other)
    ∙ zero-add (count_by (λ g. eqb g f) (range_with_len (a + 1) n))
    ∙ count-in_range f (a + 1) n (omega arith) (omega arith))
    (cases_eq a f)

-- each number below n stands once in an order of the numbers below n
pub count-order : (f n : ℕ) (order : List ℕ) → IsPermutation (range_with_len 0 n) order → f < n → count_by (λ g. eqb g f) order ≡ 1
count-order f n order numbers h = sum_by-IsPermutation (λ g. cond (eqb g f) 1 0) (range_with_len 0 n) order numbers ∙ count-in_range f 0 n (omega arith) (omega arith)

-- the order stays one of all numbers
pub order-asked_last : (f n : ℕ) (order : List ℕ) → IsPermutation (range_with_len 0 n) order → f < n → IsPermutation (range_with_len 0 n) (asked_last f order)
order-asked_last f n order numbers h =
    IsPermutation-trans (range_with_len 0 n) order (asked_last f order) numbers
    (permutation-asked_last f order (length-filter (λ g. eqb g f) order ∙ count-order f n order numbers h))
