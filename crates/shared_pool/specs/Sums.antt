-- For proofs and inner functions: sums over a list of which one element was written or added, and what stands at a
-- place of it.
use Rattle.std.proofs.Common.{◌≡◌, ◌≢◌, ℕ, zero, suc, ◌+◌, ◌<◌, ◌≤◌, Bool, true, false, cond, List, [], ◌∷◌, ◌++◌}
use Rattle.std.proofs.Common.{length, map, set, Option, Some, None, refl, sym, ap, ◌∙◌, subst, arith}
use Rattle.std.specs.List.{slice_get, count_by, sum_by, filter}
use Rattle.std.proofs.lemmas.Option.{none-some, same_Some}
use Rattle.std.proofs.lemmas.List.Sums.{sum_by-cons, sum_by_push}
use mathlib.Core.Option.{some, some-ne-none, some-injective}
use lib.ListN.{get_elem?}

module _ {A : Type 0} where
  pub from_elem : (xs : List A) (i : ℕ) (x : A) → get_elem? xs i ≡ some x → slice_get xs i ≡ Some x
  from_elem [] i x e = absurd (some-ne-none x (sym e))
  from_elem (y ∷ ys) zero x e = ap Some (some-injective y x e)
  from_elem (y ∷ ys) (suc i) x e = from_elem ys i x e

  pub to_elem : (xs : List A) (i : ℕ) (x : A) → slice_get xs i ≡ Some x → get_elem? xs i ≡ some x
  to_elem [] i x e = absurd (none-some x e)
  to_elem (y ∷ ys) zero x e = ap some (same_Some y x e)
  to_elem (y ∷ ys) (suc i) x e = to_elem ys i x e

  -- an element was written
  pub sum-set : (f : A → ℕ) (xs : List A) (i : ℕ) (x y : A) → slice_get xs i ≡ Some x
      → sum_by f (set xs i y) + f x ≡ sum_by f xs + f y
  sum-set f [] i x y e = absurd (none-some x e)
  sum-set f (z ∷ zs) zero x y e = let same = ap f (same_Some z x e) in let a = sum_by-cons f z zs in let b =
      sum_by-cons f y zs in omega arith
  sum-set f (z ∷ zs) (suc i) x y e = let h = sum-set f zs i x y e in let a = sum_by-cons f z zs in let b = sum_by-cons
      f z (set zs i y) in omega arith

  -- one element is part of the sum, and so are two
  pub sum-one : (f : A → ℕ) (xs : List A) (i : ℕ) (x : A) → slice_get xs i ≡ Some x → f x ≤ sum_by f xs
  sum-one f [] i x e = absurd (none-some x e)
  sum-one f (z ∷ zs) zero x e = let same = ap f (same_Some z x e) in let a = sum_by-cons f z zs in omega arith
  sum-one f (z ∷ zs) (suc i) x e = let h = sum-one f zs i x e in let a = sum_by-cons f z zs in omega arith

  pub sum-two : (f : A → ℕ) (xs : List A) (i j : ℕ) (x y : A) → i ≢ j → slice_get xs i ≡ Some x
      → slice_get xs j ≡ Some y → f x + f y ≤ sum_by f xs
  sum-two f [] i j x y ne a b = absurd (none-some x a)
  sum-two f (z ∷ zs) zero zero x y ne a b = absurd (ne refl)
  sum-two f (z ∷ zs) zero (suc j) x y ne a b = let same = ap f
      (same_Some z x a) in let h = sum-one f zs j y b in let c = sum_by-cons f z zs in omega arith
  sum-two f (z ∷ zs) (suc i) zero x y ne a b = let same = ap f
      (same_Some z y b) in let h = sum-one f zs i x a in let c = sum_by-cons f z zs in omega arith
  sum-two f (z ∷ zs) (suc i) (suc j) x y ne a b = let h = sum-two f zs i j x y
      (λ e. ne (ap suc e)) a b in let c = sum_by-cons f z zs in omega arith

  -- nothing counts where the sum is 0
  pub sum-none : (f : A → ℕ) (xs : List A) → ((i : ℕ) (x : A) → slice_get xs i ≡ Some x → f x ≡ 0) → sum_by f xs ≡ 0
  sum-none f [] h = refl
  sum-none f (z ∷ zs) h = let a = sum_by-cons f z zs in let b = h 0 z refl in let c = sum-none f zs
      (λ i x e. h (suc i) x e) in omega arith

  -- where something counts, an element does
  pub sum-some : (f : A → ℕ) (xs : List A) → 0 < sum_by f xs → (i : ℕ) × (x : A) × (slice_get xs i ≡ Some x) × (0 < f x)
  sum-some f [] h = absurd (omega arith)
  sum-some f (z ∷ zs) h = by (f z) refl (λ less. sum-some f zs less)
    where
      by : (k : ℕ) → f z ≡ k → (0 < sum_by f zs → (i : ℕ) × (x : A) × (slice_get zs i ≡ Some x) × (0 < f x)) → (i : ℕ)
          × (x : A) × (slice_get (z ∷ zs) i ≡ Some x) × (0 < f x)
      by zero e later = let a = sum_by-cons f z zs in let r = later (omega arith) in (suc r.0, r.1, r.2, r.3)
      by (suc k) e later = (0, z, refl, omega arith)

  pub sum-less : (f g : A → ℕ) (xs : List A) → ((i : ℕ) (x : A) → slice_get xs i ≡ Some x → f x ≤ g x)
      → sum_by f xs ≤ sum_by g xs
  sum-less f g [] h = omega arith
  sum-less f g (z ∷ zs) h = let a = sum_by-cons f z zs in let b = sum_by-cons g z zs in let c = h 0 z refl in let d =
      sum-less f g zs (λ i x e. h (suc i) x e) in omega arith

  pub sum-less_by_one : (f g : A → ℕ) (xs : List A) (i : ℕ) (x : A) → slice_get xs i ≡ Some x → f x + 1 ≤ g x
      → ((j : ℕ) (y : A) → slice_get xs j ≡ Some y → f y ≤ g y) → sum_by f xs + 1 ≤ sum_by g xs
  sum-less_by_one f g [] i x e m h = absurd (none-some x e)
  sum-less_by_one f g (z ∷ zs) zero x e m h = let a = sum_by-cons f z zs in let b = sum_by-cons g z zs in let p = ap f
      (same_Some z x e) in let q = ap g (same_Some z x e) in let r = sum-less f g zs
      (λ j y k. h (suc j) y k) in omega arith
  sum-less_by_one f g (z ∷ zs) (suc i) x e m h = let a = sum_by-cons f z zs in let b = sum_by-cons g z zs in let c = h
      0 z refl in let r = sum-less_by_one f g zs i x e m (λ j y k. h (suc j) y k) in omega arith

  pub sum-same : (f g : A → ℕ) (xs : List A) → ((i : ℕ) (x : A) → slice_get xs i ≡ Some x → f x ≡ g x)
      → sum_by f xs ≡ sum_by g xs
  sum-same f g xs h = let a = sum-less f g xs (λ i x e. let s = h i x e in omega arith) in let b = sum-less g f xs
      (λ i x e. let s = h i x e in omega arith) in omega arith

  pub sum-plus : (f g : A → ℕ) (xs : List A) → sum_by (λ x. f x + g x) xs ≡ sum_by f xs + sum_by g xs
  sum-plus f g [] = refl
  sum-plus f g (z ∷ zs) = let a = sum_by-cons f z zs in let b = sum_by-cons g z zs in let c = sum_by-cons
      (λ x. f x + g x) z zs in let d = sum-plus f g zs in omega arith

  -- what stands in a mapped list
  pub at-map : {B : Type 0} (f : A → B) (xs : List A) (i : ℕ) (y : B) → slice_get (map f xs) i ≡ Some y → (x : A)
      × (slice_get xs i ≡ Some x) × (f x ≡ y)
  at-map f [] i y e = absurd (none-some y e)
  at-map f (z ∷ zs) zero y e = (z, refl, same_Some (f z) y e)
  at-map f (z ∷ zs) (suc i) y e = at-map f zs i y e

-- one where a test holds
module _ where
  pub one-yes : (b : Bool) → b ≡ true → cond {A = ℕ} b 1 0 ≡ 1
  one-yes b e = ap (λ c. cond {A = ℕ} c 1 0) e

  pub one-no : (b : Bool) → b ≡ false → cond {A = ℕ} b 1 0 ≡ 0
  one-no b e = ap (λ c. cond {A = ℕ} c 1 0) e

  pub one-most : (b : Bool) → cond {A = ℕ} b 1 0 ≤ 1
  one-most true = omega arith
  one-most false = omega arith

  pub yes-one : (b : Bool) → 0 < cond {A = ℕ} b 1 0 → b ≡ true
  yes-one true h = refl
  yes-one false h = absurd (omega arith)
