-- What stands at a place of a list, also after another place was written.
use Rattle.std.proofs.Common.{◌≡◌, ◌≢◌, ℕ, zero, suc, ◌+◌, ◌<◌, ◌≤◌, ◌⊎◌, inl, inr, Bool, true, false, not, cond, List, [], ◌∷◌, length, get_or, set, position, find, Some, None, refl, sym, ap, ◌∙◌, subst, ⊎_elim, arith}
use Rattle.std.specs.List.{slice_get, prefix_len}
use Rattle.std.proofs.lemmas.Option.{none-some, same_Some, slice_get-get_or}
use Rattle.std.proofs.lemmas.List.Quantifiers.{position-Some}
use Rattle.std.proofs.lemmas.Bool.{lt-ltb, cases_lt}

module _ {A : Type 0} where
  -- another place, or the written one
  pub at-set : (xs : List A) (f g : ℕ) (y z : A) → slice_get (set xs f y) g ≡ Some z → ((g ≡ f) × (y ≡ z)) ⊎ ((g ≢ f) × (slice_get xs g ≡ Some z))
  at-set [] f g y z e = absurd (none-some z e)
  at-set (x ∷ xs) zero zero y z e = inl (refl, same_Some y z e)
  at-set (x ∷ xs) zero (suc g) y z e = inr ((λ h. omega arith), e)
  at-set (x ∷ xs) (suc f) zero y z e = inr ((λ h. omega arith), e)
  at-set (x ∷ xs) (suc f) (suc g) y z e = ⊎_elim
      (λ (t : (g ≡ f) × (y ≡ z)). inl (ap suc t.0, t.1))
      (λ (t : (g ≢ f) × (slice_get xs g ≡ Some z)). inr ((λ h. t.0 (omega arith)), t.1))
      (at-set xs f g y z e)

  pub get-set_same : (xs : List A) (f : ℕ) (y : A) → f < length xs → slice_get (set xs f y) f ≡ Some y
  get-set_same [] f y h = absurd (omega arith)
  get-set_same (x ∷ xs) zero y h = refl
  get-set_same (x ∷ xs) (suc f) y h = get-set_same xs f y (omega arith)

  pub get-set_other : (xs : List A) (f g : ℕ) (y : A) → g ≢ f → slice_get (set xs f y) g ≡ slice_get xs g
  get-set_other [] f g y h = refl
  get-set_other (x ∷ xs) zero zero y h = absurd (h refl)
  get-set_other (x ∷ xs) zero (suc g) y h = refl
  get-set_other (x ∷ xs) (suc f) zero y h = refl
  get-set_other (x ∷ xs) (suc f) (suc g) y h = get-set_other xs f g y (λ e. h (ap suc e))

  -- what was read
  pub read-at : (xs : List A) (f : ℕ) (x y : A) → f < length xs → x ≡ get_or xs f x → x ≡ y → slice_get xs f ≡ Some y
  read-at xs f x y inside read is = slice_get-get_or xs f x inside ∙ ap Some (sym read ∙ is)

  -- the place that passes
  pub position-at : (p : A → Bool) (xs : List A) (f : ℕ) (d : A) → position p xs ≡ Some f → (x : A) × (slice_get xs f ≡ Some x) × (p x ≡ true)
  position-at p xs f d e = let h = position-Some p xs f d e in (get_or xs f d, slice_get-get_or xs f d h.0, h.1)

  -- nothing passes in a list whose first and whose later elements fail
  none-more : (p : A → Bool) (x y : A) (ys : List A) → p y ≡ false → ((g : ℕ) → slice_get ys g ≡ Some x → p x ≡ false) → (g : ℕ) → slice_get (y ∷ ys) g ≡ Some x → p x ≡ false
  none-more p x y ys is later zero e = subst (λ z. p z ≡ false) (same_Some y x e) is
  none-more p x y ys is later (suc g) e = later g e

  none-before : (p : A → Bool) (xs : List A) → length xs ≤ prefix_len (λ x. not (p x)) xs → (g : ℕ) (x : A) → slice_get xs g ≡ Some x → p x ≡ false
  none-before p [] h g x e = absurd (none-some x e)
  none-before p (y ∷ ys) h g x e =
      elim (p y) as (λ b. p y ≡ b → length (y ∷ ys) ≤ cond (not b) (1 + prefix_len (λ z. not (p z)) ys) 0 → p x ≡ false) [
        | true ↦ λ is k. absurd (omega arith)
        | false ↦ λ is k. none-more p x y ys is (λ i f. none-before p ys (omega arith) i x f) g e
      ] refl h

  -- where there is no place, nothing passes
  pub none-at : (p : A → Bool) (xs : List A) → position p xs ≡ None → (g : ℕ) (x : A) → slice_get xs g ≡ Some x → p x ≡ false
  none-at p xs e g x at = ⊎_elim
      (λ (h : prefix_len (λ z. not (p z)) xs < length xs). absurd (none-some _ (sym e ∙ ap (λ b. cond b (Some (prefix_len (λ z. not (p z)) xs)) None) (lt-ltb _ _ h))))
      (λ (h : length xs ≤ prefix_len (λ z. not (p z)) xs). none-before p xs h g x at)
      (cases_lt (prefix_len (λ z. not (p z)) xs) (length xs))

  -- what is found passes
  pub find-passes : (p : A → Bool) (xs : List A) (x : A) → find p xs ≡ Some x → p x ≡ true
  find-passes p [] x e = absurd (none-some x e)
  find-passes p (y ∷ ys) x e =
      elim (p y) as (λ b. p y ≡ b → cond b (Some y) (find p ys) ≡ Some x → p x ≡ true) [
        | true ↦ λ is k. subst (λ z. p z ≡ true) (same_Some y x k) is
        | false ↦ λ is k. find-passes p ys x k
      ] refl e

  -- where nothing is found, nothing passes
  pub none-found : (p : A → Bool) (xs : List A) → find p xs ≡ None → (g : ℕ) (x : A) → slice_get xs g ≡ Some x → p x ≡ false
  none-found p [] h g x e = absurd (none-some x e)
  none-found p (y ∷ ys) h g x e =
      elim (p y) as (λ b. p y ≡ b → cond b (Some y) (find p ys) ≡ None → p x ≡ false) [
        | true ↦ λ is k. absurd (none-some y (sym k))
        | false ↦ λ is k. none-more p x y ys is (λ i f. none-found p ys k i x f) g e
      ] refl h
