-- The least empty frame, as it is found from a number below which no frame is empty.
use Rattle.std.proofs.Common.{◌≡◌, ◌≢◌, ◌∙◌, ℕ, ◌+◌, ◌<◌, ◌≤◌, Bool, true, false, cond, min, List, length, set, position, Option, Some, None, refl, sym, ap, subst, ⊎_elim, arith}
use Rattle.std.specs.List.{slice_get}
use Rattle.std.proofs.Math.Nat.{min-le_left, min-le_right}
use Rattle.std.proofs.lemmas.List.Quantifiers.{position-Some}
use Rattle.std.proofs.lemmas.Option.{same_Some, slice_get-get_or, slice_get_within}
use Rattle.std.proofs.lemmas.Bool.{both_ways, cases_eq, cases_lt}
use Rattle.frame_pool.specs.declared.frame.FrameState.{FrameState}
use Rattle.frame_pool.specs.States.{is_empty}
use Rattle.frame_pool.specs.Finding.{NoneEmptyBelow}
use Rattle.frame_pool.proofs.Places.{at-set, position-at, none-at}

module _ {K : Type 0} (census : List (FrameState K)) where
  -- one frame more that isn't empty
  pub none_empty-next : (n : ℕ) (state : FrameState K) → NoneEmptyBelow n census → slice_get census n ≡ Some state → is_empty state ≡ false → NoneEmptyBelow (n + 1) census
  none_empty-next n state below at is f other less here = ⊎_elim
      (λ (same : f ≡ n). subst (λ s. is_empty s ≡ false) (same_Some state other (sym at ∙ ap (slice_get census) (sym same) ∙ here)) is)
      (λ (apart : f ≡ n → ⊥). below f other (omega arith) here)
      (cases_eq f n)

  -- the first empty frame, and nothing below it
  pub none_empty-before : (f : ℕ) → position is_empty census ≡ Some f → NoneEmptyBelow f census
  none_empty-before f place g state less here =
      let h = position-Some is_empty census f state place in
      subst (λ s. is_empty s ≡ false) (same_Some _ state (sym (slice_get-get_or census g state (slice_get_within census g state here)) ∙ here)) (h.2 g less)

  -- no empty frame at all
  pub none_empty : position is_empty census ≡ None → (n : ℕ) → NoneEmptyBelow n census
  none_empty place n f state less here = none-at is_empty census place f state here

  first_by : (f : ℕ) (state : FrameState K) → NoneEmptyBelow f census → slice_get census f ≡ Some state → is_empty state ≡ true → (o : Option ℕ) → position is_empty census ≡ o → position is_empty census ≡ Some f
  first_by f state below at is None place = absurd (both_ways (is_empty state) (none-at is_empty census place f state at) is)
  first_by f state below at is (Some g) place =
      let h = position-at is_empty census g state place in
      let low : f ≤ g = ⊎_elim
      (λ (less : g < f). absurd (both_ways (is_empty h.0) (below g h.0 less h.1) h.2))
      (λ (k : f ≤ g). k)
      (cases_lt g f) in
      let high : g ≤ f = ⊎_elim
      (λ (less : f < g). absurd (both_ways (is_empty state) (none_empty-before g place f state less at) is))
      (λ (k : g ≤ f). k)
      (cases_lt f g) in
      let same : g ≡ f = omega arith in
      place ∙ ap Some same

  -- it is first where nothing below it is empty
  pub first-empty : (f : ℕ) (state : FrameState K) → NoneEmptyBelow f census → slice_get census f ≡ Some state → is_empty state ≡ true → position is_empty census ≡ Some f
  first-empty f state below at is = first_by f state below at is (position is_empty census) refl

  none_by : (n : ℕ) → NoneEmptyBelow n census → length census ≤ n → (d : FrameState K) (o : Option ℕ) → position is_empty census ≡ o → position is_empty census ≡ None
  none_by n below all d None place = place
  none_by n below all d (Some g) place =
      let h = position-at is_empty census g d place in
      absurd (both_ways (is_empty h.0) (below g h.0 (let inside = slice_get_within census g h.0 h.1 in omega arith) h.1) h.2)

  -- where the number is no less than that of the frames, no frame is empty
  pub no-empty : (n : ℕ) → NoneEmptyBelow n census → length census ≤ n → (d : FrameState K) → position is_empty census ≡ None
  no-empty n below all d = none_by n below all d (position is_empty census) refl

  set_by : (n f : ℕ) (state : FrameState K) (b : Bool) → is_empty state ≡ b → NoneEmptyBelow n census → NoneEmptyBelow (cond b (min n f) n) (set census f state)
  set_by n f state true is below g other less here =
      let first = min-le_left n f in
      let second = min-le_right n f in
      ⊎_elim
      (λ (t : (g ≡ f) × (state ≡ other)). absurd (let same = t.0 in omega arith))
      (λ (t : (g ≢ f) × (slice_get census g ≡ Some other)). below g other (omega arith) t.1)
      (at-set census f g state other here)
  set_by n f state false is below g other less here = ⊎_elim
      (λ (t : (g ≡ f) × (state ≡ other)). subst (λ s. is_empty s ≡ false) t.1 is)
      (λ (t : (g ≢ f) × (slice_get census g ≡ Some other)). below g other less t.1)
      (at-set census f g state other here)

  -- after frame f has changed
  pub none_empty-set : (n f : ℕ) (state : FrameState K) → NoneEmptyBelow n census → NoneEmptyBelow (cond (is_empty state) (min n f) n) (set census f state)
  none_empty-set n f state below = set_by n f state (is_empty state) refl below

  -- after frame f has got a key
  pub none_empty-given : (n f : ℕ) (state : FrameState K) → is_empty state ≡ false → NoneEmptyBelow n census → NoneEmptyBelow n (set census f state)
  none_empty-given n f state is below = set_by n f state false is below
