-- The frame that has a key, as it was read.
use Rattle.std.proofs.Common.{◌≡◌, ◌∙◌, ℕ, Bool, true, List, get_or, position, Some, None, refl, sym, ap, subst}
use Rattle.std.specs.List.{slice_get}
use Rattle.std.proofs.lemmas.Option.{get_or_from_slice_get}
use Rattle.std.proofs.lemmas.Bool.{false≢true}
use Rattle.frame_pool.specs.declared.frame.FrameState.{FrameState}
use Rattle.frame_pool.specs.declared.frame.FrameState.TheVariants.{Empty, Loading, Ready}
use Rattle.frame_pool.specs.States.{has_key}
use Rattle.frame_pool.specs.Moves.{NoneHas}
use Rattle.frame_pool.proofs.Places.{position-at, none-at}

module _ {K : Type 0} (eq : K → K → Bool) (key : K) (census seen : List (FrameState K)) where
  -- the state that was read there has the key
  pub held-at : (f : ℕ) (read : FrameState K) → Some f ≡ position (has_key eq key) seen → seen ≡ census → read ≡ get_or census f read → (slice_get census f ≡ Some read) × (has_key eq key read ≡ true)
  held-at f read place same is =
      let h = position-at (has_key eq key) census f Empty (ap (position (has_key eq key)) (sym same) ∙ sym place) in
      let state = is ∙ get_or_from_slice_get census f h.0 read h.1 in
      (h.1 ∙ ap Some (sym state), ap (has_key eq key) state ∙ h.2)

  pub ready-at : (f : ℕ) (read : FrameState K) (own : K) (pins : ℕ) → Some f ≡ position (has_key eq key) seen → seen ≡ census → read ≡ get_or census f read → read ≡ Ready own pins → (slice_get census f ≡ Some (Ready own pins)) × (eq own key ≡ true)
  ready-at f read own pins place same is state =
      let h = held-at f read place same is in
      (h.0 ∙ ap Some state, subst (λ s. has_key eq key s ≡ true) state h.1)

  loading-of : (state : FrameState K) → has_key eq key state ≡ true → ((own : K) (pins : ℕ) → state ≡ Ready own pins → ⊥) → (own : K) × (state ≡ Loading own) × (eq own key ≡ true)
  loading-of Empty has other = absurd (false≢true has)
  loading-of (Loading own) has other = (own, refl, has)
  loading-of (Ready own pins) has other = absurd (other own pins refl)

  pub loading-at : (f : ℕ) (read : FrameState K) → Some f ≡ position (has_key eq key) seen → seen ≡ census → read ≡ get_or census f read → ((own : K) (pins : ℕ) → read ≡ Ready own pins → ⊥) → (own : K) × (slice_get census f ≡ Some (Loading own)) × (eq own key ≡ true)
  loading-at f read place same is other =
      let h = held-at f read place same is in
      let own = loading-of read h.1 other in
      (own.0, h.0 ∙ ap Some own.1, own.2)

  -- where there is no place, no frame has the key
  pub none-has : None ≡ position (has_key eq key) seen → seen ≡ census → NoneHas eq key census
  none-has place same = none-at (has_key eq key) census (ap (position (has_key eq key)) (sym same) ∙ sym place)
