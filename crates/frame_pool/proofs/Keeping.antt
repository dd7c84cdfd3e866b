-- What is pinned keeps its key and its value while others ask.
use Rattle.std.proofs.Common.{◌≡◌, ◌≢◌, ◌∙◌, ℕ, ◌+◌, Bool, true, false, not, set, Option, Some, None, refl, sym, ap, subst, IfSome, ⊎_elim, add-one, arith}
use Rattle.std.specs.List.{slice_get}
use Rattle.std.proofs.lemmas.Option.{slice_get_within, same_Some}
use Rattle.std.proofs.lemmas.Bool.{both_ways, cases_eq}
use Rattle.frame_pool.specs.declared.frame.FrameState.{FrameState}
use Rattle.frame_pool.specs.declared.frame.FrameState.TheVariants.{Loading, Ready}
use Rattle.frame_pool.specs.declared.frame.Asked.{Asked}
use Rattle.frame_pool.specs.declared.frame.Asked.TheVariants.{Hit, Granted, Loading as Waiting, Busy}
use Rattle.frame_pool.specs.States.{is_pinned, is_zero, state_key}
use Rattle.frame_pool.specs.Frames.{Frames, IsLoadingAt, IsPinnedAt, KeepsPinned}
use Rattle.frame_pool.specs.Moves.{IsAskAnswer, MayGoOn, after_ask, after_settle, pinned, settled}
use Rattle.frame_pool.proofs.Places.{get-set_same, get-set_other}
use Rattle.frame_pool.proofs.Pools.{changed-at}
use Rattle.frame_pool.proofs.Victims.{victim-unpinned}

some-pins : (n : ℕ) → not (is_zero (n + 1)) ≡ true
some-pins n = ap (λ k. not (is_zero k)) (add-one n)

module _ {K V : Type 0} (eq : K → K → Bool) (key : K) (frames : Frames K V) where
  -- with one pin more
  keeps-hit : (f : ℕ) (own : K) (pins : ℕ) → slice_get frames.census f ≡ Some (Ready own pins) → KeepsPinned frames (after_ask key frames (Hit f))
  keeps-hit f own pins at g state here is =
      let written = changed-at frames.census f (Ready own pins) pinned at in
      ⊎_elim
      (λ (same : g ≡ f).
      let was = same_Some state (Ready own pins) (sym here ∙ ap (slice_get frames.census) same ∙ at) in
      (Ready own (pins + 1), ap (λ xs. slice_get xs g) written ∙ ap (slice_get (set frames.census f (Ready own (pins + 1)))) same ∙ get-set_same frames.census f (Ready own (pins + 1)) (slice_get_within frames.census f (Ready own pins) at), some-pins pins, ap state_key (sym was), refl))
      (λ (other : g ≡ f → ⊥).
      (state, ap (λ xs. slice_get xs g) written ∙ get-set_other frames.census f g (Ready own (pins + 1)) other ∙ here, is, refl, refl))
      (cases_eq g f)

  -- another frame is granted
  keeps-granted : (f : ℕ) (victim : FrameState K) → slice_get frames.census f ≡ Some victim → is_pinned victim ≡ false → KeepsPinned frames (after_ask key frames (Granted f))
  keeps-granted f victim at free g state here is =
      let written = changed-at frames.census f victim (λ _. Loading key) at in
      let other : g ≢ f = λ same. both_ways (is_pinned state) (subst (λ s. is_pinned s ≡ false) (same_Some victim state (sym at ∙ ap (slice_get frames.census) (sym same) ∙ here)) free) is in
      (state, ap (λ xs. slice_get xs g) written ∙ get-set_other frames.census f g (Loading key) other ∙ here, is, refl, get-set_other frames.values f g None other)

  pub keeps_pinned : (answer : Asked) → IsAskAnswer eq key frames answer → KeepsPinned frames (after_ask key frames answer)
  keeps_pinned (Hit f) h = keeps-hit f h.0 h.1 h.2
  keeps_pinned (Granted f) h = let at = victim-unpinned frames.census frames.order f h.1 in keeps-granted f at.0 at.1 at.2
  keeps_pinned Waiting h = λ g state here is. (state, here, is, refl, refl)
  keeps_pinned Busy h = λ g state here is. (state, here, is, refl, refl)

  -- the frame that was hit is pinned, and the one that was granted is loading
  pub may_go_on : (answer : Asked) → IsAskAnswer eq key frames answer → MayGoOn answer (after_ask key frames answer).census
  may_go_on (Hit f) h =
      (h.0, h.1 + 1, ap (λ xs. slice_get xs f) (changed-at frames.census f (Ready h.0 h.1) pinned h.2) ∙ get-set_same frames.census f (Ready h.0 (h.1 + 1)) (slice_get_within frames.census f (Ready h.0 h.1) h.2), omega arith)
  may_go_on (Granted f) h =
      let at = victim-unpinned frames.census frames.order f h.1 in
      (key, ap (λ xs. slice_get xs f) (changed-at frames.census f at.0 (λ _. Loading key) at.1) ∙ get-set_same frames.census f (Loading key) (slice_get_within frames.census f at.0 at.1))
  may_go_on Waiting h = tt
  may_go_on Busy h = tt

module _ {K V : Type 0} where
  -- a frame that was settled with a value is pinned
  pub settled-pinned : (frames : Frames K V) (f : ℕ) (value : V) → IsLoadingAt frames.census f → IsPinnedAt (after_settle f (Some value) frames).census f
  settled-pinned frames f value (key, at) =
      (key, 1, ap (λ xs. slice_get xs f) (changed-at frames.census f (Loading key) (settled (Some value)) at) ∙ get-set_same frames.census f (Ready key 1) (slice_get_within frames.census f (Loading key) at), omega arith)

  pub settled-going_on : (frames : Frames K V) (f : ℕ) (value : Option V) → IsLoadingAt frames.census f → IfSome value (λ _. IsPinnedAt (after_settle f value frames).census f)
  settled-going_on frames f None h = tt
  settled-going_on frames f (Some value) h = settled-pinned frames f value h
