-- The victim may be given up, and where there is none every frame is pinned.
use Rattle.std.proofs.Common.{◌≡◌, ◌∙◌, ℕ, ◌<◌, true, false, not, eqb, List, length, reverse, position, Option, Some, None, refl, sym, ap, subst}
use Rattle.std.specs.List.{slice_get, range_with_len, prefix_len}
use Rattle.std.specs.List.Sorted.{IsPermutation}
use Rattle.std.proofs.lemmas.List.Sums.{length-filter}
use Rattle.std.proofs.lemmas.List.Sorted.{IsPermutation-trans, IsPermutation-reverse}
use Rattle.std.proofs.lemmas.Option.{none-some, slice_get_within}
use Rattle.std.proofs.lemmas.Bool.{eqb-true, true≢false, false≢true}
use Rattle.frame_pool.specs.declared.frame.FrameState.{FrameState}
use Rattle.frame_pool.specs.declared.frame.FrameState.TheVariants.{Empty, Loading, Ready}
use Rattle.frame_pool.specs.States.{is_empty, is_free, is_pinned}
use Rattle.frame_pool.specs.Frames.{victim, last_free, either, is_free_frame, EachFrame}
use Rattle.frame_pool.proofs.Fronts.{position-once, count-order}
use Rattle.frame_pool.proofs.Places.{position-at, none-at, find-passes, none-found}

-- each number below n stands in the order, read from its back
pub stands-in_reverse : (f n : ℕ) (order : List ℕ) → IsPermutation (range_with_len 0 n) order → f < n → (g : ℕ) × (slice_get (reverse order) g ≡ Some f)
stands-in_reverse f n order numbers h =
    let once = length-filter (λ g. eqb g f) (reverse order) ∙ count-order f n (reverse order) (IsPermutation-trans (range_with_len 0 n) order (reverse order) numbers (IsPermutation-reverse order)) h in
    let place = position-at (λ g. eqb g f) (reverse order) (prefix_len (λ g. not (eqb g f)) (reverse order)) 0 (position-once (λ g. eqb g f) (reverse order) once) in
    (prefix_len (λ g. not (eqb g f)) (reverse order), place.1 ∙ ap Some (eqb-true place.0 f place.2))

module _ {K : Type 0} where
  -- a frame that may be given up
  abbrev pub IsUnpinnedAt : List (FrameState K) → ℕ → Type 0
  IsUnpinnedAt census f = (state : FrameState K) × (slice_get census f ≡ Some state) × (is_pinned state ≡ false)

  pub empty-unpinned : (state : FrameState K) → is_empty state ≡ true → is_pinned state ≡ false
  empty-unpinned Empty h = refl
  empty-unpinned (Loading key) h = absurd (false≢true h)
  empty-unpinned (Ready key pins) h = absurd (false≢true h)

  pub free-unpinned : (state : FrameState K) → is_free state ≡ true → is_pinned state ≡ false
  free-unpinned Empty h = refl
  free-unpinned (Loading key) h = absurd (false≢true h)
  free-unpinned (Ready key pins) h = ap not h

  pub pinned-else : (state : FrameState K) → is_empty state ≡ false → is_free state ≡ false → is_pinned state ≡ true
  pinned-else Empty h k = absurd (true≢false h)
  pinned-else (Loading key) h k = refl
  pinned-else (Ready key pins) h k = ap not k

  free_frame-unpinned : (census : List (FrameState K)) (f : ℕ) (at : Option (FrameState K)) → slice_get census f ≡ at → is_free_frame at ≡ true → IsUnpinnedAt census f
  free_frame-unpinned census f None e h = absurd (false≢true h)
  free_frame-unpinned census f (Some state) e h = (state, e, free-unpinned state h)

  free-unpinned_at : (census : List (FrameState K)) (order : List ℕ) (f : ℕ) → last_free census order ≡ Some f → IsUnpinnedAt census f
  free-unpinned_at census order f e = free_frame-unpinned census f (slice_get census f) refl (find-passes (λ g. is_free_frame (slice_get census g)) (reverse order) f e)

  empty-unpinned_at : (census : List (FrameState K)) (f : ℕ) → position is_empty census ≡ Some f → IsUnpinnedAt census f
  empty-unpinned_at census f e = let h = position-at is_empty census f Empty e in (h.0, h.1, empty-unpinned h.0 h.2)

  victim_by : (census : List (FrameState K)) (order : List ℕ) (f : ℕ) (first last : Option ℕ) → position is_empty census ≡ first → last_free census order ≡ last → either first last ≡ Some f → IsUnpinnedAt census f
  victim_by census order f None last e k h = free-unpinned_at census order f (k ∙ h)
  victim_by census order f (Some g) last e k h = empty-unpinned_at census f (e ∙ h)

  -- the victim is empty, or ready without pins
  pub victim-unpinned : (census : List (FrameState K)) (order : List ℕ) (f : ℕ) → victim census order ≡ Some f → IsUnpinnedAt census f
  victim-unpinned census order f h = victim_by census order f (position is_empty census) (last_free census order) refl refl h

  pub victim-inside : (census : List (FrameState K)) (order : List ℕ) (f : ℕ) → victim census order ≡ Some f → f < length census
  victim-inside census order f h = let at = victim-unpinned census order f h in slice_get_within census f at.0 at.1

  none_by : (census : List (FrameState K)) (order : List ℕ) (first last : Option ℕ) → position is_empty census ≡ first → last_free census order ≡ last → either first last ≡ None → (position is_empty census ≡ None) × (last_free census order ≡ None)
  none_by census order None last e k h = (e, k ∙ h)
  none_by census order (Some g) last e k h = absurd (none-some g (sym h))

  -- where there is no victim, every frame is pinned
  pub all_pinned : (census : List (FrameState K)) (order : List ℕ) → IsPermutation (range_with_len 0 (length census)) order → victim census order ≡ None → EachFrame (λ state. is_pinned state ≡ true) census
  all_pinned census order numbers h f state at =
      let none = none_by census order (position is_empty census) (last_free census order) refl refl h in
      let place = stands-in_reverse f (length census) order numbers (slice_get_within census f state at) in
      let free = none-found (λ g. is_free_frame (slice_get census g)) (reverse order) none.1 place.0 f place.1 in
      pinned-else state (none-at is_empty census none.0 f state at) (subst (λ o. is_free_frame o ≡ false) at free)

  -- the victim of what was seen
  pub victim-seen : (census states : List (FrameState K)) (order places : List ℕ) (chosen : Option ℕ) → chosen ≡ victim states places → states ≡ census → places ≡ order → victim census order ≡ chosen
  victim-seen census states order places chosen is a b = sym (is ∙ ap (λ xs. victim xs places) a ∙ ap (victim census) b)
