-- What is answered to one who asks is an answer of the frames.
use Rattle.std.proofs.Common.{◌≡◌, ℕ, Bool, true, length, position, Option, Some, None, refl, sym, subst}
use Rattle.std.specs.List.{slice_get, range_with_len}
use Rattle.std.specs.List.Sorted.{IsPermutation}
use Rattle.std.proofs.lemmas.Bool.{false≢true}
use Rattle.frame_pool.specs.declared.frame.FrameState.{FrameState}
use Rattle.frame_pool.specs.declared.frame.FrameState.TheVariants.{Empty, Loading, Ready}
use Rattle.frame_pool.specs.States.{has_key}
use Rattle.frame_pool.specs.Frames.{Frames, victim}
use Rattle.frame_pool.specs.Moves.{IsAskAnswer, NoneHas}
use Rattle.frame_pool.proofs.Places.{position-at, none-at}
use Rattle.frame_pool.proofs.Victims.{all_pinned}
use Rattle.replay_machine.specs.Asking.{asked_of, granted_of, asked_by, asked}

module _ {K V : Type 0} (eq : K → K → Bool) (key : K) (frames : Frames K V) (numbers : IsPermutation (range_with_len 0 (length frames.census)) frames.order) where
  of_state : (f : ℕ) (state : FrameState K) → slice_get frames.census f ≡ Some state → has_key eq key state ≡ true
      → IsAskAnswer eq key frames (asked_of f (Some state))
  of_state f Empty at has = absurd (false≢true has)
  of_state f (Loading own) at has = (f, own, at, has)
  of_state f (Ready own pins) at has = (own, pins, at, has)

  of_victim : NoneHas eq key frames.census → (o : Option ℕ) → victim frames.census frames.order ≡ o → IsAskAnswer eq key frames (granted_of o)
  of_victim none (Some f) is = (none, is)
  of_victim none None is = (none, all_pinned frames.census frames.order numbers is)

  of_holder : (o : Option ℕ) → position (has_key eq key) frames.census ≡ o → IsAskAnswer eq key frames (asked_by frames.census frames.order o)
  of_holder (Some f) is =
      let at = position-at (has_key eq key) frames.census f Empty is in
      subst (λ o. IsAskAnswer eq key frames (asked_of f o)) (sym at.1) (of_state f at.0 at.1 at.2)
  of_holder None is = of_victim (none-at (has_key eq key) frames.census is) (victim frames.census frames.order) refl

  pub asked_is_of_the_frames : IsAskAnswer eq key frames (asked eq key frames.census frames.order)
  asked_is_of_the_frames = of_holder (position (has_key eq key) frames.census) refl
