-- There is one answer to each who asks.
use Rattle.std.proofs.Common.{◌≡◌, ◌∙◌, ℕ, Bool, true, Option, Some, refl, sym, ap, subst}
use Rattle.std.specs.List.{slice_get}
use Rattle.std.proofs.lemmas.Option.{same_Some}
use Rattle.std.proofs.lemmas.Bool.{both_ways}
use Rattle.frame_pool.specs.declared.frame.FrameState.{FrameState}
use Rattle.frame_pool.specs.declared.frame.FrameState.TheVariants.{Loading, Ready}
use Rattle.frame_pool.specs.declared.frame.Asked.{Asked}
use Rattle.frame_pool.specs.declared.frame.Asked.TheVariants.{Hit, Granted, Loading as Waiting, Busy}
use Rattle.frame_pool.specs.States.{has_key, is_pinned}
use Rattle.frame_pool.specs.Frames.{Frames, victim, EachFrame, HasKeysOnce}
use Rattle.frame_pool.specs.Moves.{IsAskAnswer, NoneHas}
use Rattle.frame_pool.proofs.Victims.{victim-unpinned}

module _ {K V : Type 0} (eq : K → K → Bool) (key : K) (frames : Frames K V) where
  -- a ready frame is not a loading one
  ready_loading : (o : Option (FrameState K)) (a b : K) (pins : ℕ) → o ≡ Some (Ready a pins) → o ≡ Some (Loading b) → ⊥
  ready_loading o a b pins e h = let same = sym e ∙ h in cc

  same_victim : (f g : ℕ) → victim frames.census frames.order ≡ Some f → victim frames.census frames.order ≡ Some g → f ≡ g
  same_victim f g a b = same_Some f g (sym a ∙ b)

  -- where every frame is pinned there is no victim
  no_victim : (f : ℕ) → victim frames.census frames.order ≡ Some f → EachFrame (λ state. is_pinned state ≡ true) frames.census → ⊥
  no_victim f a all = let at = victim-unpinned frames.census frames.order f a in both_ways (is_pinned at.0) at.2 (all f at.0 at.1)

  holds : (f : ℕ) (state : FrameState K) → slice_get frames.census f ≡ Some state → has_key eq key state ≡ true → NoneHas eq key frames.census → ⊥
  holds f state at has none = both_ways (has_key eq key state) (none f state at) has

  pub one_answer : HasKeysOnce eq frames.census → (a b : Asked) → IsAskAnswer eq key frames a → IsAskAnswer eq key frames b → a ≡ b
  one_answer once (Hit f) (Hit g) p q = ap Hit (once key f g (Ready p.0 p.1) (Ready q.0 q.1) p.2 q.2 p.3 q.3)
  one_answer once (Hit f) (Granted g) p q = absurd (holds f (Ready p.0 p.1) p.2 p.3 q.0)
  one_answer once (Hit f) Waiting p q = absurd (ready_loading (slice_get frames.census f) p.0 q.1 p.1 p.2 (subst (λ k. slice_get frames.census k ≡ Some (Loading q.1)) (once key q.0 f (Loading q.1) (Ready p.0 p.1) q.2 p.2 q.3 p.3) q.2))
  one_answer once (Hit f) Busy p q = absurd (holds f (Ready p.0 p.1) p.2 p.3 q.0)
  one_answer once (Granted f) (Hit g) p q = absurd (holds g (Ready q.0 q.1) q.2 q.3 p.0)
  one_answer once (Granted f) (Granted g) p q = ap Granted (same_victim f g p.1 q.1)
  one_answer once (Granted f) Waiting p q = absurd (holds q.0 (Loading q.1) q.2 q.3 p.0)
  one_answer once (Granted f) Busy p q = absurd (no_victim f p.1 q.1)
  one_answer once Waiting (Hit g) p q = absurd (ready_loading (slice_get frames.census g) q.0 p.1 q.1 q.2 (subst (λ k. slice_get frames.census k ≡ Some (Loading p.1)) (once key p.0 g (Loading p.1) (Ready q.0 q.1) p.2 q.2 p.3 q.3) p.2))
  one_answer once Waiting (Granted g) p q = absurd (holds p.0 (Loading p.1) p.2 p.3 q.0)
  one_answer once Waiting Waiting p q = refl
  one_answer once Waiting Busy p q = absurd (holds p.0 (Loading p.1) p.2 p.3 q.0)
  one_answer once Busy (Hit g) p q = absurd (holds g (Ready q.0 q.1) q.2 q.3 p.0)
  one_answer once Busy (Granted g) p q = absurd (no_victim g q.1 p.1)
  one_answer once Busy Waiting p q = absurd (holds q.0 (Loading q.1) q.2 q.3 p.0)
  one_answer once Busy Busy p q = refl

  no_hit_by : (f : ℕ) → Hit f ≡ Waiting → ⊥
  no_hit_by f e = cc

  -- where a frame is loading the key, or none has it, none is ready with it
  pub no_hit-loading : HasKeysOnce eq frames.census → IsAskAnswer eq key frames Waiting → (f : ℕ) → IsAskAnswer eq key frames (Hit f) → ⊥
  no_hit-loading once waits f answer = no_hit_by f (one_answer once (Hit f) Waiting answer waits)

  pub no_hit-none : NoneHas eq key frames.census → (f : ℕ) → IsAskAnswer eq key frames (Hit f) → ⊥
  no_hit-none none f answer = holds f (Ready answer.0 answer.1) answer.2 answer.3 none
