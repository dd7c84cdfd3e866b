-- Frames from turn to turn.
use Rattle.std.proofs.Common.{◌≡◌, ◌≢◌, ◌∙◌, ℕ, ◌+◌, ◌-◌, ◌^◌, ◌<◌, ◌≤◌, Bool, true, List, length, set, replicate, Option, Some, None, refl, sym, ap, subst, ⊎_elim, arith}
use Rattle.std.specs.List.{slice_get}
use Rattle.std.proofs.lemmas.List.{length-set, length-replicate, get_or-replicate}
use Rattle.std.proofs.lemmas.Option.{slice_get_within, slice_get-get_or, get_or_from_slice_get, same_Some}
use Rattle.implicit_tiling.specs.Files.{Files}
use Rattle.implicit_tiling.specs.Scene.{Layout}
use Rattle.frame_pool.specs.declared.frame.FrameState.{FrameState}
use Rattle.frame_pool.specs.declared.frame.FrameState.TheVariants.{Empty, Loading, Ready}
use Rattle.frame_pool.specs.declared.frame.Asked.TheVariants.{Hit, Granted, Loading as Waiting, Busy}
use Rattle.frame_pool.specs.States.{is_pinned, pins_of}
use Rattle.frame_pool.specs.Frames.{Frames, EachFrame, IsLoadingAt, empty_frames}
use Rattle.frame_pool.specs.Moves.{IsAskAnswer, after_ask, after_settle, after_unpin, pinned, unpinned, settled}
use Rattle.frame_pool.proofs.Places.{at-set, get-set_same, get-set_other}
use Rattle.frame_pool.proofs.Pools.{changed-at}
use Rattle.subtree_outcome.specs.declared.outcome.Outcome.{Outcome}
use Rattle.subtree_outcome.specs.Outcomes.{IsOutcomeOf}
use Rattle.framed_walk.specs.Frames.{IsIdle, AreAtRest, IsHeld}

abbrev no_key : FrameState ℕ
no_key = Empty

-- an idle frame has no pins, and is not pinned
idle_pins : (state : FrameState ℕ) → IsIdle state → pins_of state ≡ 0
idle_pins Empty h = refl
idle_pins (Loading key) h = absurd h
idle_pins (Ready key pins) h = h

idle_unpinned : (state : FrameState ℕ) → IsIdle state → is_pinned state ≡ true → ⊥
idle_unpinned Empty h is = cc
idle_unpinned (Loading key) h is = h
idle_unpinned (Ready key pins) h is = let k : is_pinned (Ready key 0) ≡ true = subst (λ n. is_pinned (Ready key n) ≡ true) h is in cc

-- what a ready frame has
ready_key : (a b m n : ℕ) → Ready a m ≡ Ready b n → a ≡ b
ready_key a b m n e = cc

ready_pins : (a b m n : ℕ) → Ready a m ≡ Ready b n → m ≡ n
ready_pins a b m n e = cc

loading_ready : (a b n : ℕ) → Loading a ≡ Ready b n → ⊥
loading_ready a b n e = cc

empty_ready : (b n : ℕ) → Empty ≡ Ready b n → ⊥
empty_ready b n e = cc

module _ (layout : Layout) (told : Option Files) where
  -- each frame may get a pin more
  pub has_room : (frames : Frames ℕ Outcome) → AreAtRest layout told frames → EachFrame (λ state. pins_of state < 2 ^ 32 - 1) frames.census
  has_room frames rest f state at = let none = idle_pins state (rest.idle f state at) in omega (arith, none)

  -- a state that is written at a place where one stands
  written_here : (census : List (FrameState ℕ)) (f : ℕ) (old : FrameState ℕ) (change : FrameState ℕ → FrameState ℕ) → slice_get census f ≡ Some old
      → (c : List (FrameState ℕ)) → c ≡ set census f (change old) → slice_get c f ≡ Some (change old)
  written_here census f old change at c is = ap (λ xs. slice_get xs f) is ∙ get-set_same census f (change old) (slice_get_within census f old at)

  -- nobody loads, and some frame is not pinned
  pub none_waits : (frames : Frames ℕ Outcome) (eq : ℕ → ℕ → Bool) (key : ℕ) → AreAtRest layout told frames → IsAskAnswer eq key frames Waiting → ⊥
  none_waits frames eq key rest answer = rest.idle answer.0 (Loading answer.1) answer.2

  pub some_is_free : (frames : Frames ℕ Outcome) (eq : ℕ → ℕ → Bool) (key : ℕ) → AreAtRest layout told frames → IsAskAnswer eq key frames Busy → ⊥
  some_is_free frames eq key rest answer =
      let at = slice_get-get_or frames.census 0 Empty (omega (arith, rest.some)) in
      idle_unpinned _ (rest.idle 0 _ at) (answer.1 0 _ at)

  -- a frame that is hit
  hit_at : (frames : Frames ℕ Outcome) (key f own pins : ℕ) → AreAtRest layout told frames → slice_get frames.census f ≡ Some (Ready own pins) → own ≡ key
      → (after : Frames ℕ Outcome) → after ≡ after_ask key frames (Hit f) → IsHeld layout told key f after
  hit_at frames key f own pins rest at same after is =
      let none : pins ≡ 0 = rest.idle f (Ready own pins) at in
      let written : after.census ≡ set frames.census f (Ready own (pins + 1)) = ap (λ (p : Frames ℕ Outcome). p.census) is ∙ changed-at frames.census f (Ready own pins) pinned at in
      let values : after.values ≡ frames.values = ap (λ (p : Frames ℕ Outcome). p.values) is in
      let here = written_here frames.census f (Ready own pins) pinned at after.census written in
      let one : pins + 1 ≡ 1 = omega arith in
      record {
        some = omega (arith, rest.some, ap length written, length-set frames.census f (Ready own (pins + 1)));
        here = here ∙ ap (λ n. Some (Ready own n)) one ∙ ap (λ k. Some (Ready k 1)) same;
        others = λ g state other e. rest.idle g state (sym (get-set_other frames.census f g (Ready own (pins + 1)) other) ∙ sym (ap (λ xs. slice_get xs g) written) ∙ e);
        outcomes = λ g k n found e v.
            let was = ap (λ xs. slice_get xs g) (sym values) ∙ v in
            ⊎_elim
            (λ (t : (g ≡ f) × (Ready own (pins + 1) ≡ Ready k n)).
            let old : slice_get frames.census g ≡ Some (Ready k pins) = ap (slice_get frames.census) t.0 ∙ at ∙ ap (λ o. Some (Ready o pins)) (ready_key own k (pins + 1) n t.1) in
            rest.outcomes g k pins found old was)
            (λ (t : (g ≢ f) × (slice_get frames.census g ≡ Some (Ready k n))). rest.outcomes g k n found t.1 was)
            (at-set frames.census f g (Ready own (pins + 1)) (Ready k n) (ap (λ xs. slice_get xs g) (sym written) ∙ e));
      }

  pub hit : (frames : Frames ℕ Outcome) (eq : ℕ → ℕ → Bool) (key f : ℕ) → ((a b : ℕ) → eq a b ≡ true → a ≡ b) → AreAtRest layout told frames → IsAskAnswer eq key frames (Hit f)
      → (after : Frames ℕ Outcome) → after ≡ after_ask key frames (Hit f) → IsHeld layout told key f after
  hit frames eq key f laws rest answer after is = hit_at frames key f answer.0 answer.1 rest answer.2 (laws answer.0 key answer.3) after is

  -- a frame that is granted
  granted_at : (frames : Frames ℕ Outcome) (key f : ℕ) (asked : Frames ℕ Outcome) → asked ≡ after_ask key frames (Granted f) → IsLoadingAt asked.census f
      → (asked.census ≡ set frames.census f (Loading key)) × (slice_get asked.census f ≡ Some (Loading key))
  granted_at frames key f asked ask loading =
      let was : asked.census ≡ set frames.census f (Loading key) = ap (λ (p : Frames ℕ Outcome). p.census) ask in
      let inside : f < length frames.census = omega (arith, slice_get_within asked.census f (Loading loading.0) loading.1, ap length was, length-set frames.census f (Loading key)) in
      (was, ap (λ xs. slice_get xs f) was ∙ get-set_same frames.census f (Loading key) inside)

  -- what stands at another place of a written list stood there before
  stood : {X : Type 0} (xs ys : List X) (f g : ℕ) (x y : X) → ys ≡ set xs f x → g ≢ f → slice_get ys g ≡ Some y → slice_get xs g ≡ Some y
  stood xs ys f g x y written other e = sym (get-set_other xs f g x other) ∙ sym (ap (λ zs. slice_get zs g) written) ∙ e

  -- it is settled with the outcome of its key
  pub brought : (frames : Frames ℕ Outcome) (key f : ℕ) (found : Outcome) → AreAtRest layout told frames → (asked after : Frames ℕ Outcome)
      → asked ≡ after_ask key frames (Granted f) → IsLoadingAt asked.census f → IsOutcomeOf layout told key found → after ≡ after_settle f (Some found) asked
      → IsHeld layout told key f after
  brought frames key f found rest asked after ask loading outcome settle =
      let granted = granted_at frames key f asked ask loading in
      let emptied : asked.values ≡ set frames.values f None = ap (λ (p : Frames ℕ Outcome). p.values) ask in
      let written : after.census ≡ set asked.census f (Ready key 1) = ap (λ (p : Frames ℕ Outcome). p.census) settle ∙ changed-at asked.census f (Loading key) (settled (Some found)) granted.1 in
      let values : after.values ≡ set asked.values f (Some found) = ap (λ (p : Frames ℕ Outcome). p.values) settle in
      record {
        some = omega (arith, rest.some, ap length written, length-set asked.census f (Ready key 1), ap length granted.0, length-set frames.census f (Loading key));
        here = written_here asked.census f (Loading key) (settled (Some found)) granted.1 after.census written;
        others = λ g state other e. rest.idle g state
            (stood frames.census asked.census f g (Loading key) state granted.0 other (stood asked.census after.census f g (Ready key 1) state written other e));
        outcomes = λ g k n value e v. ⊎_elim
            (λ (t : (g ≡ f) × (Ready key 1 ≡ Ready k n)).
            ⊎_elim
            (λ (u : (g ≡ f) × (Some found ≡ Some value)).
            subst (λ o. IsOutcomeOf layout told k o) (same_Some found value u.1) (subst (λ o. IsOutcomeOf layout told o found) (ready_key key k 1 n t.1) outcome))
            (λ (u : (g ≢ f) × (slice_get asked.values g ≡ Some (Some value))). absurd (u.0 t.0))
            (at-set asked.values f g (Some found) (Some value) (ap (λ xs. slice_get xs g) (sym values) ∙ v)))
            (λ (t : (g ≢ f) × (slice_get asked.census g ≡ Some (Ready k n))).
            rest.outcomes g k n value (stood frames.census asked.census f g (Loading key) (Ready k n) granted.0 t.0 t.1)
            (stood frames.values asked.values f g None (Some value) emptied t.0 (stood asked.values after.values f g (Some found) (Some value) values t.0 v)))
            (at-set asked.census f g (Ready key 1) (Ready k n) (ap (λ xs. slice_get xs g) (sym written) ∙ e));
      }

  -- or with nothing
  pub given_up : (frames : Frames ℕ Outcome) (key f : ℕ) → AreAtRest layout told frames → (asked after : Frames ℕ Outcome)
      → asked ≡ after_ask key frames (Granted f) → IsLoadingAt asked.census f → after ≡ after_settle f None asked → AreAtRest layout told after
  given_up frames key f rest asked after ask loading settle =
      let granted = granted_at frames key f asked ask loading in
      let emptied : asked.values ≡ set frames.values f None = ap (λ (p : Frames ℕ Outcome). p.values) ask in
      let nothing : Option Outcome = None in
      let written : after.census ≡ set asked.census f no_key = ap (λ (p : Frames ℕ Outcome). p.census) settle ∙ changed-at asked.census f (Loading key) (settled nothing) granted.1 in
      let values : after.values ≡ set asked.values f None = ap (λ (p : Frames ℕ Outcome). p.values) settle in
      record {
        some = omega (arith, rest.some, ap length written, length-set asked.census f no_key, ap length granted.0, length-set frames.census f (Loading key));
        idle = λ g state e. ⊎_elim
            (λ (t : (g ≡ f) × (no_key ≡ state)). subst IsIdle t.1 tt)
            (λ (t : (g ≢ f) × (slice_get asked.census g ≡ Some state)). rest.idle g state (stood frames.census asked.census f g (Loading key) state granted.0 t.0 t.1))
            (at-set asked.census f g no_key state (ap (λ xs. slice_get xs g) (sym written) ∙ e));
        outcomes = λ g k n value e v. ⊎_elim
            (λ (t : (g ≡ f) × (no_key ≡ Ready k n)). absurd (empty_ready k n t.1))
            (λ (t : (g ≢ f) × (slice_get asked.census g ≡ Some (Ready k n))).
            rest.outcomes g k n value (stood frames.census asked.census f g (Loading key) (Ready k n) granted.0 t.0 t.1)
            (stood frames.values asked.values f g None (Some value) emptied t.0 (stood asked.values after.values f g None (Some value) values t.0 v)))
            (at-set asked.census f g no_key (Ready k n) (ap (λ xs. slice_get xs g) (sym written) ∙ e));
      }

  -- a turn ends
  pub at_rest_again : (frames : Frames ℕ Outcome) (key f : ℕ) → IsHeld layout told key f frames → (after : Frames ℕ Outcome) → after ≡ after_unpin f frames → AreAtRest layout told after
  at_rest_again frames key f held after is =
      let written : after.census ≡ set frames.census f (Ready key 0) = ap (λ (p : Frames ℕ Outcome). p.census) is ∙ changed-at frames.census f (Ready key 1) unpinned held.here in
      let values : after.values ≡ frames.values = ap (λ (p : Frames ℕ Outcome). p.values) is in
      record {
        some = omega (arith, held.some, ap length written, length-set frames.census f (Ready key 0));
        idle = λ g state e. ⊎_elim
            (λ (t : (g ≡ f) × (Ready key 0 ≡ state)). subst IsIdle t.1 refl)
            (λ (t : (g ≢ f) × (slice_get frames.census g ≡ Some state)). held.others g state t.0 t.1)
            (at-set frames.census f g (Ready key 0) state (ap (λ xs. slice_get xs g) (sym written) ∙ e));
        outcomes = λ g k n found e v.
            let was = ap (λ xs. slice_get xs g) (sym values) ∙ v in
            ⊎_elim
            (λ (t : (g ≡ f) × (Ready key 0 ≡ Ready k n)).
            held.outcomes g k 1 found (ap (slice_get frames.census) t.0 ∙ held.here ∙ ap (λ o. Some (Ready o 1)) (ready_key key k 0 n t.1)) was)
            (λ (t : (g ≢ f) × (slice_get frames.census g ≡ Some (Ready k n))). held.outcomes g k n found t.1 was)
            (at-set frames.census f g (Ready key 0) (Ready k n) (ap (λ xs. slice_get xs g) (sym written) ∙ e));
      }

  -- what is seen in the frame of a turn
  pub seen : (frames : Frames ℕ Outcome) (key f : ℕ) (found : Outcome) → IsHeld layout told key f frames → slice_get frames.values f ≡ Some (Some found) → IsOutcomeOf layout told key found
  seen frames key f found held at = held.outcomes f key 1 found held.here at

  -- frames of which none is used yet
  each_empty : (n f : ℕ) (state : FrameState ℕ) → slice_get (replicate n no_key) f ≡ Some state → state ≡ Empty
  each_empty n f state e =
      let short : f < n = omega (arith, slice_get_within (replicate n no_key) f state e, length-replicate n no_key) in
      sym (get_or_from_slice_get (replicate n no_key) f state no_key e) ∙ get_or-replicate n f no_key no_key short

  pub none_used : (n : ℕ) → 1 ≤ n → (frames : Frames ℕ Outcome) → frames ≡ empty_frames n → AreAtRest layout told frames
  none_used n some frames is =
      let census : frames.census ≡ replicate n no_key = ap (λ (p : Frames ℕ Outcome). p.census) is in
      record {
        some = omega (arith, ap length census, length-replicate n no_key);
        idle = λ f state e. subst IsIdle (sym (each_empty n f state (ap (λ xs. slice_get xs f) (sym census) ∙ e))) tt;
        outcomes = λ f k m found e v. absurd (empty_ready k m (sym (each_empty n f (Ready k m) (ap (λ xs. slice_get xs f) (sym census) ∙ e))));
      }
