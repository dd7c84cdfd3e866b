-- What is found by the notes of keys, and how the notes follow the frames.
use Rattle.std.proofs.Common.{◌≡◌, ◌≢◌, ◌∙◌, ℕ, ◌+◌, ◌<◌, Bool, true, false, cond, ltb, List, length, get_or, set, position, Option, Some, None, refl, sym, ap, subst, ⊎_elim, arith}
use Rattle.std.specs.List.{slice_get}
use Rattle.std.specs.Cmp.{IsPartialEquivalence}
use Rattle.std.specs.HashMap.{HashMap, get, spare}
use Rattle.std.proofs.lemmas.Option.{none-some, same_Some, slice_get-get_or}
use Rattle.std.proofs.lemmas.Bool.{both_ways, cases_eq, false_from_ne_true, ltb-true}
use Rattle.frame_pool.specs.declared.frame.FrameState.{FrameState}
use Rattle.frame_pool.specs.declared.frame.FrameState.TheVariants.{Empty, Loading, Ready}
use Rattle.frame_pool.specs.States.{has_key, state_key}
use Rattle.frame_pool.specs.Frames.{HasKeysOnce}
use Rattle.frame_pool.specs.Moves.{NoneHas}
use Rattle.frame_pool.specs.Finding.{AreNoted, HasRoom}
use Rattle.frame_pool.proofs.Places.{at-set, position-at, none-at}
use Rattle.frame_pool.proofs.Pools.{has-alike}

module _ {K S : Type 0} (eq : K → K → Bool) (census : List (FrameState K)) (notes : HashMap K ℕ S) (noted : AreNoted eq census notes) where
  -- no two frames have one key, since each is noted with its frame
  pub noted-once : HasKeysOnce eq census
  noted-once key f g one other here there has too = same_Some f g (sym (noted f one key here has) ∙ noted g other key there too)

  module _ (key : K) where
    holder_by : (f : ℕ) (state : FrameState K) → slice_get census f ≡ Some state → has_key eq key state ≡ true → (o : Option ℕ) → position (has_key eq key) census ≡ o → position (has_key eq key) census ≡ Some f
    holder_by f state at has None place = absurd (both_ways (has_key eq key state) (none-at (has_key eq key) census place f state at) has)
    holder_by f state at has (Some g) place =
        let h = position-at (has_key eq key) census g state place in
        place ∙ sym (noted g h.0 key h.1 h.2) ∙ noted f state key at has

    -- the frame that has the key is its holder
    pub holder-at : (f : ℕ) (state : FrameState K) → slice_get census f ≡ Some state → has_key eq key state ≡ true → position (has_key eq key) census ≡ Some f
    holder-at f state at has = holder_by f state at has (position (has_key eq key) census) refl

    nobody_by : ((f : ℕ) (state : FrameState K) → slice_get census f ≡ Some state → has_key eq key state ≡ true → ⊥) → (d : FrameState K) (o : Option ℕ) → position (has_key eq key) census ≡ o → position (has_key eq key) census ≡ None
    nobody_by none d None place = place
    nobody_by none d (Some f) place = let h = position-at (has_key eq key) census f d place in absurd (none f h.0 h.1 h.2)

    -- a key that isn't noted has no holder
    pub nobody-unnoted : get eq notes key ≡ None → position (has_key eq key) census ≡ None
    nobody-unnoted is = nobody_by (λ f state at has. none-some f (sym is ∙ noted f state key at has)) Empty (position (has_key eq key) census) refl

    -- nor has a key with a stale note
    pub nobody-stale : (f : ℕ) → get eq notes key ≡ Some f → ((state : FrameState K) → slice_get census f ≡ Some state → has_key eq key state ≡ true → ⊥) → position (has_key eq key) census ≡ None
    nobody-stale f is stale =
        nobody_by (λ g state at has. stale state (ap (slice_get census) (same_Some f g (sym is ∙ noted g state key at has)) ∙ at) has) Empty (position (has_key eq key) census) refl

module _ {K S : Type 0} (eq : K → K → Bool) (census : List (FrameState K)) (notes : HashMap K ℕ S) (noted : AreNoted eq census notes) (f : ℕ) where
  -- a state with no other keys is written
  pub noted-kept : (old new : FrameState K) → slice_get census f ≡ Some old → ((key : K) → has_key eq key new ≡ true → has_key eq key old ≡ true) → AreNoted eq (set census f new) notes
  noted-kept old new at sub g state key here has = ⊎_elim
      (λ (t : (g ≡ f) × (new ≡ state)). noted g old key (ap (slice_get census) t.0 ∙ at) (sub key (subst (λ s. has_key eq key s ≡ true) (sym t.1) has)))
      (λ (t : (g ≢ f) × (slice_get census g ≡ Some state)). noted g state key t.1 has)
      (at-set census f g new state here)

  -- a key that no frame has is written and noted
  module _ (laws : IsPartialEquivalence eq) (key : K) (none : NoneHas eq key census) (later : HashMap K ℕ S) (put : (other : K) → get eq later other ≡ cond (eq key other) (Some f) (get eq notes other)) where
    other_key : (g : ℕ) (state : FrameState K) (other : K) → slice_get census g ≡ Some state → has_key eq other state ≡ true → eq key other ≡ false
    other_key g state other at has = false_from_ne_true (eq key other) (λ same. both_ways (has_key eq key state) (none g state at) (has-alike eq laws state key other has same))

    pub noted-given : AreNoted eq (set census f (Loading key)) later
    noted-given g state other here has = ⊎_elim
        (λ (t : (g ≡ f) × (Loading key ≡ state)).
        put other
        ∙ ap (λ b. cond b (Some f) (get eq notes other)) (subst (λ s. has_key eq other s ≡ true) (sym t.1) has)
        ∙ ap Some (sym t.0))
        (λ (t : (g ≢ f) × (slice_get census g ≡ Some state)).
        put other
        ∙ ap (λ b. cond b (Some f) (get eq notes other)) (other_key g state other t.1 has)
        ∙ noted g state other t.1 has)
        (at-set census f g (Loading key) state here)

module _ {K : Type 0} (eq : K → K → Bool) where
  has-by_key : (state : FrameState K) (own other : K) → state_key state ≡ Some own → has_key eq other state ≡ eq own other
  has-by_key Empty own other is = absurd (none-some own is)
  has-by_key (Loading key) own other is = ap (λ k. eq k other) (same_Some key own is)
  has-by_key (Ready key pins) own other is = ap (λ k. eq k other) (same_Some key own is)

  has-no_key : (state : FrameState K) (other : K) → state_key state ≡ None → has_key eq other state ≡ false
  has-no_key Empty other is = refl
  has-no_key (Loading key) other is = absurd (none-some key (sym is))
  has-no_key (Ready key pins) other is = absurd (none-some key (sym is))

  module _ {S : Type 0} (census : List (FrameState K)) where
    -- the keys of the frames below i are noted
    abbrev pub AreNotedBelow : ℕ → HashMap K ℕ S → Type 0
    AreNotedBelow i notes = (f : ℕ) (state : FrameState K) (key : K) → f < i → slice_get census f ≡ Some state → has_key eq key state ≡ true → get eq notes key ≡ Some f

    module _ (i : ℕ) (here : FrameState K) (at : slice_get census i ≡ Some here) (notes : HashMap K ℕ S) (below : AreNotedBelow i notes) where
      at_last : (f : ℕ) (state : FrameState K) → f ≡ i → slice_get census f ≡ Some state → here ≡ state
      at_last f state same is = same_Some here state (sym at ∙ ap (slice_get census) (sym same) ∙ is)

      -- a frame without a key
      pub below-keyless : state_key here ≡ None → AreNotedBelow (i + 1) notes
      below-keyless none f state key less is has = ⊎_elim
          (λ (same : f ≡ i). absurd (both_ways (has_key eq key state) (subst (λ s. has_key eq key s ≡ false) (at_last f state same is) (has-no_key here key none)) has))
          (λ (other : f ≡ i → ⊥). below f state key (omega arith) is has)
          (cases_eq f i)

      -- a frame whose key was noted now
      pub below-put : HasKeysOnce eq census → (own : K) → state_key here ≡ Some own → (later : HashMap K ℕ S) → ((other : K) → get eq later other ≡ cond (eq own other) (Some i) (get eq notes other)) → AreNotedBelow (i + 1) later
      below-put once own key later put f state other less is has = ⊎_elim
          (λ (same : f ≡ i).
          put other
          ∙ ap (λ b. cond b (Some i) (get eq notes other)) (sym (has-by_key here own other key) ∙ subst (λ s. has_key eq other s ≡ true) (sym (at_last f state same is)) has)
          ∙ ap Some (sym same))
          (λ (apart : f ≡ i → ⊥).
          put other
          ∙ ap (λ b. cond b (Some i) (get eq notes other)) (false_from_ne_true (eq own other) (λ same. apart (once other f i state here is at has (has-by_key here own other key ∙ same))))
          ∙ below f state other (omega arith) is has)
          (cases_eq f i)

-- what is read at a place inside of a list stands there
pub inside-reads : {A : Type 0} (xs : List A) (i : ℕ) (x : A) → ltb i (length xs) ≡ true → x ≡ get_or xs i x → slice_get xs i ≡ Some x
inside-reads xs i x inside read = slice_get-get_or xs i x (ltb-true i (length xs) inside) ∙ ap Some (sym read)

module _ {K S : Type 0} (one other : HashMap K ℕ S) (same : one ≡ other) where
  pub same-get : (eq : K → K → Bool) (key : K) → get eq one key ≡ get eq other key
  same-get eq key = ap (λ m. get eq m key) same

  pub same-room : (n : ℕ) → HasRoom n other → HasRoom n one
  same-room n = subst (HasRoom n) (sym same)

  pub same-spare : (n k : ℕ) → n < spare other + k → n < spare one + k
  same-spare n k = subst (λ m. n < spare m + k) (sym same)
