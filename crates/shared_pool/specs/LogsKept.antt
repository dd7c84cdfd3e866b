-- For proofs and inner functions: each single change of a pool keeps what holds of the pool and its log alone.
use Rattle.std.proofs.Common.{◌≡◌, ◌≢◌, ◌⊎◌, inl, inr, ℕ, zero, suc, ◌+◌, ◌<◌, ◌≤◌, Bool, true, false, cond, eqb}
use Rattle.std.proofs.Common.{List, [], ◌∷◌, ◌++◌, length, map, set, position, Option, Some, None, refl, sym, ap, ◌∙◌}
use Rattle.std.proofs.Common.{subst, ⊎_elim, arith}
use Rattle.std.specs.List.{slice_get, count_by}
use Rattle.std.specs.Cmp.{IsEquivalence, partial_equiv_from_equiv}
use Rattle.std.proofs.lemmas.Bool.{false≢true, both_ways}
use Rattle.std.proofs.lemmas.Option.{none-some, same_Some}
use Rattle.std.proofs.lemmas.List.{length-set, length-map}
use Rattle.std.proofs.lemmas.List.Sums.{sum_by_push}
use Rattle.frame_pool.specs.declared.frame.FrameState.{FrameState}
use Rattle.frame_pool.specs.declared.frame.FrameState.TheVariants.{Empty, Loading, Ready}
use Rattle.frame_pool.specs.States.{has_key, is_empty, state_key}
use Rattle.frame_pool.specs.Frames.{HasKeysOnce, victim, either, last_free}
use Rattle.frame_pool.specs.Moves.{NoneHas}
use Rattle.frame_pool.proofs.Places.{position-at, none-at}
use Rattle.frame_pool.proofs.Pools.{keys-kept, keys-new, has-alike}
use Rattle.shared_pool.specs.declared.entry.Entry.{Entry}
use Rattle.shared_pool.specs.declared.entry.Entry.TheVariants.{Granted, Ended}
use Rattle.shared_pool.specs.Books.{grants, ends, takes, takes_any, is_same, is_there, AreDifferent, AreGranted}
use Rattle.shared_pool.specs.Books.{HasMoreKeys}
use Rattle.shared_pool.specs.Logs.{LogFits}
use Rattle.shared_pool.specs.Sums.{sum-set, sum-one, one-yes, at-map}

abbrev count : {A : Type 0} → (A → Bool) → A → ℕ
count p x = cond (p x) 1 0

module _ {K : Type 0} (eq : K → K → Bool) where
  more-keys : (n : ℕ) (log : List (Entry K)) (e : Entry K) → HasMoreKeys eq n log → HasMoreKeys eq n (log ++ e ∷ [])
  more-keys n log e more = (
    more.0,
    more.1,
    (λ i key at. let h = more.2 i key at in let p = sum_by_push (count (grants eq key)) log e in omega arith),
    more.3,
  )

  -- a frame keeps its key
  pub log-kept : (census : List (FrameState K)) (log : List (Entry K)) (f : ℕ) (old new : FrameState K)
      → LogFits eq census log → slice_get census f ≡ Some old → ((key : K) → has_key eq key new ≡ has_key eq key old)
      → LogFits eq (set census f new) log
  log-kept census log f old new fit at same = record {
    alike = fit.alike;
    once = keys-kept eq census f old new fit.once at (λ key h. sym (same key) ∙ h);
    balance = λ key. let s = sum-set (count (has_key eq key)) census f old new at in let e = ap
        (λ b. cond {A = ℕ} b 1 0) (same key) in let b = fit.balance key in omega arith;
    losses = subst (λ n. (count_by takes_any log ≡ 0)
        ⊎ HasMoreKeys eq n log) (sym (length-set census f new)) fit.losses;
  }

  -- a loading ends without a value
  pub log-ended : (census : List (FrameState K)) (log : List (Entry K)) (f pass : ℕ) (key : K) → LogFits eq census log
      → slice_get census f ≡ Some (Loading key) → LogFits eq (set census f Empty) (log ++ Ended pass key ∷ [])
  log-ended census log f pass key fit at = let e : Entry K = Ended pass key in record {
    alike = fit.alike;
    once = keys-kept eq census f (Loading key) Empty fit.once at (λ k h. absurd (false≢true h));
    balance = λ k.
        let s = sum-set (count (has_key eq k)) census f (Loading key) Empty at in
        let a = sum_by_push (count (grants eq k)) log e in
        let b = sum_by_push (count (ends eq k)) log e in
        let c = sum_by_push (count (takes eq k)) log e in
        let was = fit.balance k in omega arith;
    losses = subst (λ n. (count_by takes_any (log ++ e ∷ []) ≡ 0)
        ⊎ HasMoreKeys eq n (log ++ e ∷ [])) (sym (length-set census f Empty))
        (⊎_elim (λ none. let p = sum_by_push (count takes_any) log e in inl (omega arith))
        (λ more. inr (more-keys (length census) log e more)) fit.losses);
  }

  lost_is : (key : K) (old : FrameState K) → is_same eq key (state_key old) ≡ has_key eq key old
  lost_is key Empty = refl
  lost_is key (Loading own) = refl
  lost_is key (Ready own pins) = refl

  filled-if_lost : (own : K) (old : FrameState K) → state_key old ≡ Some own → is_empty old ≡ false
  filled-if_lost own Empty e = absurd (none-some own e)
  filled-if_lost own (Loading k) e = refl
  filled-if_lost own (Ready k pins) e = refl

  -- a frame that isn't empty is given up only where none is empty
  filled_by : (census : List (FrameState K)) (f : ℕ) (old : FrameState K) (first last : Option ℕ)
      → position is_empty census ≡ first → either first last ≡ Some f → slice_get census f ≡ Some old
      → is_empty old ≡ false → (g : ℕ) (state : FrameState K) → slice_get census g ≡ Some state
      → is_empty state ≡ false
  filled_by census f old None last e h at filled g state there = none-at is_empty census e g state there
  filled_by census f old (Some p) last e h at filled g state there =
      let place = position-at is_empty census f Empty (e ∙ h) in
      absurd (both_ways (is_empty old) filled (ap is_empty (same_Some old place.0 (sym at ∙ place.1)) ∙ place.2))

  abbrev key_or : K → FrameState K → K
  key_or key Empty = key
  key_or key (Loading own) = own
  key_or key (Ready own pins) = own

  has_own : IsEquivalence eq → (key : K) (state : FrameState K) → is_empty state ≡ false
      → has_key eq (key_or key state) state ≡ true
  has_own laws key Empty h = absurd (false≢true (sym h))
  has_own laws key (Loading own) h = laws.refl own
  has_own laws key (Ready own pins) h = laws.refl own

  -- a frame is granted for a key, in place of another or of none
  module _ (census : List (FrameState K)) (order : List ℕ) (log : List (Entry K)) (f pass : ℕ) (key : K)
      (old : FrameState K) (fit : LogFits eq census log) (at : slice_get census f ≡ Some old)
      (none : NoneHas eq key census) (given : victim census order ≡ Some f) where
    abbrev now : List (Entry K)
    now = log ++ Granted pass key (state_key old) ∷ []

    balanced : (k : K) → count_by (grants eq k) now
        ≡ (count_by (ends eq k) now + count_by (takes eq k) now) + count_by (has_key eq k)
        (set census f (Loading key))
    balanced k =
        let e : Entry K = Granted pass key (state_key old) in
        let s = sum-set (count (has_key eq k)) census f old (Loading key) at in
        let a = sum_by_push (count (grants eq k)) log e in
        let b = sum_by_push (count (ends eq k)) log e in
        let c = sum_by_push (count (takes eq k)) log e in
        let l = ap (λ b. cond {A = ℕ} b 1 0) (lost_is k old) in
        let was = fit.balance k in omega arith

    all_filled : is_empty old ≡ false → (g : ℕ) (state : FrameState K) → slice_get census g ≡ Some state
        → is_empty state ≡ false
    all_filled filled = filled_by census f old (position is_empty census) (last_free census order) refl given at filled

    -- a key of the census is that of a frame
    census_key : is_empty old ≡ false → (i : ℕ) (k : K) → slice_get (map (key_or key) census) i ≡ Some k
        → (state : FrameState K) × (slice_get census i ≡ Some state) × (has_key eq k state ≡ true)
    census_key filled i k a = let h = at-map (key_or key) census i k a in (
      h.0,
      h.1,
      subst
          (λ z. has_key eq z h.0 ≡ true) h.2 (has_own fit.alike key h.0 (all_filled filled i h.0 h.1)),
    )

    apart : is_empty old ≡ false → (j : ℕ) (other : K) → slice_get (map (key_or key) census) j ≡ Some other
        → eq key other ≡ true → ⊥
    apart filled j other b same = let h = census_key filled j other b in both_ways (has_key eq key h.0)
        (none j h.0 h.1) (has-alike eq (partial_equiv_from_equiv fit.alike) h.0 key other h.2 same)

    different : is_empty old ≡ false → AreDifferent eq (key ∷ map (key_or key) census)
    different filled zero zero one other a b same = refl
    different filled zero (suc j) one other a b same = absurd (apart filled j other b (ap
        (λ z. eq z other) (same_Some key one a) ∙ same))
    different filled (suc i) zero one other a b same = absurd (apart filled i one a (ap
        (λ z. eq z one) (same_Some key other b) ∙ (fit.alike.symm other one ∙ same)))
    different filled (suc i) (suc j) one other a b same =
        let h = census_key filled i one a in
        let k = census_key filled j other b in
        ap suc (fit.once one i j h.0 k.0 h.1 k.1 h.2
        (has-alike eq (partial_equiv_from_equiv fit.alike) k.0 one other k.2 same))

    granted : is_empty old ≡ false
        → AreGranted eq (log ++ Granted pass key (state_key old) ∷ []) (key ∷ map (key_or key) census)
    granted filled zero k a =
        let p = sum_by_push (count (grants eq k)) log (Granted pass key (state_key old)) in
        let yes_it = one-yes (eq key k) (ap
        (λ z. eq key z) (sym (same_Some key k a)) ∙ fit.alike.refl key) in omega arith
    granted filled (suc i) k a =
        let h = census_key filled i k a in
        let p = sum_by_push (count (grants eq k)) log (Granted pass key (state_key old)) in
        let o = sum-one (count (has_key eq k)) census i h.0 h.1 in
        let yes_it = one-yes (has_key eq k h.0) h.2 in
        let was = fit.balance k in omega arith

    lost_by : (lost : Option K) → state_key old ≡ lost → (count_by takes_any (log ++ Granted pass key lost ∷ []) ≡ 0)
        ⊎ HasMoreKeys eq (length census) (log ++ Granted pass key lost ∷ [])
    lost_by None e =
        let p = sum_by_push (count takes_any) log (Granted pass key None) in
        ⊎_elim (λ n. inl (omega arith))
        (λ more. inr (more-keys (length census) log (Granted pass key None) more)) fit.losses
    lost_by (Some own) e =
        let filled = filled-if_lost own old e in
        let less : length census < length (key ∷ map (key_or key) census) = omega
        (arith, length-map census (key_or key)) in
        inr (subst (λ l. HasMoreKeys eq (length census) (log ++ Granted pass key l ∷ [])) e
        (key ∷ map (key_or key) census, different filled, granted filled, less))

    pub log-granted : LogFits eq (set census f (Loading key)) (log ++ Granted pass key (state_key old) ∷ [])
    log-granted = record {
      alike = fit.alike;
      once = keys-new eq (partial_equiv_from_equiv fit.alike) census f key fit.once none;
      balance = balanced;
      losses = subst (λ n. (count_by takes_any now ≡ 0)
          ⊎ HasMoreKeys eq n now) (sym (length-set census f (Loading key))) (lost_by (state_key old) refl);
    }
