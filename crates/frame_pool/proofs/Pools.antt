-- Each move keeps what holds of every pool.
use Rattle.std.proofs.Common.{◌≡◌, ◌≢◌, ◌∙◌, ℕ, ◌<◌, ◌≤◌, Bool, true, eqb, List, length, set, Option, Some, None, sym, ap, subst, ⊎_elim}
use Rattle.std.specs.List.{slice_get, range_with_len, count_by}
use Rattle.std.specs.List.Sorted.{IsPermutation}
use Rattle.std.specs.Cmp.{IsPartialEquivalence}
use Rattle.std.proofs.lemmas.List.{length-set}
use Rattle.std.proofs.lemmas.Option.{slice_get_within, get_or_from_slice_get}
use Rattle.std.proofs.lemmas.Bool.{both_ways, false≢true}
use Rattle.frame_pool.specs.declared.frame.FrameState.{FrameState}
use Rattle.frame_pool.specs.declared.frame.FrameState.TheVariants.{Empty, Loading, Ready}
use Rattle.frame_pool.specs.States.{has_key}
use Rattle.frame_pool.specs.Frames.{IsPool, HasKeysOnce, HasValues}
use Rattle.frame_pool.specs.Moves.{NoneHas, asked_last, changed, settled}
use Rattle.frame_pool.proofs.Fronts.{count-order, order-asked_last}
use Rattle.frame_pool.proofs.Places.{at-set, get-set_same, get-set_other}

module _ {K : Type 0} where
  -- a change of a state that is known
  pub changed-at : (census : List (FrameState K)) (f : ℕ) (state : FrameState K) (change : FrameState K → FrameState K) → slice_get census f ≡ Some state → changed f change census ≡ set census f (change state)
  changed-at census f state change at = ap (λ s. set census f (change s)) (get_or_from_slice_get census f state Empty at)

module _ {K : Type 0} (eq : K → K → Bool) where
  -- a state in a written census has a key only where the old one had it
  old_has : (census : List (FrameState K)) (f g : ℕ) (old new one : FrameState K) (key : K) → slice_get census f ≡ Some old → (has_key eq key new ≡ true → has_key eq key old ≡ true) → slice_get (set census f new) g ≡ Some one → has_key eq key one ≡ true
      → (state : FrameState K) × (slice_get census g ≡ Some state) × (has_key eq key state ≡ true)
  old_has census f g old new one key at sub here has = ⊎_elim
      (λ (t : (g ≡ f) × (new ≡ one)). (old, ap (slice_get census) t.0 ∙ at, sub (subst (λ s. has_key eq key s ≡ true) (sym t.1) has)))
      (λ (t : (g ≢ f) × (slice_get census g ≡ Some one)). (one, t.1, has))
      (at-set census f g new one here)

  -- a state with no other keys is written
  pub keys-kept : (census : List (FrameState K)) (f : ℕ) (old new : FrameState K) → HasKeysOnce eq census → slice_get census f ≡ Some old → ((key : K) → has_key eq key new ≡ true → has_key eq key old ≡ true) → HasKeysOnce eq (set census f new)
  keys-kept census f old new once at sub key g h one other here there has too =
      let a = old_has census f g old new one key at (sub key) here has in
      let b = old_has census f h old new other key at (sub key) there too in
      once key g h a.0 b.0 a.1 b.1 a.2 b.2

  -- two keys that are equal to a third
  alike : IsPartialEquivalence eq → (own key third : K) → eq own third ≡ true → eq key third ≡ true → eq own key ≡ true
  alike laws own key third a b = laws.trans own third key a (laws.symm third key ∙ b)

  pub has-alike : IsPartialEquivalence eq → (state : FrameState K) (key third : K) → has_key eq third state ≡ true → eq key third ≡ true → has_key eq key state ≡ true
  has-alike laws Empty key third a b = a
  has-alike laws (Loading own) key third a b = alike laws own key third a b
  has-alike laws (Ready own pins) key third a b = alike laws own key third a b

  -- a key that no frame has is written
  pub keys-new : IsPartialEquivalence eq → (census : List (FrameState K)) (f : ℕ) (key : K) → HasKeysOnce eq census → NoneHas eq key census → HasKeysOnce eq (set census f (Loading key))
  keys-new laws census f key once none third g h one other here there has too =
      let clash : (i j : ℕ) (state : FrameState K) → Loading key ≡ one → slice_get census j ≡ Some state → has_key eq third state ≡ true → i ≡ j = λ i j state is at same. absurd (both_ways (has_key eq key state) (none j state at) (has-alike laws state key third same (subst (λ s. has_key eq third s ≡ true) (sym is) has))) in
      ⊎_elim
      (λ (a : (g ≡ f) × (Loading key ≡ one)). ⊎_elim
      (λ (b : (h ≡ f) × (Loading key ≡ other)). a.0 ∙ sym b.0)
      (λ (b : (h ≢ f) × (slice_get census h ≡ Some other)). clash g h other a.1 b.1 too)
      (at-set census f h (Loading key) other there))
      (λ (a : (g ≢ f) × (slice_get census g ≡ Some one)). ⊎_elim
      (λ (b : (h ≡ f) × (Loading key ≡ other)). absurd (both_ways (has_key eq key one) (none g one a.1) (has-alike laws one key third has (subst (λ s. has_key eq third s ≡ true) (sym b.1) too))))
      (λ (b : (h ≢ f) × (slice_get census h ≡ Some other)). once third g h one other a.1 b.1 has too)
      (at-set census f h (Loading key) other there))
      (at-set census f g (Loading key) one here)

module _ {K V : Type 0} where
  -- a frame that isn't ready is written beside its value
  values-left : (census : List (FrameState K)) (values : List (Option V)) (f : ℕ) (new : FrameState K) (value : Option V) → HasValues census values → ((key : K) (pins : ℕ) → new ≡ Ready key pins → ⊥) → HasValues (set census f new) (set values f value)
  values-left census values f new value filled unready g (key, pins, here) = ⊎_elim
      (λ (t : (g ≡ f) × (new ≡ Ready key pins)). absurd (unready key pins t.1))
      (λ (t : (g ≢ f) × (slice_get census g ≡ Some (Ready key pins))). let old = filled g (key, pins, t.1) in (old.0, get-set_other values f g value t.0 ∙ old.1))
      (at-set census f g new (Ready key pins) here)

  -- a frame is written beside a value that is there
  values-filled : (census : List (FrameState K)) (values : List (Option V)) (f : ℕ) (new : FrameState K) (value : V) → f < length values → HasValues census values → HasValues (set census f new) (set values f (Some value))
  values-filled census values f new value inside filled g (key, pins, here) = ⊎_elim
      (λ (t : (g ≡ f) × (new ≡ Ready key pins)). (value, ap (slice_get (set values f (Some value))) t.0 ∙ get-set_same values f (Some value) inside))
      (λ (t : (g ≢ f) × (slice_get census g ≡ Some (Ready key pins))). let old = filled g (key, pins, t.1) in (old.0, get-set_other values f g (Some value) t.0 ∙ old.1))
      (at-set census f g new (Ready key pins) here)

  -- a ready frame is written, with other pins
  values-kept : (census : List (FrameState K)) (values : List (Option V)) (f : ℕ) (own : K) (pins : ℕ) (new : FrameState K) → slice_get census f ≡ Some (Ready own pins) → HasValues census values → HasValues (set census f new) values
  values-kept census values f own pins new at filled g (key, more, here) = ⊎_elim
      (λ (t : (g ≡ f) × (new ≡ Ready key more)). filled g (own, pins, ap (slice_get census) t.0 ∙ at))
      (λ (t : (g ≢ f) × (slice_get census g ≡ Some (Ready key more))). filled g (key, more, t.1))
      (at-set census f g new (Ready key more) here)

module _ {K V : Type 0} (eq : K → K → Bool) where
  module _ (census : List (FrameState K)) (values : List (Option V)) (order : List ℕ) (f : ℕ) (pool : IsPool eq census values order) where
    -- each frame's number stands once in the order
    pub once-in_order : f < length census → count_by (λ g. eqb g f) order ≡ 1
    once-in_order inside = count-order f (length census) order pool.numbers inside

    same_numbers : (state : FrameState K) (other : List ℕ) → IsPermutation (range_with_len 0 (length census)) other → IsPermutation (range_with_len 0 (length (set census f state))) other
    same_numbers state other = subst (λ n. IsPermutation (range_with_len 0 n) other) (sym (length-set census f state))

    -- other pins
    pub IsPool-pins : (own : K) (pins more : ℕ) → slice_get census f ≡ Some (Ready own pins) → IsPool eq (set census f (Ready own more)) values order
    IsPool-pins own pins more at =
        let state : FrameState K = Ready own more in
        let many = length-set census f state in
        record {
          some = subst (λ n. 1 ≤ n) (sym many) pool.some;
          most = subst (λ n. n ≤ 1024) (sym many) pool.most;
          places = pool.places ∙ sym many;
          keys = keys-kept eq census f (Ready own pins) state pool.keys at (λ key h. h);
          filled = values-kept census values f own pins state at pool.filled;
          numbers = same_numbers state order pool.numbers;
        }

    -- the frame comes to the front
    pub IsPool-front : f < length census → IsPool eq census values (asked_last f order)
    IsPool-front inside = record {
      some = pool.some;
      most = pool.most;
      places = pool.places;
      keys = pool.keys;
      filled = pool.filled;
      numbers = order-asked_last f (length census) order pool.numbers inside;
    }

    -- the frame loads a key that no frame has
    pub IsPool-loading : IsPartialEquivalence eq → (key : K) → NoneHas eq key census → IsPool eq (set census f (Loading key)) (set values f None) order
    IsPool-loading laws key none =
        let state : FrameState K = Loading key in
        let many = length-set census f state in
        record {
          some = subst (λ n. 1 ≤ n) (sym many) pool.some;
          most = subst (λ n. n ≤ 1024) (sym many) pool.most;
          places = length-set values f None ∙ pool.places ∙ sym many;
          keys = keys-new eq laws census f key pool.keys none;
          filled = values-left census values f state None pool.filled (λ k pins e. cc);
          numbers = same_numbers state order pool.numbers;
        }

    -- the loading has brought the value
    pub IsPool-filled : (key : K) (value : V) → slice_get census f ≡ Some (Loading key) → IsPool eq (set census f (Ready key 1)) (set values f (Some value)) order
    IsPool-filled key value at =
        let state : FrameState K = Ready key 1 in
        let many = length-set census f state in
        let inside = slice_get_within census f (Loading key) at in
        record {
          some = subst (λ n. 1 ≤ n) (sym many) pool.some;
          most = subst (λ n. n ≤ 1024) (sym many) pool.most;
          places = length-set values f (Some value) ∙ pool.places ∙ sym many;
          keys = keys-kept eq census f (Loading key) state pool.keys at (λ k h. h);
          filled = values-filled census values f state value (subst (λ n. f < n) (sym pool.places) inside) pool.filled;
          numbers = same_numbers state order pool.numbers;
        }

    -- the loading has failed
    pub IsPool-emptied : (key : K) → slice_get census f ≡ Some (Loading key) → IsPool eq (set census f Empty) (set values f None) order
    IsPool-emptied key at =
        let state : FrameState K = Empty in
        let many = length-set census f state in
        record {
          some = subst (λ n. 1 ≤ n) (sym many) pool.some;
          most = subst (λ n. n ≤ 1024) (sym many) pool.most;
          places = length-set values f None ∙ pool.places ∙ sym many;
          keys = keys-kept eq census f (Loading key) state pool.keys at (λ k h. absurd (false≢true h));
          filled = values-left census values f state None pool.filled (λ k pins e. cc);
          numbers = same_numbers state order pool.numbers;
        }

    pub IsPool-settled : (key : K) (value : Option V) → slice_get census f ≡ Some (Loading key) → IsPool eq (set census f (settled value (Loading key))) (set values f value) order
    IsPool-settled key None at = IsPool-emptied key at
    IsPool-settled key (Some value) at = IsPool-filled key value at
