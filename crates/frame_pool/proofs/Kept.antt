-- Each move keeps what a pool keeps beside its frames.
use Rattle.std.proofs.Common.{◌≡◌, ◌∙◌, ℕ, zero, suc, ◌<◌, ◌≤◌, Bool, true, cond, min, List, length, replicate, set, Option, Some, None, refl, sym, subst, arith}
use Rattle.std.specs.List.{slice_get, range_with_len}
use Rattle.std.specs.List.Sorted.{IsPermutation}
use Rattle.std.specs.Cmp.{IsPartialEquivalence}
use Rattle.std.specs.HashMap.{HashMap}
use Rattle.std.proofs.lemmas.List.{length-set, length-replicate}
use Rattle.std.proofs.lemmas.List.Sorted.{IsPermutation-refl}
use Rattle.std.proofs.lemmas.Option.{none-some, same_Some}
use Rattle.std.proofs.lemmas.Bool.{false≢true}
use Rattle.frame_pool.specs.declared.frame.FrameState.{FrameState}
use Rattle.frame_pool.specs.declared.frame.FrameState.TheVariants.{Empty, Loading, Ready}
use Rattle.frame_pool.specs.States.{has_key, is_empty}
use Rattle.frame_pool.specs.Frames.{IsPool}
use Rattle.frame_pool.specs.Moves.{NoneHas, asked_last, settled}
use Rattle.frame_pool.specs.Finding.{AreNoted, HasRoom, NoneEmptyBelow, IsKept}
use Rattle.frame_pool.proofs.Pools.{IsPool-pins, IsPool-front, IsPool-loading, IsPool-settled}
use Rattle.frame_pool.proofs.Noted.{noted-kept}
use Rattle.frame_pool.proofs.Empties.{none_empty-set, none_empty-given}

module _ {K V S : Type 0} (eq : K → K → Bool) (census : List (FrameState K)) (values : List (Option V)) (order : List ℕ) (notes : HashMap K ℕ S) (least f : ℕ) (kept : IsKept eq census values order notes least) where
  same_room : (state : FrameState K) (other : HashMap K ℕ S) → HasRoom (length census) other → HasRoom (length (set census f state)) other
  same_room state other = subst (λ n. HasRoom n other) (sym (length-set census f state))

  -- other pins
  pub kept-pins : (own : K) (pins more : ℕ) → slice_get census f ≡ Some (Ready own pins) → IsKept eq (set census f (Ready own more)) values order notes least
  kept-pins own pins more at = record {
    frames = IsPool-pins eq census values order f kept.frames own pins more at;
    noted = noted-kept eq census notes kept.noted f (Ready own pins) (Ready own more) at (λ key h. h);
    room = same_room (Ready own more) notes kept.room;
    full = none_empty-given census least f (Ready own more) refl kept.full;
  }

  -- the frame comes to the front
  pub kept-front : f < length census → IsKept eq census values (asked_last f order) notes least
  kept-front inside = record {
    frames = IsPool-front eq census values order f kept.frames inside;
    noted = kept.noted;
    room = kept.room;
    full = kept.full;
  }

  -- the frame loads a key that no frame has, which is noted
  pub kept-loading : IsPartialEquivalence eq → (key : K) → NoneHas eq key census → (later : HashMap K ℕ S) → AreNoted eq (set census f (Loading key)) later → HasRoom (length census) later → (low : ℕ) → NoneEmptyBelow low census
      → IsKept eq (set census f (Loading key)) (set values f None) order later low
  kept-loading laws key none later noted room low below = record {
    frames = IsPool-loading eq census values order f kept.frames laws key none;
    noted = noted;
    room = same_room (Loading key) later room;
    full = none_empty-given census low f (Loading key) refl below;
  }

  fewer_keys : (key : K) (value : Option V) (other : K) → has_key eq other (settled value (Loading key)) ≡ true → has_key eq other (Loading key) ≡ true
  fewer_keys key None other has = absurd (false≢true has)
  fewer_keys key (Some value) other has = has

  -- the loading has ended
  pub kept-settled : (key : K) (value : Option V) → slice_get census f ≡ Some (Loading key)
      → IsKept eq (set census f (settled value (Loading key))) (set values f value) order notes (cond (is_empty (settled value (Loading key))) (min least f) least)
  kept-settled key value at = record {
    frames = IsPool-settled eq census values order f kept.frames key value at;
    noted = noted-kept eq census notes kept.noted f (Loading key) (settled value (Loading key)) at (fewer_keys key value);
    room = same_room (settled value (Loading key)) notes kept.room;
    full = none_empty-set census least f (settled value (Loading key)) kept.full;
  }

module _ {K : Type 0} where
  empty-at : (n f : ℕ) (state : FrameState K) → slice_get (replicate n Empty) f ≡ Some state → Empty ≡ state
  empty-at zero f state at = absurd (none-some state at)
  empty-at (suc n) zero state at = same_Some Empty state at
  empty-at (suc n) (suc f) state at = empty-at n f state at

  keyless : (eq : K → K → Bool) (n f : ℕ) (state : FrameState K) (key : K) → slice_get (replicate n Empty) f ≡ Some state → has_key eq key state ≡ true → ⊥
  keyless eq n f state key at has = false≢true (subst (λ s. has_key eq key s ≡ true) (sym (empty-at n f state at)) has)

module _ {K V : Type 0} (eq : K → K → Bool) (n : ℕ) where
  IsPool-empty : 1 ≤ n → n ≤ 1024 → IsPool {K = K} {V = V} eq (replicate n Empty) (replicate n None) (range_with_len 0 n)
  IsPool-empty some most = record {
    some = subst (λ k. 1 ≤ k) (sym (length-replicate n Empty)) some;
    most = subst (λ k. k ≤ 1024) (sym (length-replicate n Empty)) most;
    places = length-replicate n None ∙ sym (length-replicate n Empty);
    keys = λ key f g one other here there has too. absurd (keyless eq n f one key here has);
    filled = λ f ready. absurd (let same = empty-at n f (Ready ready.0 ready.1) ready.2 in cc);
    numbers = subst (λ k. IsPermutation (range_with_len 0 k) (range_with_len 0 n)) (sym (length-replicate n Empty)) (IsPermutation-refl (range_with_len 0 n));
  }

  -- empty frames, of which no key is noted
  pub kept-empty : {S : Type 0} → 1 ≤ n → n ≤ 1024 → (notes : HashMap K ℕ S) → HasRoom n notes → IsKept {K = K} {V = V} eq (replicate n Empty) (replicate n None) (range_with_len 0 n) notes 0
  kept-empty some most notes room = record {
    frames = IsPool-empty some most;
    noted = λ f state key at has. absurd (keyless eq n f state key at has);
    room = subst (λ k. HasRoom k notes) (sym (length-replicate n Empty)) room;
    full = λ f state less at. absurd (omega arith);
  }
