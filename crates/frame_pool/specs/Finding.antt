-- For proofs and inner functions: what a pool keeps beside its frames, so that no call looks at each of them: this
-- project's own.
use Rattle.std.specs.Prelude.{◌≡◌, ℕ, ◌+◌, ◌<◌, Bool, true, false, List, length, slice_get, Option, Some}
use Rattle.std.specs.HashMap.{HashMap, get, spare, hash_map_len}
use Rattle.frame_pool.specs.declared.frame.FrameState.{FrameState}
use Rattle.frame_pool.specs.States.{has_key, is_empty}
use Rattle.frame_pool.specs.Frames.{IsPool}

-- the key of each frame is noted with the frame's number. A key that was given up may be noted too
abbrev pub AreNoted : {K S : Type 0} → (K → K → Bool) → List (FrameState K) → HashMap K ℕ S → Type 0
AreNoted {K} eq census notes = (f : ℕ) (state : FrameState K) (key : K) → slice_get census f ≡ Some state
    → has_key eq key state ≡ true → get eq notes key ≡ Some f

-- without more memory there is room for a note of each of n frames, and one more
abbrev pub HasRoom : {K S : Type 0} → ℕ → HashMap K ℕ S → Type 0
HasRoom n notes = n < hash_map_len notes + spare notes

-- no frame below n is empty
abbrev pub NoneEmptyBelow : {K : Type 0} → ℕ → List (FrameState K) → Type 0
NoneEmptyBelow {K} n census = (f : ℕ) (state : FrameState K) → f < n → slice_get census f ≡ Some state
    → is_empty state ≡ false

-- what holds of every pool, of its frames and of what it keeps beside them
pub record IsKept {K V S : Type 0} (eq : K → K → Bool) (census : List (FrameState K)) (values : List (Option V))
    (order : List ℕ) (notes : HashMap K ℕ S) (least : ℕ) : Type 0 where
  pub frames : IsPool eq census values order
  pub noted : AreNoted eq census notes
  pub room : HasRoom (length census) notes
  pub full : NoneEmptyBelow least census
