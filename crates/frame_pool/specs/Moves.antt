-- What a pool answers, and what each call leaves: this project's own.
use Rattle.std.specs.Prelude.{◌≡◌, ℕ, ◌+◌, ◌-◌, Bool, true, false, not, eqb, List, ◌∷◌, filter, slice_get}
use Rattle.std.specs.Prelude.{slice_index_or, slice_set, Option, Some, None, ⊤}
use Rattle.frame_pool.specs.declared.frame.FrameState.{FrameState}
use Rattle.frame_pool.specs.declared.frame.FrameState.TheVariants.{Empty, Loading, Ready}
use Rattle.frame_pool.specs.declared.frame.Asked.{Asked}
use Rattle.frame_pool.specs.declared.frame.Asked.TheVariants.{Hit, Granted, Loading as Waiting, Busy}
use Rattle.frame_pool.specs.States.{has_key, is_pinned}
use Rattle.frame_pool.specs.Frames.{Frames, EachFrame, IsLoadingAt, IsPinnedAt, victim}

-- no frame has the key
abbrev pub NoneHas : {K : Type 0} → (K → K → Bool) → K → List (FrameState K) → Type 0
NoneHas eq key census = EachFrame (λ state. has_key eq key state ≡ false) census

-- the answer to one who asks for the key. A hit is a frame that is ready with the key. One waits where a frame is
-- loading it. All is busy where no frame has the key and every one is pinned. Else the victim is granted
abbrev pub IsAskAnswer : {K V : Type 0} → (K → K → Bool) → K → Frames K V → Asked → Type 0
IsAskAnswer {K} eq key frames (Hit f) = (own : K) × (pins : ℕ) × (slice_get frames.census f ≡ Some (Ready own pins))
    × (eq own key ≡ true)
IsAskAnswer {K} eq key frames (Granted f) = NoneHas eq key frames.census × (victim frames.census frames.order ≡ Some f)
IsAskAnswer {K} eq key frames Waiting = (f : ℕ) × (own : K) × (slice_get frames.census f ≡ Some (Loading own))
    × (eq own key ≡ true)
IsAskAnswer {K} eq key frames Busy = NoneHas eq key frames.census
    × EachFrame (λ state. is_pinned state ≡ true) frames.census

-- the order with f at its front, and the others as they stood
abbrev pub asked_last : ℕ → List ℕ → List ℕ
asked_last f order = f ∷ filter (λ g. not (eqb g f)) order

-- the state with one pin more
abbrev pub pinned : {K : Type 0} → FrameState K → FrameState K
pinned Empty = Empty
pinned (Loading key) = Loading key
pinned (Ready key pins) = Ready key (pins + 1)

-- the state with one pin less
abbrev pub unpinned : {K : Type 0} → FrameState K → FrameState K
unpinned Empty = Empty
unpinned (Loading key) = Loading key
unpinned (Ready key pins) = Ready key (pins - 1)

-- the state once the value of its key has come, or has not
abbrev pub settled : {K V : Type 0} → Option V → FrameState K → FrameState K
settled None state = Empty
settled (Some value) Empty = Empty
settled (Some value) (Loading key) = Ready key 1
settled (Some value) (Ready key pins) = Ready key pins

-- the census with another state at f
abbrev pub changed : {K : Type 0} → ℕ → (FrameState K → FrameState K) → List (FrameState K) → List (FrameState K)
changed f change census = slice_set census f (change (slice_index_or census f Empty))

-- the frames after an answer
abbrev pub after_ask : {K V : Type 0} → K → Frames K V → Asked → Frames K V
after_ask key frames (Hit f) = record {
  census = changed f pinned frames.census;
  values = frames.values;
  order =
      asked_last f frames.order;
}
after_ask key frames (Granted f) = record {
  census = changed f
      (λ _. Loading key) frames.census;
  values = slice_set frames.values f None;
  order = asked_last f frames.order;
}
after_ask key frames Waiting = frames
after_ask key frames Busy = frames

-- the frames after the value of frame f has come, or has not
abbrev pub after_settle : {K V : Type 0} → ℕ → Option V → Frames K V → Frames K V
after_settle f value frames = record {
  census = changed f
      (settled value) frames.census;
  values = slice_set frames.values f value;
  order = frames.order;
}

-- the frames after frame f has lost a pin
abbrev pub after_unpin : {K V : Type 0} → ℕ → Frames K V → Frames K V
after_unpin f frames = record {
  census = changed f unpinned frames.census;
  values = frames.values;
  order =
      frames.order;
}

-- what the one who asked may do next: use and unpin the frame that was hit, settle the one that was granted
abbrev pub MayGoOn : {K : Type 0} → Asked → List (FrameState K) → Type 0
MayGoOn (Hit f) census = IsPinnedAt census f
MayGoOn (Granted f) census = IsLoadingAt census f
MayGoOn Waiting census = ⊤
MayGoOn Busy census = ⊤
