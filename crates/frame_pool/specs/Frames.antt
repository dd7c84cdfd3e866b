-- Frames as contracts see them: this project's own.
use Rattle.std.specs.Prelude.{◌≡◌, ℕ, ◌<◌, ◌≤◌, Bool, true, false, List, length, replicate, position, find, reverse}
use Rattle.std.specs.Prelude.{slice_get, Option, Some, None}
use Rattle.std.specs.List.{range_with_len}
use Rattle.std.specs.List.Sorted.{IsPermutation}
use Rattle.frame_pool.specs.declared.frame.FrameState.{FrameState}
use Rattle.frame_pool.specs.declared.frame.FrameState.TheVariants.{Empty, Loading, Ready}
use Rattle.frame_pool.specs.States.{has_key, is_empty, is_free, is_pinned, state_key}

-- the state of each frame, its value, and the numbers of the frames, the last asked first
pub record Frames (K V : Type 0) : Type 0 where
  pub census : List (FrameState K)
  pub values : List (Option V)
  pub order : List ℕ

-- the first of two choices that is there
abbrev pub either : Option ℕ → Option ℕ → Option ℕ
either (Some f) other = Some f
either None other = other

-- whether there is a frame in this state, ready and without pins
abbrev pub is_free_frame : {K : Type 0} → Option (FrameState K) → Bool
is_free_frame None = false
is_free_frame (Some state) = is_free state

-- the frame without pins that stands last in the order
abbrev pub last_free : {K : Type 0} → List (FrameState K) → List ℕ → Option ℕ
last_free census order = find (λ f. is_free_frame (slice_get census f)) (reverse order)

-- the frame that is given up: the empty one of least number, else the one without pins that stands last in the order
abbrev pub victim : {K : Type 0} → List (FrameState K) → List ℕ → Option ℕ
victim census order = either (position is_empty census) (last_free census order)

-- P holds of the state of each frame
abbrev pub EachFrame : {K : Type 0} → (FrameState K → Type 0) → List (FrameState K) → Type 0
EachFrame {K} P census = (f : ℕ) (state : FrameState K) → slice_get census f ≡ Some state → P state

-- frame f is loading a key
abbrev pub IsLoadingAt : {K : Type 0} → List (FrameState K) → ℕ → Type 0
IsLoadingAt {K} census f = (key : K) × (slice_get census f ≡ Some (Loading key))

-- frame f is ready
abbrev pub IsReadyAt : {K : Type 0} → List (FrameState K) → ℕ → Type 0
IsReadyAt {K} census f = (key : K) × (pins : ℕ) × (slice_get census f ≡ Some (Ready key pins))

-- frame f is ready and has a pin
abbrev pub IsPinnedAt : {K : Type 0} → List (FrameState K) → ℕ → Type 0
IsPinnedAt {K} census f = (key : K) × (pins : ℕ) × (slice_get census f ≡ Some (Ready key pins)) × (0 < pins)

-- no two frames have one key
abbrev pub HasKeysOnce : {K : Type 0} → (K → K → Bool) → List (FrameState K) → Type 0
HasKeysOnce {K} eq census = (key : K) (f g : ℕ) (one other : FrameState K) → slice_get census f ≡ Some one
    → slice_get census g ≡ Some other → has_key eq key one ≡ true → has_key eq key other ≡ true → f ≡ g

-- each frame that is ready has a value
abbrev pub HasValues : {K V : Type 0} → List (FrameState K) → List (Option V) → Type 0
HasValues {K} {V} census values = (f : ℕ) → IsReadyAt census f → (value : V) × (slice_get values f ≡ Some (Some value))

-- the most frames of a pool
abbrev pub most_frames : ℕ
most_frames = 1024

-- what holds of every pool
pub record IsPool {K V : Type 0} (eq : K → K → Bool) (census : List (FrameState K)) (values : List (Option V))
    (order : List ℕ) : Type 0 where
  pub some : 1 ≤ length census
  pub most : length census ≤ most_frames
  pub places : length values ≡ length census
  pub keys : HasKeysOnce eq census
  pub filled : HasValues census values
  pub numbers : IsPermutation (range_with_len 0 (length census)) order

-- n empty frames, in the order of their numbers
abbrev pub empty_frames : {K V : Type 0} → ℕ → Frames K V
empty_frames n = record { census = replicate n Empty; values = replicate n None; order = range_with_len 0 n }

-- a frame that is pinned has the same key and the same value in both
abbrev pub KeepsPinned : {K V : Type 0} → Frames K V → Frames K V → Type 0
KeepsPinned {K} old new = (f : ℕ) (state : FrameState K) → slice_get old.census f ≡ Some state → is_pinned state ≡ true
    → (later : FrameState K) × (slice_get new.census f ≡ Some later) × (is_pinned later ≡ true)
    × (state_key later ≡ state_key state) × (slice_get new.values f ≡ slice_get old.values f)
