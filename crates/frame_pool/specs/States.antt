-- States of frames, and the answers to one who asks for a key: this project's own.
use Rattle.std.specs.Prelude.{ℕ, zero, suc, Bool, true, false, not, Option, Some, None}
use Rattle.frame_pool.specs.declared.frame.FrameState.{FrameState}
use Rattle.frame_pool.specs.declared.frame.FrameState.TheVariants.{Empty, Loading, Ready}

-- whether the frame is loading the key or ready with it
abbrev pub has_key : {K : Type 0} → (K → K → Bool) → K → FrameState K → Bool
has_key eq key Empty = false
has_key eq key (Loading own) = eq own key
has_key eq key (Ready own pins) = eq own key

abbrev pub is_empty : {K : Type 0} → FrameState K → Bool
is_empty Empty = true
is_empty (Loading key) = false
is_empty (Ready key pins) = false

abbrev pub is_zero : ℕ → Bool
is_zero zero = true
is_zero (suc n) = false

-- whether the frame is ready, without pins
abbrev pub is_free : {K : Type 0} → FrameState K → Bool
is_free Empty = false
is_free (Loading key) = false
is_free (Ready key pins) = is_zero pins

-- whether the frame may not be given up. A loading frame counts as pinned
abbrev pub is_pinned : {K : Type 0} → FrameState K → Bool
is_pinned Empty = false
is_pinned (Loading key) = true
is_pinned (Ready key pins) = not (is_zero pins)

abbrev pub pins_of : {K : Type 0} → FrameState K → ℕ
pins_of Empty = 0
pins_of (Loading key) = 0
pins_of (Ready key pins) = pins

abbrev pub state_key : {K : Type 0} → FrameState K → Option K
state_key Empty = None
state_key (Loading key) = Some key
state_key (Ready key pins) = Some key
