-- How many pins the frames of a pool have.
use Rattle.std.proofs.Common.{ℕ, zero, suc, ◌≤◌, List, replicate, subst, arith}
use Rattle.std.proofs.lemmas.Option.{none-some, same_Some}
use Rattle.frame_pool.specs.declared.frame.FrameState.{FrameState}
use Rattle.frame_pool.specs.declared.frame.FrameState.TheVariants.{Empty}
use Rattle.frame_pool.specs.States.{pins_of}
use Rattle.frame_pool.specs.Frames.{EachFrame}

-- no frame has more than n pins
abbrev pub HavePins : ℕ → List (FrameState ℕ) → Type 0
HavePins n census = EachFrame (λ state. pins_of state ≤ n) census

-- empty frames have none
pub empty_pins : (n : ℕ) → HavePins 0 (replicate n Empty)
empty_pins zero f state at = absurd (none-some state at)
empty_pins (suc n) zero state at = subst (λ s. pins_of s ≤ 0) (same_Some Empty state at) (omega arith)
empty_pins (suc n) (suc f) state at = empty_pins n f state at
