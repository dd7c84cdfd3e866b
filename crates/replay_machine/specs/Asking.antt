-- What is answered to one who asks for a key, as a function of the frames' states and their order (this project's own).
use Rattle.std.specs.Prelude.{ℕ, Bool, List, position, slice_get, Option, Some, None}
use Rattle.frame_pool.specs.declared.frame.FrameState.{FrameState}
use Rattle.frame_pool.specs.declared.frame.FrameState.TheVariants.{Empty, Loading as is_loading, Ready}
use Rattle.frame_pool.specs.declared.frame.Asked.{Asked}
use Rattle.frame_pool.specs.declared.frame.Asked.TheVariants.{Hit, Granted, Loading, Busy}
use Rattle.frame_pool.specs.States.{has_key}
use Rattle.frame_pool.specs.Frames.{victim}

-- a frame that has the key is hit where it is ready; else another one is loading it
abbrev pub asked_of : {K : Type 0} → ℕ → Option (FrameState K) → Asked
asked_of f None = Loading
asked_of f (Some Empty) = Loading
asked_of f (Some (is_loading own)) = Loading
asked_of f (Some (Ready own pins)) = Hit f

-- where no frame has the key, the frame that may be given up is granted; where none may be, all are busy
abbrev pub granted_of : Option ℕ → Asked
granted_of (Some f) = Granted f
granted_of None = Busy

abbrev pub asked_by : {K : Type 0} → List (FrameState K) → List ℕ → Option ℕ → Asked
asked_by census order (Some f) = asked_of f (slice_get census f)
asked_by census order None = granted_of (victim census order)

abbrev pub asked : {K : Type 0} → (K → K → Bool) → K → List (FrameState K) → List ℕ → Asked
asked eq key census order = asked_by census order (position (has_key eq key) census)
