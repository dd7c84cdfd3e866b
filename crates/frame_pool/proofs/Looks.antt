-- The value in a frame that is ready.
use Rattle.std.proofs.Common.{◌≡◌, ◌∙◌, ℕ, List, get_or, Option, Some, None, ap, rules}
use Rattle.std.specs.List.{slice_get}
use Rattle.std.specs.Option.{IsSome, is_some}
use Rattle.std.proofs.lemmas.Bool.{false≢true}
use Rattle.std.proofs.lemmas.Option.{get_or_from_slice_get}
use Rattle.frame_pool.specs.declared.frame.FrameState.{FrameState}
use Rattle.frame_pool.specs.Frames.{HasValues, IsReadyAt}

module _ {K V : Type 0} where
  -- the value that was read is there
  pub value-read : (census : List (FrameState K)) (values : List (Option V)) (f : ℕ) (read : Option V) → HasValues census values → IsReadyAt census f → read ≡ get_or values f read → (value : V) × (slice_get values f ≡ Some (Some value)) × (read ≡ Some value)
  value-read census values f read filled ready is = let h = filled f ready in (h.0, h.1, is ∙ get_or_from_slice_get values f (Some h.0) read h.1)

-- what was read by reference is there
pub is_some-read : {V W : Type 0} (value : V) (read : Option V) (seen : Option W) → read ≡ Some value → is_some seen ≡ is_some read → IsSome seen
is_some-read value read None is variant = absurd (false≢true (variant ∙ ap is_some is))
is_some-read value read (Some w) is variant = search rules
