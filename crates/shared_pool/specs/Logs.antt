-- What holds of a pool and its log alone, whatever the notes of the passes are: this project's own.
use Rattle.std.specs.Prelude.{◌≡◌, ◌⊎◌, ℕ, ◌+◌, Bool, List, length, count_by}
use Rattle.std.specs.Cmp.{IsEquivalence}
use Rattle.frame_pool.specs.declared.frame.FrameState.{FrameState}
use Rattle.frame_pool.specs.States.{has_key}
use Rattle.frame_pool.specs.Frames.{HasKeysOnce}
use Rattle.shared_pool.specs.declared.entry.Entry.{Entry}
use Rattle.shared_pool.specs.Books.{grants, ends, takes, takes_any, HasMoreKeys}

-- Keys are compared by an equivalence, and no two frames have one key. A key was granted as often as its loading
-- ended without a value or it lost its frame, and once more where a frame has it. No key lost its frame, unless more
-- keys were granted than there are frames
pub record LogFits {K : Type 0} (eq : K → K → Bool) (census : List (FrameState K)) (log : List (Entry K)) : Type 0 where
  pub alike : IsEquivalence eq
  pub once : HasKeysOnce eq census
  pub balance : (key : K)
      → count_by (grants eq key) log ≡ (count_by (ends eq key) log + count_by (takes eq key) log) + count_by
      (has_key eq key) census
  pub losses : (count_by takes_any log ≡ 0) ⊎ HasMoreKeys eq (length census) log
