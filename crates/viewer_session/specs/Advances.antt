-- Why a call for a viewer stopped, and what was read for it (this project's own).
use Rattle.std.specs.Prelude.{ℕ, ◌≡◌, ◌⊎◌, List, [], ◌∷◌, nat_eq}
use Rattle.std.specs.List.{All}
use Rattle.shared_pool.specs.declared.note.Note.{Note}
use Rattle.shared_pool.specs.Seen.{HasMissed}
use Rattle.subtree_outcome.specs.declared.outcome.Outcome.{Outcome}
use Rattle.scene_frames.specs.Held.{HasEnded, IsHeldBy, IsStoppedBy}
use Rattle.walk_course.specs.declared.tag.WalkTag.{WalkTag}
use Rattle.walk_course.specs.Course.{IsNextRoot}
use Rattle.viewer_session.specs.Sessions.{FramesPass}

-- the pool that the pass took last had every frame pinned, and none with such a root; the pass was answered so once
-- more
abbrev pub IsStuck : (ℕ → Type 0) → FramesPass → FramesPass → Type 0
IsStuck IsKey old new = (key : ℕ) × IsKey key × (n : Note ℕ Outcome) × (n.busies ≡ old.note.busies)
    × HasMissed nat_eq key new.tag n new.last new.gave new.note

-- the frame that the pass was granted for such a root is empty in the pool that it gave back last
abbrev pub HasFailed : (ℕ → Type 0) → FramesPass → Type 0
HasFailed IsKey new = (key : ℕ) × IsKey key × HasEnded new.number key new.tag new.last new.gave

-- the root of some step of the walk
abbrev pub IsOnCourse : WalkTag → ℕ → Type 0
IsOnCourse tag key = (made : ℕ) × IsNextRoot tag made key

-- The outcomes of some roots were held by a pass, one after another, by its notes and the counts of fetches before and
-- after
abbrev pub Holds : WalkTag → ℕ → List ℕ → Note ℕ Outcome → Note ℕ Outcome → ℕ → ℕ → Type 0
Holds tag number [] n m before after = (m.granted ≡ n.granted) × (after ≡ before)
Holds tag number (key ∷ keys) n m before after = (mid : Note ℕ Outcome) × (between : ℕ)
    × IsHeldBy tag.layout tag.told number key n mid before between × Holds tag number keys mid m between after

-- All that was granted and fetched: for roots on the walk, each of which was held
pub record HasRead (tag : WalkTag) (old new : FramesPass) (before after : ℕ) : Type 0 where
  pub keys : List ℕ
  pub on_walk : All (IsOnCourse tag) keys
  pub holds : Holds tag old.number keys old.note new.note before after

-- The same, where the last root may not have been held
pub record HasReadUpTo (tag : WalkTag) (old new : FramesPass) (before after : ℕ) : Type 0 where
  pub keys : List ℕ
  pub note : Note ℕ Outcome
  pub between : ℕ
  pub on_walk : All (IsOnCourse tag) keys
  pub holds : Holds tag old.number keys old.note note before between
  pub last : ((new.note.granted ≡ note.granted) × (after ≡ between))
      ⊎ ((key : ℕ) × IsOnCourse tag key × IsStoppedBy tag.layout old.number key note new.note between after)
