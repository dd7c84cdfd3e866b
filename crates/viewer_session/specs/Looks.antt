-- How a seat looks at its walk, and moves it on (this project's own).
use Rattle.std.specs.Prelude.{ℕ, ◌≡◌, ◌≢◌, ◌+◌, ◌<◌, ◌≤◌, List, ◌∷◌, ◌++◌, Some, Result, Ok, Err, true, false}
use Rattle.tile_coords.specs.declared.walk_end.WalkEnd.TheVariants.{Partial}
use Rattle.region_cursor.specs.Cursor.{cursor_key}
use Rattle.scene_frames.specs.declared.held.HoldStop.{HoldStop}
use Rattle.published_prefix.specs.declared.head.Head.{Head}
use Rattle.published_prefix.specs.declared.head.EndKind.TheVariants as kind
use Rattle.published_prefix.specs.Heads.{NoFurther}
use Rattle.published_prefix.specs.Seats.{Seat}
use Rattle.walk_course.specs.Walk.{Walk}
use Rattle.walk_course.specs.declared.tag.WalkTag.{WalkTag}
use Rattle.walk_course.specs.Course.{IsHead, Fits, IsNextRoot}
use Rattle.viewer_session.specs.declared.next.Next.{Next}
use Rattle.viewer_session.specs.declared.next.Next.TheVariants as next
use Rattle.viewer_session.specs.declared.advance.Advance.{Advance}
use Rattle.viewer_session.specs.declared.advance.Advance.TheVariants.{Moved, AtEnd}

-- A seat looked at heads and tried to take the work: it is as before, but for what it has seen and tried, and whether
-- it has the work
pub record HasLooked (old new : Seat WalkTag) : Type 0 where
  pub table : new.table ≡ old.table
  pub tag : new.tag ≡ old.tag
  pub stores : new.stores ≡ old.stores
  pub more : List Head
  pub heads : new.heads ≡ old.heads ++ more
  pub near : NoFurther old.steps old.length old.end new.steps new.length new.end

-- one step more was published, and is seen
pub record HasPublished (old new : Seat WalkTag) : Type 0 where
  pub table : new.table ≡ old.table
  pub tag : new.tag ≡ old.tag
  pub stores : new.stores ≡ old.stores + 1
  pub more : List Head
  pub heads : new.heads ≡ old.heads ++ more
  pub steps : new.steps ≡ old.steps + 1
  pub near : NoFurther old.steps old.length old.end new.steps new.length new.end
  pub at_rest : new.has_work ≡ false

-- the first head that was loaded is such a one
abbrev pub BeginsAt : Seat WalkTag → Seat WalkTag → (Head → Type 0) → Type 0
BeginsAt old new P = (first : Head) × (more : List Head) × (new.heads ≡ old.heads ++ first ∷ more) × P first

-- How a walk went on. AtEnd comes exactly where the first head that was loaded has an end, and Moved only where more
-- steps are seen at last
abbrev pub HasAdvanced : Seat WalkTag → Seat WalkTag → Result Advance HoldStop → Type 0
HasAdvanced old new (Ok AtEnd) = BeginsAt old new (λ first. first.end ≢ kind.Partial) × (new.end ≢ Partial)
HasAdvanced old new (Ok Moved) = BeginsAt old new (λ first. (first.end ≡ kind.Partial) × (first.steps < new.steps))
HasAdvanced old new (Err stop) = BeginsAt old new (λ first. first.end ≡ kind.Partial)

-- the seat has the work, which goes on from the head that it has seen, by a step that reads the file of this root
pub record IsStep (seat : Seat WalkTag) (work : Walk) (key : ℕ) : Type 0 where
  pub out : seat.has_work ≡ true
  pub partial : seat.end ≡ Partial
  pub course : IsHead seat.tag seat.steps seat.length Partial
  pub fits : Fits seat.tag seat.steps seat.length Partial work
  pub key_is : cursor_key work.state ≡ Some key
  pub root : IsNextRoot seat.tag seat.steps key

-- the seat has the work, which goes on from the head that it has seen
abbrev pub HasTaken : Seat WalkTag → Walk → Type 0
HasTaken seat work = (seat.has_work ≡ true) × IsHead seat.tag seat.steps seat.length seat.end
    × Fits seat.tag seat.steps seat.length seat.end work

-- what comes next of the work that was taken: a step, or nothing where the walk has ended
abbrev pub IsTaken : Seat WalkTag → Seat WalkTag → Next → Type 0
IsTaken old new next.AtEnd = ⊥
IsTaken old new next.Moved = (old.end ≢ Partial) × (new ≡ record old { has_work = false })
IsTaken old new (next.Step work key) = (new ≡ old) × IsStep old work key

-- what a seat finds of its walk
abbrev pub IsNext : Seat WalkTag → Seat WalkTag → Next → Type 0
IsNext old new next.AtEnd = HasAdvanced old new (Ok AtEnd) × (new.has_work ≡ false)
IsNext old new next.Moved = HasAdvanced old new (Ok Moved) × (new.has_work ≡ false)
IsNext old new (next.Step work key) = BeginsAt old new (λ first. (first.end ≡ kind.Partial) × (first.steps ≤ new.steps))
    × IsStep new work key
