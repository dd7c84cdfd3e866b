-- For proofs and inner functions: where a pass stands, and what the call of one event leaves (this project's own).
use Rattle.std.specs.Prelude.{ℕ, ◌≡◌, ◌⊎◌, List, slice_get, Some, None}
use Rattle.implicit_tiling.specs.Scene.{Layout, Scene}
use Rattle.subtree_outcome.specs.Outcomes.{HasNoOrphans}
use Rattle.replay_script.specs.declared.reply.Reply.{Reply}
use Rattle.replay_machine.specs.Machine.{Walk, Machine}
use Rattle.replay_machine.specs.declared.pass.Pass.{Pass}
use Rattle.replay_machine.specs.Machine.{Standing as Place, absent, idle, reads, works}
use Rattle.replay_machine.specs.Turns.{Turn}
use Rattle.replay_core.specs.Core.{machine_of, IsShown, IsReplied, IsWorking}
use Rattle.replay_core.specs.declared.state.Core.{Core}
use Rattle.replay_core.specs.declared.shared_cursor.SharedCursor.{SharedCursor}
use Rattle.replay_core.specs.declared.standing.Standing.{Standing}
use Rattle.replay_core.specs.declared.standing.Standing.TheVariants.{Absent, Idle, Reads, Works}

-- a pass has a cursor whose work it doesn't hold
pub record IsReading (core : Core) (p : ℕ) (pass : Pass) (c : ℕ) (cursor : SharedCursor) : Type 0 where
  pub there : slice_get core.passes p ≡ Some pass
  pub number : pass.cursor ≡ Some c
  pub at : slice_get core.cursors c ≡ Some cursor
  pub free : cursor.holder ≡ Some p → ⊥

-- or has none
pub record IsIdle (core : Core) (p : ℕ) (pass : Pass) : Type 0 where
  pub there : slice_get core.passes p ≡ Some pass
  pub none : (pass.cursor ≡ None) ⊎ ((c : ℕ) × (pass.cursor ≡ Some c) × (slice_get core.cursors c ≡ None))

abbrev pub StandsAs : Core → ℕ → Standing → Type 0
StandsAs core p Absent = slice_get core.passes p ≡ None
StandsAs core p (Idle pass) = IsIdle core p pass
StandsAs core p (Reads pass c) = (cursor : SharedCursor) × IsReading core p pass c cursor
StandsAs core p (Works pass c) = (cursor : SharedCursor) × IsWorking core p pass c cursor

-- it holds the work of the cursor of a number, or has the cursor without its work, or either
abbrev pub HasWork : Core → ℕ → Pass → ℕ → Type 0
HasWork core p pass c = (cursor : SharedCursor) × IsWorking core p pass c cursor

abbrev pub HasRest : Core → ℕ → Pass → ℕ → Type 0
HasRest core p pass c = (cursor : SharedCursor) × IsReading core p pass c cursor

abbrev pub HasCursor : Core → ℕ → Pass → ℕ → Type 0
HasCursor core p pass c = (cursor : SharedCursor) × (IsReading core p pass c cursor ⊎ IsWorking core p pass c cursor)

-- there is such a pass, and it holds no work
abbrev pub IsFree : Core → ℕ → Type 0
IsFree core p = (pass : Pass) × (IsIdle core p pass ⊎ ((c : ℕ) × (cursor : SharedCursor) × IsReading core p pass c cursor))

-- in the machine it isn't so
abbrev pub HasNoWork : Place → Type 0
HasNoWork absent = Unit {0}
HasNoWork (idle pass) = Unit {0}
HasNoWork (reads pass c walk) = Unit {0}
HasNoWork (works pass c walk) = ⊥

abbrev pub HasNoRest : Place → Type 0
HasNoRest absent = Unit {0}
HasNoRest (idle pass) = Unit {0}
HasNoRest (reads pass c walk) = ⊥
HasNoRest (works pass c walk) = Unit {0}

abbrev pub HasNoCursor : Place → Type 0
HasNoCursor absent = Unit {0}
HasNoCursor (idle pass) = Unit {0}
HasNoCursor (reads pass c walk) = ⊥
HasNoCursor (works pass c walk) = ⊥

abbrev pub IsNotFree : Place → Type 0
IsNotFree absent = Unit {0}
IsNotFree (idle pass) = ⊥
IsNotFree (reads pass c walk) = ⊥
IsNotFree (works pass c walk) = Unit {0}

-- the reply is that of the machine's turn, from each state that the core showed
abbrev pub Answers : Layout → (Scene → Machine → Turn) → Core → Reply → Core → Type 0
Answers layout turn old reply new = (s : Scene) (walks : List Walk) → s.layout ≡ layout → HasNoOrphans s
    → IsShown s (machine_of old walks) old → IsReplied s (turn s (machine_of old walks)) reply new

-- the same over the scenes of which P holds
abbrev pub AnswersWith : Layout → (Scene → Type 0) → (Scene → Machine → Turn) → Core → Reply → Core → Type 0
AnswersWith layout P turn old reply new = (s : Scene) (walks : List Walk) → s.layout ≡ layout → P s
    → IsShown s (machine_of old walks) old → IsReplied s (turn s (machine_of old walks)) reply new
