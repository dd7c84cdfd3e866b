-- What holds of every turn (this project's own).
use Rattle.std.specs.Prelude.{ℕ, ◌≡◌, ◌≤◌, Bool, true, length, take, drop, Option}
use Rattle.std.specs.List.{range_with_len}
use Rattle.std.specs.List.Sorted.{IsPermutation}
use Rattle.implicit_tiling.specs.Answer.{answer}
use Rattle.implicit_tiling.specs.Scene.{Scene}
use Rattle.frame_pool.specs.Frames.{Frames}
use Rattle.frame_pool.specs.Moves.{IsAskAnswer}
use Rattle.replay_script.specs.declared.event.Event.{Event}
use Rattle.replay_machine.specs.Machine.{Walk, Machine}
use Rattle.replay_machine.specs.Asking.{asked}
use Rattle.replay_machine.specs.Said.{is_quiet}
use Rattle.replay_machine.specs.Turns.{turn, shown_tiles, page_tiles}

-- what is answered to one who asks is an answer of the frames
abbrev pub AnswersAreOfTheFrames : Type 0 → Type 0 → Type 0
AnswersAreOfTheFrames K V = (eq : K → K → Bool) (key : K) (frames : Frames K V)
    → IsPermutation (range_with_len 0 (length frames.census)) frames.order
    → IsAskAnswer eq key frames (asked eq key frames.census frames.order)

-- a reply that tells of no change leaves all as it was, whatever is read of a file
abbrev pub NoChangeIsTold : Type 0 → Type 0
NoChangeIsTold X = (s : Scene) (m : Machine) (event : Event (Option X)) → is_quiet (turn s m event).said ≡ true
    → (turn s m event).after ≡ m

-- there are as many frames and passes as before
abbrev pub KeepsCounts : Machine → Machine → Type 0
KeepsCounts m after = (length after.census ≡ length m.census) × (length after.passes ≡ length m.passes)

abbrev pub FramesAndPassesStay : Type 0 → Type 0
FramesAndPassesStay X = (s : Scene) (m : Machine) (event : Event (Option X)) → KeepsCounts m (turn s m event).after

-- the tiles that a cursor shows are the first ones of the answer
abbrev pub ShownTilesAreOfTheAnswer : Type 0
ShownTilesAreOfTheAnswer = (s : Scene) (walk : Walk) → 1 ≤ s.layout.subtree_levels
    → shown_tiles s walk ≡ take (length (shown_tiles s walk)) (answer s walk.plan.region).tiles

-- the tiles of a page are those of the answer at the places from its own on
abbrev pub PagesAreOfTheAnswer : Type 0
PagesAreOfTheAnswer = (s : Scene) (walk : Walk) (place n : ℕ) → page_tiles s walk place n
    ≡ take (length (page_tiles s walk place n)) (drop place (answer s walk.plan.region).tiles)
