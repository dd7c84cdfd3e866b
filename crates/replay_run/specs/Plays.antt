-- A script that is played over a scene: the text of the replies to its lines (this project's own).
use Rattle.std.specs.Prelude.{ℕ, ◌≡◌, ◌≤◌, Bool, true, false, List, [], ◌∷◌, ◌++◌, length, map, codes}
use Rattle.std.specs.Prelude.{Option, Some, None, filter}
use Rattle.std.specs.List.{flat_map}
use Rattle.std.specs.Fmt.{decimal}
use Rattle.std.specs.Io.KnownBytes.{Appends}
use Rattle.implicit_tiling.specs.Tile.{Tile}
use Rattle.implicit_tiling.specs.Scene.{Scene}
use Rattle.implicit_tiling.specs.Availability.{mask}
use Rattle.implicit_tiling.specs.Answer.{complete, too_many, fault}
use Rattle.implicit_tiling.specs.Steps.{StepEnd, partial, ended}
use Rattle.implicit_tiling.specs.Text.{line, tile_line, refused_text}
use Rattle.scene_ports.specs.Counts.{more_by}
use Rattle.scene_ports.specs.Output.{GivesFront}
use Rattle.replay_script.specs.declared.event.Event.{Event}
use Rattle.replay_script.specs.Events.{with_read}
use Rattle.replay_script.specs.Script.{script_of}
use Rattle.replay_script.specs.Replies.{numbered_line}
use Rattle.replay_machine.specs.Machine.{opening}
use Rattle.replay_machine.specs.Said.{Said, bad_line, not_now, cursor, refused, claimed, at_end, out, hit, granted}
use Rattle.replay_machine.specs.Said.{loading, busy, loaded, failed, moved, dropped, page}
use Rattle.replay_machine.specs.Runs.{replies}

-- ---- the text of what is replied

-- how the walk of a page stands
abbrev pub end_text : StepEnd → List ℕ
end_text partial = codes "partial"
end_text (ended complete) = codes "complete"
end_text (ended too_many) = codes "too-many"
end_text (ended (fault root number)) = codes "fault"

-- the line that each reply has; that of a page has the place of its first tile, how many tiles follow, and how the walk
-- stands
abbrev pub said_line : Said → List ℕ
said_line bad_line = line (codes "bad" ∷ [])
said_line not_now = line (codes "no" ∷ [])
said_line (cursor c) = numbered_line (codes "cursor") c
said_line (refused k) = refused_text k
said_line claimed = line (codes "claimed" ∷ [])
said_line at_end = line (codes "end" ∷ [])
said_line out = line (codes "out" ∷ [])
said_line (hit f) = numbered_line (codes "hit") f
said_line (granted f) = numbered_line (codes "granted") f
said_line loading = line (codes "loading" ∷ [])
said_line busy = line (codes "busy" ∷ [])
said_line (loaded f) = numbered_line (codes "loaded") f
said_line failed = line (codes "failed" ∷ [])
said_line (moved n) = numbered_line (codes "moved") n
said_line dropped = line (codes "dropped" ∷ [])
said_line (page from tiles end) = line (codes "page" ∷ decimal from ∷ decimal (length tiles) ∷ end_text end ∷ [])

-- the tiles of a page
abbrev pub said_tiles : Said → List Tile
said_tiles (page from tiles end) = tiles
said_tiles said = []

-- the line that each reply has, and behind it a line for each tile of a page, as in an answer
abbrev pub said_text : Scene → Said → List ℕ
said_text s said = said_line said ++ flat_map (λ t. tile_line s.layout t (mask s t)) (said_tiles said)

-- ---- lines

-- a line of a script as it was played: what it asks for, and whether the source failed where its load read a file
pub record Line : Type 0 where
  pub event : Event (Unit {0})
  pub failed : Bool

abbrev pub read_where : Bool → Option (Unit {0})
read_where true = None
read_where false = Some tt

-- its event: a load has read the file, or nothing where the source failed
abbrev pub event_of : Line → Event (Option (Unit {0}))
event_of played = with_read played.event (read_where played.failed)

-- how often the source failed
abbrev pub failures : List Line → ℕ
failures lines = length (filter (λ played. played.failed) lines)

-- the replies of the machine, from so many empty frames and so many passes without a cursor, one after another
abbrev pub play_text : Scene → ℕ → ℕ → List Line → List ℕ
play_text s frames passes lines = flat_map (said_text s) (replies s (opening frames passes) (map event_of lines))

-- the lines of an input, over the layout of the scene, where the source failed at most as often as its count rose
pub record AreLines (s : Scene) (input : List ℕ) (faults now : ℕ) (lines : List Line) : Type 0 where
  pub are : map (λ played. played.event) lines ≡ script_of s.layout.scheme s.layout.levels input
  pub failed : more_by (failures lines) faults ≤ now

-- ---- what was given

-- the replies to the lines of the input were given, and nothing else
abbrev pub IsPlay : Scene → ℕ → ℕ → List ℕ → ℕ → ℕ → Option (List ℕ) → Option (List ℕ) → Type 0
IsPlay s frames passes input faults rose before now = (lines : List Line) × AreLines s input faults rose lines
    × Appends before now (play_text s frames passes lines)

-- or some front of them
abbrev pub IsPlayBegun : Scene → ℕ → ℕ → List ℕ → ℕ → ℕ → Option (List ℕ) → Option (List ℕ) → Type 0
IsPlayBegun s frames passes input faults rose before now = (lines : List Line) × AreLines s input faults rose lines
    × GivesFront before now (play_text s frames passes lines)
