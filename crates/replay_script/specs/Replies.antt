-- The text of each reply (this project's own).
use Rattle.std.specs.Prelude.{ℕ, List, [], ◌∷◌, ◌++◌, length, codes}
use Rattle.std.specs.List.{flat_map}
use Rattle.std.specs.Fmt.{decimal}
use Rattle.implicit_tiling.specs.Scene.{Layout}
use Rattle.implicit_tiling.specs.Text.{line, word_line, refused_text}
use Rattle.tile_coords.specs.declared.walk_end.WalkEnd.{WalkEnd}
use Rattle.tile_coords.specs.declared.walk_end.WalkEnd.TheVariants.{Partial, Complete, TooMany, Fault}
use Rattle.replay_script.specs.declared.reply.Reply.{Reply}
use Rattle.replay_script.specs.declared.reply.Reply.TheVariants.{Bad, No, Cursor, Refused, Claimed, End, Out, Hit, Granted}
use Rattle.replay_script.specs.declared.reply.Reply.TheVariants.{Loading, Busy, Loaded, Failed, Moved, Dropped, Page}

-- how the walk of a page stands
abbrev pub state_text : WalkEnd → List ℕ
state_text Partial = codes "partial"
state_text Complete = codes "complete"
state_text TooMany = codes "too-many"
state_text (Fault root number) = codes "fault"

-- a name and a number
abbrev pub numbered_line : List ℕ → ℕ → List ℕ
numbered_line name n = line (name ∷ decimal n ∷ [])

-- the place of its first tile, how many tiles follow, and how the walk stands
abbrev pub page_line : ℕ → ℕ → WalkEnd → List ℕ
page_line from count end = line (codes "page" ∷ decimal from ∷ decimal count ∷ state_text end ∷ [])

-- the line that each reply has
abbrev pub first_line : Reply → List ℕ
first_line Bad = line (codes "bad" ∷ [])
first_line No = line (codes "no" ∷ [])
first_line (Cursor c) = numbered_line (codes "cursor") c
first_line (Refused k) = refused_text k
first_line Claimed = line (codes "claimed" ∷ [])
first_line End = line (codes "end" ∷ [])
first_line Out = line (codes "out" ∷ [])
first_line (Hit f) = numbered_line (codes "hit") f
first_line (Granted f) = numbered_line (codes "granted") f
first_line Loading = line (codes "loading" ∷ [])
first_line Busy = line (codes "busy" ∷ [])
first_line (Loaded f) = numbered_line (codes "loaded") f
first_line Failed = line (codes "failed" ∷ [])
first_line (Moved n) = numbered_line (codes "moved") n
first_line Dropped = line (codes "dropped" ∷ [])
first_line (Page from words end) = page_line from (length words.items) end

-- the words of the tiles of a page
abbrev pub reply_words : Reply → List ℕ
reply_words (Page from words end) = words.items
reply_words reply = []

-- the line that each reply has, and behind it a line for each tile of a page, as in an answer
abbrev pub reply_text : Layout → Reply → List ℕ
reply_text layout reply = first_line reply ++ flat_map (word_line layout) (reply_words reply)
