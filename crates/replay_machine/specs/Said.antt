-- What is replied to an event, with the tiles of a page in place of their words (this project's own).
use Rattle.std.specs.Prelude.{ℕ, ◌≡◌, Bool, true, false, List, map}
use Rattle.implicit_tiling.specs.Tile.{Tile}
use Rattle.implicit_tiling.specs.Scene.{Scene}
use Rattle.implicit_tiling.specs.Code.{tile_word}
use Rattle.implicit_tiling.specs.Steps.{StepEnd}
use Rattle.tile_coords.specs.Ends.{end_seen, EndsAtRoot}
use Rattle.replay_script.specs.declared.reply.Reply.{Reply}
use Rattle.replay_script.specs.declared.reply.Reply.TheVariants.{Bad, No, Cursor, Refused, Claimed}
use Rattle.replay_script.specs.declared.reply.Reply.TheVariants.{End, Out, Hit, Granted}
use Rattle.replay_script.specs.declared.reply.Reply.TheVariants.{Loading, Busy, Loaded, Failed}
use Rattle.replay_script.specs.declared.reply.Reply.TheVariants.{Moved, Dropped, Page}

pub data Said : Type 0 where
  bad_line : Said
  not_now : Said
  cursor : ℕ → Said
  refused : ℕ → Said
  claimed : Said
  at_end : Said
  out : Said
  hit : ℕ → Said
  granted : ℕ → Said
  loading : Said
  busy : Said
  loaded : ℕ → Said
  failed : Said
  moved : ℕ → Said
  dropped : Said
  page : ℕ → List Tile → StepEnd → Said

-- the replies that tell of no change
abbrev pub is_quiet : Said → Bool
is_quiet bad_line = true
is_quiet not_now = true
is_quiet (refused k) = true
is_quiet at_end = true
is_quiet out = true
is_quiet loading = true
is_quiet busy = true
is_quiet said = false

-- the reply that says so: a page has the words of its tiles over the scene
abbrev pub Says : Scene → Said → Reply → Type 0
Says s bad_line reply = reply ≡ Bad
Says s not_now reply = reply ≡ No
Says s (cursor c) reply = reply ≡ Cursor c
Says s (refused k) reply = reply ≡ Refused k
Says s claimed reply = reply ≡ Claimed
Says s at_end reply = reply ≡ End
Says s out reply = reply ≡ Out
Says s (hit f) reply = reply ≡ Hit f
Says s (granted f) reply = reply ≡ Granted f
Says s loading reply = reply ≡ Loading
Says s busy reply = reply ≡ Busy
Says s (loaded f) reply = reply ≡ Loaded f
Says s failed reply = reply ≡ Failed
Says s (moved n) reply = reply ≡ Moved n
Says s dropped reply = reply ≡ Dropped
Says s (page from tiles end) (Page place words shown) = (place ≡ from) × (words.items ≡ map (tile_word s) tiles)
    × (end_seen s.layout.scheme shown ≡ end) × EndsAtRoot s.layout.scheme shown
Says s (page from tiles end) reply = ⊥
