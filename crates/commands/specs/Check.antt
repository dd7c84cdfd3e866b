-- `check`: the faults of all subtree files that are reached (this project's own).
use Rattle.std.specs.Prelude.{ℕ, true, false, List, [], ◌∷◌}
use Rattle.implicit_tiling.specs.Tile.{Tile}
use Rattle.implicit_tiling.specs.Scene.{Scene}
use Rattle.implicit_tiling.specs.Checked.{checked}
use Rattle.implicit_tiling.specs.Text.{checked_text}
use Rattle.program_status.specs.declared.status.Status.{Status}
use Rattle.program_status.specs.declared.status.Status.TheVariants.{Done, Faulted, WriteFault}
use Rattle.commands.specs.Promise.{Promise, LeavesAll, NeedsNoFile, PlaysNothing}
use Rattle.commands.specs.Replies.{Reply, reply_in, early_ends}

-- a check that finds a fault ends so
abbrev pub found_status : List (Tile × ℕ) → Status
found_status [] = Done
found_status (found ∷ more) = Faulted

abbrev pub check_reply : Scene → Reply
check_reply s = record { status = found_status (checked s).faults; text = checked_text s.layout.scheme (checked s) }

abbrev pub check_ends : List Status
check_ends = Done ∷ Faulted ∷ WriteFault ∷ early_ends

abbrev pub check_promise : Promise
check_promise = record {
  reply = reply_in check_reply;
  ends = check_ends;
  reads = true;
  puts = false;
  takes = false;
  leaves = LeavesAll;
  first = NeedsNoFile;
  plays = PlaysNothing;
}
