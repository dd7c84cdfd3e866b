-- `tiles`: the answer to a request line, or its refusal (this project's own).
use Rattle.std.specs.Prelude.{ℕ, true, false, List, ◌∷◌, Some, Result, Ok, Err}
use Rattle.implicit_tiling.specs.Region.{Plan}
use Rattle.implicit_tiling.specs.Request.{Line, plan_of_line}
use Rattle.implicit_tiling.specs.Scene.{Scene}
use Rattle.implicit_tiling.specs.Answer.{End, complete, too_many, fault, answer}
use Rattle.implicit_tiling.specs.Text.{text_of}
use Rattle.tile_coords.specs.declared.walk_end.WalkEnd.{WalkEnd}
use Rattle.tile_coords.specs.declared.walk_end.WalkEnd.TheVariants.{Partial, Complete, TooMany, Fault}
use Rattle.program_status.specs.declared.status.Status.{Status}
use Rattle.program_status.specs.declared.status.Status.TheVariants.{Done, Faulted, Usage, WriteFault}
use Rattle.commands.specs.Promise.{Promise, LeavesAll, NeedsNoFile, PlaysNothing}
use Rattle.commands.specs.Replies.{Reply, reply_in, early_ends}

-- an answer that ends by a fault ends so
abbrev pub end_status : End → Status
end_status complete = Done
end_status too_many = Done
end_status (fault root number) = Faulted

-- the same of the end of a walk
abbrev pub walk_status : WalkEnd → Status
walk_status Partial = Done
walk_status Complete = Done
walk_status TooMany = Done
walk_status (Fault root number) = Faulted

-- the reply to a line that was read to a plan, or refused
abbrev pub plan_reply : Scene → Result Plan ℕ → Reply
plan_reply s (Ok plan) = record { status = end_status (answer s plan.region).end; text = text_of s (Ok plan) }
plan_reply s (Err number) = record { status = Usage; text = text_of s (Err number) }

abbrev pub line_reply : Scene → Line → Reply
line_reply s line = plan_reply s (plan_of_line s.layout.scheme s.layout.levels (Some line))

abbrev pub tiles_ends : List Status
tiles_ends = Done ∷ Faulted ∷ Usage ∷ WriteFault ∷ early_ends

abbrev pub tiles_promise : Line → Promise
tiles_promise line = record {
  reply = reply_in (λ s. line_reply s line);
  ends = tiles_ends;
  reads = true;
  puts = false;
  takes = false;
  leaves = LeavesAll;
  first = NeedsNoFile;
  plays = PlaysNothing;
}
