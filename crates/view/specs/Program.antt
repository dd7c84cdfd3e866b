-- The statuses with which the program may end (this project's own).
use Rattle.std.specs.Prelude.{Bool, true, false, if◌then◌else◌, List, Option, Some, None}
use Rattle.program_status.specs.declared.status.Status.{Status}
use Rattle.commands.specs.Commands.{Wish, tiles, check, make, survey, replay, batch, serve, promised}
use Rattle.serve_command.specs.Serving.{serve_ends}
use Rattle.shared_commands.specs.Shared.{BatchWish, batch_asked_for, shared_ends}

-- those of a batch, where one is asked for, and else those that are promised
abbrev pub ends_by : Option BatchWish → List Status → List Status
ends_by None plain_ends = plain_ends
ends_by (Some wish) plain_ends = shared_ends (Some wish)

-- a wish for a serving
abbrev pub is_serving : Wish → Bool
is_serving (tiles line) = false
is_serving check = false
is_serving (make recipe) = false
is_serving (survey recipe) = false
is_serving (replay frames passes) = false
is_serving (batch workers frames) = false
is_serving (serve port viewers frames) = true

abbrev pub is_served : Option Wish → Bool
is_served None = false
is_served (Some wish) = is_serving wish

-- those of a serving, where one is asked for
abbrev pub program_ends : Option Wish → List Status
program_ends wish = if is_served wish then serve_ends else ends_by (batch_asked_for wish) (promised wish).ends
