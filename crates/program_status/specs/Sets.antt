-- Sets of statuses (this project's own).
use Rattle.std.specs.Prelude.{ℕ, ◌==◌, ◌&&◌, Bool, true, false, List, map}
use Rattle.std.specs.List.{list_any, range_with_len}
use Rattle.program_status.specs.Endings.{exit_of}
use Rattle.program_status.specs.declared.status.Status.{Status}
use Rattle.program_status.specs.declared.status.Status.TheVariants.{BadLayout}

-- the number of a layout fault; no other status has one
abbrev pub number_of : Status → ℕ
number_of (BadLayout number) = number
number_of status = 0

-- the same status: each has an exit status of its own, and a layout fault its number
abbrev pub is_same : Status → Status → Bool
is_same a b = exit_of a == exit_of b && number_of a == number_of b

-- a test, as a fact
abbrev pub Passes : Bool → Type 0
Passes true = Unit {0}
Passes false = ⊥

-- it is one of these
abbrev pub IsOneOf : List Status → Status → Type 0
IsOneOf statuses status = Passes (list_any (is_same status) statuses)

-- the faults of `tileset.json`
abbrev pub layout_faults : List Status
layout_faults = map BadLayout (range_with_len 1 12)
