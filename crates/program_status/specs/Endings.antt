-- What the program does last: its exit status, and what it says on standard error (this project's own).
use Rattle.std.specs.Prelude.{ℕ, List, ◌++◌, codes, Option, Some, None}
use Rattle.std.specs.Fmt.{decimal}
use Rattle.program_status.specs.declared.ending.ErrorLine.{ErrorLine}
use Rattle.program_status.specs.declared.status.Status.{Status}
use Rattle.program_status.specs.declared.status.Status.TheVariants.{Done, Faulted, Usage, BadLayout, ReadFault}
use Rattle.program_status.specs.declared.status.Status.TheVariants.{WriteFault, InputFault, Memory, InputLong}
use Rattle.program_status.specs.declared.status.Status.TheVariants.{ListenFault}

-- the exit status
abbrev pub exit_of : Status → ℕ
exit_of Done = 0
exit_of Faulted = 1
exit_of Usage = 2
exit_of (BadLayout number) = 3
exit_of ReadFault = 4
exit_of WriteFault = 5
exit_of InputFault = 6
exit_of Memory = 7
exit_of InputLong = 8
exit_of ListenFault = 11

-- the status in words
abbrev pub status_text : Status → List ℕ
status_text Done = codes "done"
status_text Faulted = codes "a subtree is faulty"
status_text Usage = codes "usage"
status_text (BadLayout number) = codes "layout fault " ++ decimal number
status_text ReadFault = codes "read fault"
status_text WriteFault = codes "write fault"
status_text InputFault = codes "input fault"
status_text Memory = codes "out of memory"
status_text InputLong = codes "input too long"
status_text ListenFault = codes "listen fault"

abbrev pub line_text : ErrorLine → List ℕ
line_text line = codes "view: " ++ status_text line.status

-- the line on standard error, but for its end: none where all went well, and one for every other status
abbrev pub error_text : Status → Option (List ℕ)
error_text Done = None
error_text status = Some (codes "view: " ++ status_text status)
