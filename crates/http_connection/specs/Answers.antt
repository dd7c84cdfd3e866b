-- What an answer of viewers is in the table of replies (this project's own).
use Rattle.std.specs.Prelude.{ℕ, ◌≡◌, List, length}
use Rattle.http_front.specs.Table as table
use Rattle.http_connection.specs.declared.answers.ViewersAnswer.{ViewersAnswer}
use Rattle.http_connection.specs.declared.answers.ViewersAnswer.TheVariants.{Refused, Busy, ReadFault, Text, Memory}

-- by the text that stands ready
abbrev pub answered_of : ViewersAnswer → List ℕ → table.Answered
answered_of (Refused k) text = table.refused k
answered_of Busy text = table.busy
answered_of ReadFault text = table.read_fault
answered_of (Text n) text = table.text text
answered_of Memory text = table.no_memory

-- the answer tells how long its text is
abbrev pub HasLength : ViewersAnswer → List ℕ → Type 0
HasLength (Refused k) text = Unit {0}
HasLength Busy text = Unit {0}
HasLength ReadFault text = Unit {0}
HasLength (Text n) text = n ≡ length text
HasLength Memory text = Unit {0}
