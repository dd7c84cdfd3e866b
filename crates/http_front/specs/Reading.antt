-- What is next on a connection, by the bytes that were taken from it (RFC 9112, section 2.2; the limit is this
-- project's own).
use Rattle.std.specs.Prelude.{ℕ, ◌≡◌, ◌≤◌, ◌<◌, List, ◌++◌, length, Option}
use Rattle.std.specs.Io.KnownBytes.{Consumes}
use Rattle.httparse.specs.Grammar.{RequestHead, ReadsRequest}
use Rattle.http_text.specs.declared.heads.HeadAnswer.TheVariants.{More}
use Rattle.http_text.specs.Heads.{IsAnswer, IsHead, IsNoHead}
use Rattle.http_text.specs.Limits.{most_head_bytes, most_header_lines}
use Rattle.http_front.specs.declared.reading.Reading.{Reading}
use Rattle.http_front.specs.declared.reading.Reading.TheVariants.{Head, TooLong, Bad, End, Failed}

-- no head is whole yet, and there is room for more bytes of one
abbrev pub WaitsForMore : List ℕ → Type 0
WaitsForMore bytes = IsAnswer bytes More × (length bytes < most_head_bytes)

-- what is next, by the bytes that stand there
abbrev pub IsReading : List ℕ → Reading → Type 0
IsReading bytes (Head p) = (h : RequestHead) × IsHead bytes p h
IsReading bytes TooLong = IsAnswer bytes More × (length bytes ≡ most_head_bytes)
IsReading bytes Bad = IsNoHead bytes
IsReading bytes End = WaitsForMore bytes
IsReading bytes Failed = WaitsForMore bytes

-- what is next is this head
abbrev pub IsNext : List ℕ → RequestHead → Reading → Type 0
IsNext bytes h (Head p) = IsHead bytes p h
IsNext bytes h TooLong = ⊥
IsNext bytes h Bad = ⊥
IsNext bytes h End = ⊥
IsNext bytes h Failed = ⊥

-- where the bytes begin with a head of at most the limit's header lines, that head is next
abbrev pub FindsNext : List ℕ → Reading → Type 0
FindsNext bytes reading = (h : RequestHead) (rest : List ℕ) → ReadsRequest bytes h rest
    → length h.fields ≤ most_header_lines → IsNext bytes h reading

-- bytes were taken, in order, and stand behind those that stood there
abbrev pub TakesOn : Option (List ℕ) → Option (List ℕ) → List ℕ → List ℕ → Type 0
TakesOn before now held_before held = (more : List ℕ) × (held ≡ held_before ++ more) × Consumes before now more
