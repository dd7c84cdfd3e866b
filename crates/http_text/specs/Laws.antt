-- What follows from the definitions alone, for who takes a connection's bytes piece by piece (this project's own).
use Rattle.std.specs.Prelude.{ℕ, ◌≡◌, ◌++◌, List, [], Err}
use Rattle.httparse.specs.Grammar.{RequestHead}
use Rattle.implicit_tiling.specs.declared.Scheme.{Scheme}
use Rattle.implicit_tiling.specs.Request.{line_of, plan_of_line}
use Rattle.http_text.specs.declared.heads.HeadParts.{HeadParts}
use Rattle.http_text.specs.declared.heads.HeadAnswer.{HeadAnswer}
use Rattle.http_text.specs.Heads.{IsHead, IsNoHead, IsAnswer, IsWhole}

-- bytes begin with one head, or with none: where one answer is a head, each answer is that head
abbrev pub HeadsAreOne : Type 0
HeadsAreOne = (bytes : List ℕ) (p : HeadParts) (h : RequestHead) (answer : HeadAnswer) → IsHead bytes p h
    → IsAnswer bytes answer → IsWhole bytes answer h

-- a whole head is the same head, with the same parts, whatever follows
abbrev pub HeadsStay : Type 0
HeadsStay = (bytes more : List ℕ) (p : HeadParts) (h : RequestHead) → IsHead bytes p h → IsHead (bytes ++ more) p h

-- bytes with which no head begins do so with none, whatever follows
abbrev pub NoHeadsStay : Type 0
NoHeadsStay = (bytes more : List ℕ) → IsNoHead bytes → IsNoHead (bytes ++ more)

-- the empty line, which stands for a query of another form, is refused by the first rule
abbrev pub EmptyLineIsRefused : Type 0
EmptyLineIsRefused = (scheme : Scheme) (levels : ℕ) → plan_of_line scheme levels (line_of []) ≡ Err 1
