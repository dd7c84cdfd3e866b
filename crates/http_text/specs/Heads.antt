-- What bytes from a connection are: a whole head of a request, with what is looked at of it, the beginning of one, or
-- bytes with which no head begins (RFC 9112, sections 2 to 5, as `httparse` reads heads; what is looked at is this
-- project's own).
use Rattle.std.specs.Prelude.{ℕ, ◌≡◌, ◌≤◌, ◌==◌, ◌&&◌, ◌||◌, ◌⊎◌, not, Bool, List, map, length, drop}
use Rattle.std.specs.Prelude.{slice_range, codes}
use Rattle.std.specs.List.{list_any}
use Rattle.std.specs.Str.{bytes_eq, str_eq_ignore_ascii_case}
use Rattle.httparse.specs.Grammar.{RequestHead, print_request, ReadsRequest}
use Rattle.httparse.specs.Grammar.{HasNoRequest, NeverHasRequest, MayBecomeRequest}
use Rattle.httparse.specs.Spans.{name_and_value, RequestOverflows, RequestExceeds}
use Rattle.http_text.specs.declared.heads.HeadParts.{HeadParts}
use Rattle.http_text.specs.declared.heads.HeadAnswer.{HeadAnswer}
use Rattle.http_text.specs.declared.heads.HeadAnswer.TheVariants.{Whole, More, Bad}
use Rattle.http_text.specs.Limits.{most_header_lines}

-- a header: its name, and its value without the white space around it
abbrev pub Header : Type 0
Header = List ℕ × List ℕ

-- the headers of a head, in order
abbrev pub headers_of : RequestHead → List Header
headers_of h = map name_and_value h.fields

-- the header has this name, whatever the case of ASCII letters
abbrev pub is_named : List ℕ → Header → Bool
is_named name header = str_eq_ignore_ascii_case header.0 name

-- the header announces a body: `transfer-encoding`, or a `content-length` other than `0`
abbrev pub announces_body : Header → Bool
announces_body header = is_named (codes "transfer-encoding") header
    || (is_named (codes "content-length") header && not (bytes_eq header.1 (codes "0")))

-- the header asks to close the connection: a `connection` that is `close`, whatever the case of ASCII letters
abbrev pub asks_to_close : Header → Bool
asks_to_close header = is_named (codes "connection") header && str_eq_ignore_ascii_case header.1 (codes "close")

-- the bytes begin with the head, which has no more header lines than the limit, and the parts are the head's
pub record IsHead (bytes : List ℕ) (p : HeadParts) (h : RequestHead) : Type 0 where
  pub reads : ReadsRequest bytes h (drop p.length bytes)
  pub lines : length h.fields ≤ most_header_lines
  pub long : p.length ≡ length (print_request h)
  pub get : p.get ≡ bytes_eq h.method (codes "GET")
  pub head : p.head ≡ bytes_eq h.method (codes "HEAD")
  pub http10 : p.http10 ≡ (h.minor == 0)
  pub target : slice_range bytes p.target_start p.target_end ≡ h.target
  pub inside : (p.target_start ≤ p.target_end) × (p.target_end ≤ p.length) × (p.length ≤ length bytes)
  pub body : p.body ≡ list_any announces_body (headers_of h)
  pub close : p.close ≡ list_any asks_to_close (headers_of h)

-- no bytes can follow that make a head of at most the limit's header lines: none that make a head at all, or there are
-- more header lines than that already
abbrev pub IsNoHead : List ℕ → Type 0
IsNoHead bytes = RequestOverflows most_header_lines bytes
    × (NeverHasRequest bytes ⊎ RequestExceeds most_header_lines bytes)

-- what the answer says of the bytes
abbrev pub IsAnswer : List ℕ → HeadAnswer → Type 0
IsAnswer bytes (Whole p) = (h : RequestHead) × IsHead bytes p h
IsAnswer bytes More = HasNoRequest bytes × MayBecomeRequest bytes
IsAnswer bytes Bad = IsNoHead bytes

-- the answer is the head
abbrev pub IsWhole : List ℕ → HeadAnswer → RequestHead → Type 0
IsWhole bytes (Whole p) h = IsHead bytes p h
IsWhole bytes More h = ⊥
IsWhole bytes Bad h = ⊥

-- where the bytes begin with a head of at most the limit's header lines, the answer is that head
abbrev pub FindsHead : List ℕ → HeadAnswer → Type 0
FindsHead bytes answer = (h : RequestHead) (rest : List ℕ) → ReadsRequest bytes h rest
    → length h.fields ≤ most_header_lines → IsWhole bytes answer h
