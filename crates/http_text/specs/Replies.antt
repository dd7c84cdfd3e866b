-- The head of a reply (RFC 9112, section 4; which lines it has is this project's own).
use Rattle.std.specs.Prelude.{ℕ, ◌==◌, Bool, List, [], ◌∷◌, ◌++◌, codes, if◌then◌else◌, IsTrue}
use Rattle.std.specs.List.{list_any, flat_map}
use Rattle.std.specs.Fmt.{decimal}
use Rattle.http.specs.StatusCode.{status_text}

-- the statuses that replies have
abbrev pub statuses : List ℕ
statuses = 200 ∷ 400 ∷ 404 ∷ 405 ∷ 431 ∷ 502 ∷ 503 ∷ []

abbrev pub IsReplyStatus : ℕ → Type 0
IsReplyStatus status = IsTrue (list_any (λ s. s == status) statuses)

-- a line with its CR LF
abbrev pub head_line : List ℕ → List ℕ
head_line text = text ++ 13 ∷ 10 ∷ []

-- a refused method is told the one that is allowed
abbrev pub allow_lines : ℕ → List (List ℕ)
allow_lines status = if status == 405 then codes "Allow: GET" ∷ [] else []

-- whether the connection stays
abbrev pub connection_line : Bool → List ℕ
connection_line close = if close then codes "Connection: close" else codes "Connection: keep-alive"

-- the lines of the head: the version with the status and its reason, and the headers
abbrev pub reply_lines : ℕ → ℕ → Bool → List (List ℕ)
reply_lines status length close = (codes "HTTP/1.1 " ++ status_text status) ∷ allow_lines status
    ++ (codes "Content-Type: text/plain; charset=utf-8" ∷ (codes "Content-Length: " ++ decimal length)
    ∷ connection_line close ∷ [])

-- the head: its lines, and an empty one
abbrev pub reply_head : ℕ → ℕ → Bool → List ℕ
reply_head status length close = flat_map head_line (reply_lines status length close) ++ head_line []
