-- The requests of a connection's bytes, one after another (RFC 9112, sections 2.2 and 9.3; the limit is this project's
-- own).
use Rattle.std.specs.Prelude.{ℕ, ◌≡◌, ◌≤◌, List, [], ◌∷◌, length, take, drop}
use Rattle.httparse.specs.Grammar.{RequestHead}
use Rattle.http_text.specs.declared.heads.HeadParts.{HeadParts}
use Rattle.http_text.specs.declared.heads.HeadAnswer.TheVariants.{More}
use Rattle.http_text.specs.Heads.{IsAnswer, IsHead, IsNoHead}
use Rattle.http_text.specs.Limits.{most_head_bytes}

-- a request: a head that is too long, bytes with which no head begins, or a whole head with its parts and its target
pub data Request : Type 0 where
  too_long bad : Request
  whole : HeadParts → List ℕ → Request

-- the bytes begin with the request, and the rest is behind it; behind one that is too long or bad none is read
abbrev pub Begins : List ℕ → Request → List ℕ → Type 0
Begins bytes too_long rest =
    IsAnswer (take most_head_bytes bytes) More × (most_head_bytes ≤ length bytes) × (rest ≡ bytes)
Begins bytes bad rest = IsNoHead bytes × (rest ≡ bytes)
Begins bytes (whole p target) rest =
    (h : RequestHead) × IsHead bytes p h × (target ≡ h.target) × (rest ≡ drop p.length bytes)

-- the bytes are these requests in order, and the rest
abbrev pub HasRequests : List ℕ → List Request → List ℕ → Type 0
HasRequests bytes [] rest = rest ≡ bytes
HasRequests bytes (request ∷ requests) rest =
    (behind : List ℕ) × Begins bytes request behind × HasRequests behind requests rest
