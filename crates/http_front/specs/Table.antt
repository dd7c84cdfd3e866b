-- The reply to a request, as one table whose first row that holds decides (this project's own; the statuses by RFC
-- 9110, section 15; a reply to HEAD has no body, section 9.3.2; connections by RFC 9112, section 9).
use Rattle.std.specs.Prelude.{ℕ, ◌==◌, Bool, true, false, ◌||◌, List, [], ◌∷◌, ◌++◌, length, codes}
use Rattle.std.specs.Prelude.{if◌then◌else◌}
use Rattle.implicit_tiling.specs.Text.{refused_text}
use Rattle.http_text.specs.declared.routes.Route.{Route}
use Rattle.http_text.specs.declared.routes.Route.TheVariants.{Tiles, Prefix, NotFound}
use Rattle.http_text.specs.Targets.{route_of, line_in}
use Rattle.http_text.specs.Replies.{reply_head}
use Rattle.http_front.specs.Requests.{Request, too_long, bad, whole}

-- the replies to one connection
abbrev pub most_replies : ℕ
most_replies = 1000

-- what viewers answer to a request line: it is refused by a rule, all frames are in use, a file couldn't be read, or
-- a text; or they had no memory, and there is no reply
pub data Answered : Type 0 where
  refused : ℕ → Answered
  busy read_fault no_memory : Answered
  text : List ℕ → Answered

-- a reply: its status, its body, and whether its row closes the connection
pub record Reply : Type 0 where
  pub status : ℕ
  pub body : List ℕ
  pub closes : Bool

-- the reply that says a few words in one line
abbrev pub says : ℕ → List ℕ → Bool → Reply
says status words closes = record { status = status; body = words ++ 10 ∷ []; closes = closes }

abbrev pub closing : ℕ → List ℕ → Reply
closing status words = says status words true

abbrev pub going_on : ℕ → List ℕ → Reply
going_on status words = says status words false

-- what the head decides: the reply, or that the viewers are asked for a line on a route
pub data Decision : Type 0 where
  replies : Reply → Decision
  asks : Route → List ℕ → Decision

-- the viewers are asked where there is such a path
abbrev pub asked_on : Route → List ℕ → Bool → Decision
asked_on NotFound line get = replies (going_on 404 (codes "not found"))
asked_on Tiles line get = if get then asks Tiles line else replies (going_on 405 (codes "method not allowed"))
asked_on Prefix line get = if get then asks Prefix line else replies (going_on 405 (codes "method not allowed"))

-- the rows that the head decides, in order
abbrev pub decision : Request → Decision
decision too_long = replies (closing 431 (codes "head too long"))
decision bad = replies (closing 400 (codes "bad request"))
decision (whole p target) = if p.body then replies (closing 400 (codes "bad request"))
    else asked_on (route_of target) (line_in target) p.get

-- the rows that the viewers' answer decides
abbrev pub answer_reply : Answered → Reply
answer_reply (refused k) = record { status = 400; body = refused_text k; closes = false }
answer_reply busy = going_on 503 (codes "busy")
answer_reply read_fault = going_on 502 (codes "read fault")
answer_reply (text body) = record { status = 200; body = body; closes = false }
answer_reply no_memory = record { status = 0; body = []; closes = true }

-- the request itself asks for an end of the connection: it is HTTP/1.0, or says `Connection: close`
abbrev pub asks_to_end : Request → Bool
asks_to_end too_long = false
asks_to_end bad = false
asks_to_end (whole p target) = p.http10 || p.close

-- no body is wanted: the method is HEAD
abbrev pub wants_no_body : Request → Bool
wants_no_body too_long = false
wants_no_body bad = false
wants_no_body (whole p target) = p.head

-- a request and its reply
pub record Exchange : Type 0 where
  pub request : Request
  pub reply : Reply

-- the connection is closed after the reply, which is the n-th
abbrev pub closes_after : ℕ → Exchange → Bool
closes_after n e = e.reply.closes || (asks_to_end e.request || n == most_replies)

-- the bytes of a reply: its head, which tells the length of the body, and the body, where it is wanted
abbrev pub whole_reply : ℕ → List ℕ → Bool → Bool → List ℕ
whole_reply status body closes quiet = reply_head status (length body) closes ++ (if quiet then [] else body)

-- the bytes of the n-th reply
abbrev pub reply_bytes : ℕ → Exchange → List ℕ
reply_bytes n e = whole_reply e.reply.status e.reply.body (closes_after n e) (wants_no_body e.request)
