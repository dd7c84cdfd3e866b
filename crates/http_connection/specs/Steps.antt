-- For proofs and inner functions: what becomes of one request of a connection (this project's own).
use Rattle.std.specs.Prelude.{ℕ, ◌≡◌, ◌==◌, ◌||◌, ◌⊎◌, Bool, true, false, List, ◌++◌, length, map, Option, IfSome}
use Rattle.std.specs.Io.KnownBytes.{Appends, Keeps, Consumes}
use Rattle.scene_ports.specs.Output.{GivesFront}
use Rattle.http_text.specs.declared.routes.Route.{Route}
use Rattle.http_front.specs.Reading.{WaitsForMore}
use Rattle.http_front.specs.declared.decided.Decided.{Decided}
use Rattle.http_front.specs.declared.decided.Decided.TheVariants.{BadRequest, NotFound, NotAllowed, Asks}
use Rattle.http_front.specs.Requests.{Request, Begins, HasRequests}
use Rattle.http_front.specs.Table.{Answered, refused, busy, read_fault, text, no_memory, Reply, answer_reply, Decision}
use Rattle.http_front.specs.Table.{decision, whole_reply, asks_to_end, wants_no_body, most_replies, Exchange}
use Rattle.http_front.specs.Talk.{Answering, IsReplied, AreReplied, IsUnanswered, StayOpen, talk_bytes}
use Rattle.http_connection.specs.declared.next.Next.{Next}
use Rattle.http_connection.specs.declared.next.Next.TheVariants.{Open, Closed, Ended, LinkFault, Memory}

-- a reply of these bytes was given whole, with or without an end of the connection; or a front of it
abbrev pub GivesReply : Option (List ℕ) → Option (List ℕ) → List ℕ → Bool → Next → Type 0
GivesReply given now bytes close Open = (close ≡ false) × Appends given now bytes
GivesReply given now bytes close Closed = (close ≡ true) × Appends given now bytes
GivesReply given now bytes close Ended = ⊥
GivesReply given now bytes close LinkFault = GivesFront given now bytes
GivesReply given now bytes close Memory = GivesFront given now bytes

-- nothing was given, for want of memory
abbrev pub GivesNone : Option (List ℕ) → Option (List ℕ) → Next → Type 0
GivesNone given now Open = ⊥
GivesNone given now Closed = ⊥
GivesNone given now Ended = ⊥
GivesNone given now LinkFault = ⊥
GivesNone given now Memory = Keeps given now

-- the reply to an answer was given, or there is none
abbrev pub GivesAnswer : Option (List ℕ) → Option (List ℕ) → Bool → Answered → Next → Type 0
GivesAnswer given now close (refused k) next =
    GivesReply given now (whole_reply 400 (answer_reply (refused k)).body close false) close next
GivesAnswer given now close busy next =
    GivesReply given now (whole_reply 503 (answer_reply busy).body close false) close next
GivesAnswer given now close read_fault next =
    GivesReply given now (whole_reply 502 (answer_reply read_fault).body close false) close next
GivesAnswer given now close (text body) next = GivesReply given now (whole_reply 200 body close false) close next
GivesAnswer given now close no_memory next = GivesNone given now next

-- the viewers were asked, and what they answered was given
abbrev pub GivesAsked : {V : Type 0} → Answering V → V → V → Route → List ℕ → Option (List ℕ) → Option (List ℕ)
    → Bool → Next → Type 0
GivesAsked may before after route line given now close next =
    (answer : Answered) × may before after route line answer × GivesAnswer given now close answer next

-- where the viewers are asked, the reply has its body
abbrev pub WantsBody : Decided → Bool → Type 0
WantsBody BadRequest quiet = Unit {0}
WantsBody NotFound quiet = Unit {0}
WantsBody NotAllowed quiet = Unit {0}
WantsBody (Asks route) quiet = quiet ≡ false

-- the reply of a decision was given, or a front of it; or there is none for want of memory. The connection is closed
-- where the reply or the request says so
abbrev pub ActsOn : {V : Type 0} → Answering V → V → V → Decision → Option (List ℕ) → Option (List ℕ) → Bool → Bool
    → Next → Type 0
ActsOn may before after decided given now close quiet next =
    ((reply : Reply) × IsReplied may before after decided reply
    × GivesReply given now (whole_reply reply.status reply.body (reply.closes || close) quiet) (reply.closes || close)
    next)
    ⊎ (GivesNone given now next × IsUnanswered may before after decided)

-- the request has its reply, the n-th
abbrev pub RepliesTo : {V : Type 0} → Answering V → V → V → Request → Option (List ℕ) → Option (List ℕ) → ℕ → Next
    → Type 0
RepliesTo may before after request given now n next = ActsOn may before after (decision request) given now
    (asks_to_end request || n == most_replies) (wants_no_body request) next

-- bytes that end the connection, or are of a head that isn't whole when the link fails: there is no reply
abbrev pub HasNoReply : {V : Type 0} → V → V → List ℕ → List ℕ → Option (List ℕ) → Option (List ℕ) → Option (List ℕ)
    → List ℕ → Next → Type 0
HasNoReply before after bytes more left given now held Ended =
    (after ≡ before) × Keeps given now × WaitsForMore bytes × (held ≡ bytes) × IfSome left (λ all. more ≡ all)
HasNoReply before after bytes more left given now held LinkFault = (after ≡ before) × Keeps given now
HasNoReply before after bytes more left given now held Memory = ⊥
HasNoReply before after bytes more left given now held Open = ⊥
HasNoReply before after bytes more left given now held Closed = ⊥

-- bytes were taken, and the next request was replied to; or there is none
abbrev pub ServesNext : {V : Type 0} → Answering V → V → V → Option (List ℕ) → Option (List ℕ) → List ℕ → List ℕ
    → Option (List ℕ) → Option (List ℕ) → ℕ → Next → Type 0
ServesNext may before after left left_now held held_now given now n next =
    (more : List ℕ) × Consumes left left_now more
    × (HasNoReply before after (held ++ more) more left given now held_now next
    ⊎ ((request : Request) × Begins (held ++ more) request held_now
    × RepliesTo may before after request given now n next))

-- the requests of exchanges
abbrev pub requests_of : List Exchange → List Request
requests_of exchanges = map (λ (e : Exchange). e.request) exchanges

-- so many replies were given whole, and the connection is open
abbrev pub IsOpen : {V : Type 0} → Answering V → V → V → Option (List ℕ) → Option (List ℕ) → Option (List ℕ)
    → Option (List ℕ) → List ℕ → ℕ → Type 0
IsOpen may before now left left_now given given_now held count =
    (taken : List ℕ) × (exchanges : List Exchange) × Consumes left left_now taken
    × HasRequests taken (requests_of exchanges) held × AreReplied may before now exchanges × StayOpen 1 exchanges
    × Appends given given_now (talk_bytes 1 exchanges) × (count ≡ length exchanges)
