-- What is said on a connection: its requests, in order, each with its reply (this project's own; RFC 9112, section
-- 9.3).
use Rattle.std.specs.Prelude.{ℕ, ◌≡◌, ◌+◌, ◌⊎◌, true, false, List, [], ◌∷◌, ◌++◌, length, map, Option, IfSome}
use Rattle.std.specs.Io.KnownBytes.{Appends, Consumes}
use Rattle.http_text.specs.declared.routes.Route.{Route}
use Rattle.http_front.specs.Reading.{WaitsForMore}
use Rattle.http_front.specs.Requests.{Request, Begins, HasRequests}
use Rattle.http_front.specs.Table.{Answered, no_memory, Reply, Decision, replies, asks, decision, answer_reply}
use Rattle.http_front.specs.Table.{Exchange, closes_after, reply_bytes}

-- what may be answered to a line on a route, by viewers before and after
abbrev pub Answering : Type 0 → Type 1
Answering V = V → V → Route → List ℕ → Answered → Type 0

-- the reply is the decision's, and the viewers aren't asked; or it is that of what they answered
abbrev pub IsReplied : {V : Type 0} → Answering V → V → V → Decision → Reply → Type 0
IsReplied may before after (replies decided) reply = (after ≡ before) × (reply ≡ decided)
IsReplied may before after (asks route line) reply =
    (answer : Answered) × may before after route line answer × (answer ≡ no_memory → ⊥)
    × (reply ≡ answer_reply answer)

-- each reply is right of its request, by what the viewers answered one after another
abbrev pub AreReplied : {V : Type 0} → Answering V → V → V → List Exchange → Type 0
AreReplied may before after [] = after ≡ before
AreReplied {V} may before after (e ∷ exchanges) =
    (mid : V) × IsReplied may before mid (decision e.request) e.reply × AreReplied may mid after exchanges

-- the replies leave the connection open, the first of them being the n-th
abbrev pub StayOpen : ℕ → List Exchange → Type 0
StayOpen n [] = Unit {0}
StayOpen n (e ∷ exchanges) = (closes_after n e ≡ false) × StayOpen (n + 1) exchanges

-- the bytes of the replies, the first of them being the n-th
abbrev pub talk_bytes : ℕ → List Exchange → List ℕ
talk_bytes n [] = []
talk_bytes n (e ∷ exchanges) = reply_bytes n e ++ talk_bytes (n + 1) exchanges

-- the exchanges are those of the bytes that were taken, by viewers before and after
pub record IsTalk {V : Type 0} (may : Answering V) (before after : V) (taken rest : List ℕ) (exchanges : List Exchange)
    : Type 0 where
  pub requests : HasRequests taken (map (λ (e : Exchange). e.request) exchanges) rest
  pub replied : AreReplied may before after exchanges

-- the connection has ended: after a reply that closes it, or where the client has ended it with no head whole
abbrev pub HasEnded : Option (List ℕ) → List ℕ → List ℕ → List Exchange → Type 0
HasEnded left taken rest exchanges =
    ((before : List Exchange) × (last : Exchange) × (exchanges ≡ before ++ last ∷ []) × StayOpen 1 before
    × (closes_after (length exchanges) last ≡ true))
    ⊎ (StayOpen 1 exchanges × WaitsForMore rest × IfSome left (λ all. taken ≡ all))

-- closed: all replies were given
abbrev pub IsClosed : {V : Type 0} → Answering V → V → V → Option (List ℕ) → Option (List ℕ) → Option (List ℕ)
    → Option (List ℕ) → ℕ → Type 0
IsClosed may before after left left_now given given_now count =
    (taken : List ℕ) × (rest : List ℕ) × (exchanges : List Exchange) × Consumes left left_now taken
    × IsTalk may before after taken rest exchanges × HasEnded left taken rest exchanges
    × Appends given given_now (talk_bytes 1 exchanges) × (count ≡ length exchanges)

-- no reply to the request has begun: the viewers weren't asked, or they were and had no memory
abbrev pub IsUnanswered : {V : Type 0} → Answering V → V → V → Decision → Type 0
IsUnanswered may before after (replies decided) = after ≡ before
IsUnanswered may before after (asks route line) = (after ≡ before) ⊎ may before after route line no_memory

-- what was given behind the replies that were given whole, where the n-th is none of them: nothing, with no request
-- for it or one that is unanswered; or a front of it
abbrev pub IsBroken : {V : Type 0} → Answering V → V → V → List ℕ → ℕ → List ℕ → Type 0
IsBroken may before after rest n sent =
    ((sent ≡ []) × (after ≡ before))
    ⊎ ((sent ≡ []) × (request : Request) × (behind : List ℕ) × Begins rest request behind
    × IsUnanswered may before after (decision request))
    ⊎ ((e : Exchange) × (behind : List ℕ) × (unsent : List ℕ) × Begins rest e.request behind
    × IsReplied may before after (decision e.request) e.reply × (reply_bytes n e ≡ sent ++ unsent))

-- cut short: so many replies were given whole, each of which left the connection open
abbrev pub IsCutShort : {V : Type 0} → Answering V → V → V → Option (List ℕ) → Option (List ℕ) → Option (List ℕ)
    → Option (List ℕ) → ℕ → Type 0
IsCutShort {V} may before after left left_now given given_now count =
    (taken : List ℕ) × (rest : List ℕ) × (exchanges : List Exchange) × (mid : V) × (sent : List ℕ)
    × Consumes left left_now taken × IsTalk may before mid taken rest exchanges × StayOpen 1 exchanges
    × (count ≡ length exchanges) × Appends given given_now (talk_bytes 1 exchanges ++ sent)
    × IsBroken may mid after rest (count + 1) sent
