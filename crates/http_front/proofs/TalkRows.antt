-- What is said on a connection, computed on two requests that viewers aren't asked about.
use Rattle.std.proofs.Common.{◌≡◌, ℕ, List, [], ◌∷◌, ◌++◌, true, false, refl, codes, inl}
use Rattle.std.specs.Fmt.{digits}
use Rattle.std.specs.Prelude.{Some}
use Rattle.http_front.specs.Requests.{whole, bad}
use Rattle.http_front.specs.Table.{Exchange, going_on, closing}
use Rattle.http_front.specs.Talk.{Answering, AreReplied, talk_bytes, HasEnded}

crlf : List ℕ
crlf = 13 ∷ 10 ∷ []

-- a path that isn't served, and then bytes that are no head
first : Exchange
first = record {
  request = whole (record { length = 19; get = true; head = false; http10 = false; target_start = 4; target_end = 6; body = false; close = false }) (codes "/x");
  reply = going_on 404 (codes "not found");
}

last : Exchange
last = record { request = bad; reply = closing 400 (codes "bad request") }

-- viewers aren't asked, and stay as they are
are_replied : {V : Type 0} (may : Answering V) (viewers : V) → AreReplied may viewers viewers (first ∷ last ∷ [])
unfolding first last
are_replied may viewers = (viewers, (refl, refl), (viewers, (refl, refl), refl))

-- the second reply closes the connection
has_ended : HasEnded (Some []) [] [] (first ∷ last ∷ [])
unfolding first last
has_ended = inl (first ∷ [], last, refl, (refl, tt), refl)

their_bytes : talk_bytes 1 (first ∷ last ∷ [])
    ≡ codes "HTTP/1.1 404 Not Found" ++ crlf ++ codes "Content-Type: text/plain; charset=utf-8" ++ crlf ++ codes "Content-Length: 10" ++ crlf
    ++ codes "Connection: keep-alive" ++ crlf ++ crlf ++ codes "not found" ++ 10 ∷ []
    ++ codes "HTTP/1.1 400 Bad Request" ++ crlf ++ codes "Content-Type: text/plain; charset=utf-8" ++ crlf ++ codes "Content-Length: 12" ++ crlf
    ++ codes "Connection: close" ++ crlf ++ crlf ++ codes "bad request" ++ 10 ∷ []
unfolding first last digits crlf
their_bytes = refl
