-- The table of replies, computed on small requests.
use Rattle.std.proofs.Common.{◌≡◌, ℕ, List, [], ◌∷◌, ◌++◌, Bool, true, false, refl, codes}
use Rattle.std.specs.Fmt.{digits}
use Rattle.percent_encoding.specs.Percent.{percent_decode}
use Rattle.http_text.specs.declared.heads.HeadParts.{HeadParts}
use Rattle.http_text.specs.declared.routes.Route.TheVariants.{Tiles, Prefix}
use Rattle.http_front.specs.Requests.{too_long, bad, whole}
use Rattle.http_front.specs.Table.{refused, busy, text, going_on, closing, replies, asks, decision, answer_reply, closes_after, reply_bytes}

crlf : List ℕ
crlf = 13 ∷ 10 ∷ []

-- a head with GET, with HEAD, and with another method
get : HeadParts
get = record { length = 40; get = true; head = false; http10 = false; target_start = 4; target_end = 10; body = false; close = false }

head : HeadParts
head = record { length = 40; get = false; head = true; http10 = false; target_start = 5; target_end = 10; body = false; close = false }

post : Bool → HeadParts
post body = record { length = 40; get = false; head = false; http10 = false; target_start = 5; target_end = 10; body = body; close = false }

-- the rows that the head decides
a_long_head : decision too_long ≡ replies (closing 431 (codes "head too long"))
a_long_head = refl

a_bad_head : decision bad ≡ replies (closing 400 (codes "bad request"))
a_bad_head = refl

-- a body is refused before the path is looked at
a_body : decision (whole (post true) (codes "/x")) ≡ replies (closing 400 (codes "bad request"))
unfolding post
a_body = refl

no_such_path : decision (whole (post false) (codes "/x")) ≡ replies (going_on 404 (codes "not found"))
unfolding post
no_such_path = refl

another_method : decision (whole (post false) (codes "/tiles")) ≡ replies (going_on 405 (codes "method not allowed"))
unfolding post
another_method = refl

-- the viewers are asked for the line of the query; the empty one is refused by the first rule
no_query : decision (whole get (codes "/tiles?level=9")) ≡ asks Tiles []
unfolding get
no_query = refl

a_prefix : decision (whole get (codes "/prefix?level=1&lo=0%2C0&hi=1,1")) ≡ asks Prefix (codes "1 0,0 1,1")
unfolding get percent_decode
a_prefix = refl

-- a refused line, byte by byte
a_refused_line : reply_bytes 1 (record { request = whole get (codes "/tiles?level=9"); reply = answer_reply (refused 1) })
    ≡ codes "HTTP/1.1 400 Bad Request" ++ crlf ++ codes "Content-Type: text/plain; charset=utf-8" ++ crlf ++ codes "Content-Length: 10" ++ crlf
    ++ codes "Connection: keep-alive" ++ crlf ++ crlf ++ codes "refused" ++ 9 ∷ codes "1" ++ 10 ∷ []
unfolding get digits crlf
a_refused_line = refl

-- to HEAD the head of the reply alone, with the length that its body would have
a_head_alone : reply_bytes 2 (record { request = whole head (codes "/tiles"); reply = going_on 405 (codes "method not allowed") })
    ≡ codes "HTTP/1.1 405 Method Not Allowed" ++ crlf ++ codes "Allow: GET" ++ crlf ++ codes "Content-Type: text/plain; charset=utf-8" ++ crlf
    ++ codes "Content-Length: 19" ++ crlf ++ codes "Connection: keep-alive" ++ crlf ++ crlf
unfolding head digits crlf
a_head_alone = refl

-- the last reply that a connection has closes it
the_last_reply : reply_bytes 1000 (record { request = whole get (codes "/tiles"); reply = answer_reply busy })
    ≡ codes "HTTP/1.1 503 Service Unavailable" ++ crlf ++ codes "Content-Type: text/plain; charset=utf-8" ++ crlf ++ codes "Content-Length: 5" ++ crlf
    ++ codes "Connection: close" ++ crlf ++ crlf ++ codes "busy" ++ 10 ∷ []
unfolding get digits crlf
the_last_reply = refl

the_one_before : closes_after 999 (record { request = whole get (codes "/tiles"); reply = answer_reply (text []) }) ≡ false
unfolding get
the_one_before = refl
