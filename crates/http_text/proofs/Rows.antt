-- The definitions, computed on small requests.
use Rattle.std.proofs.Common.{◌≡◌, ℕ, List, [], ◌∷◌, ◌++◌, true, false, refl, codes}
use Rattle.std.specs.Fmt.{digits}
use Rattle.percent_encoding.specs.Percent.{percent_decode}
use Rattle.http_text.specs.declared.routes.Route.TheVariants.{Tiles, Prefix, NotFound}
use Rattle.http_text.specs.Heads.{announces_body, asks_to_close}
use Rattle.http_text.specs.Targets.{route_of, line_in}
use Rattle.http_text.specs.Replies.{reply_head}

crlf : List ℕ
crlf = 13 ∷ 10 ∷ []

-- heads of replies
kept_open : reply_head 200 14 false ≡ codes "HTTP/1.1 200 OK" ++ crlf ++ codes "Content-Type: text/plain; charset=utf-8" ++ crlf
    ++ codes "Content-Length: 14" ++ crlf ++ codes "Connection: keep-alive" ++ crlf ++ crlf
unfolding digits crlf
kept_open = refl

closed : reply_head 431 14 true ≡ codes "HTTP/1.1 431 Request Header Fields Too Large" ++ crlf ++ codes "Content-Type: text/plain; charset=utf-8" ++ crlf
    ++ codes "Content-Length: 14" ++ crlf ++ codes "Connection: close" ++ crlf ++ crlf
unfolding digits crlf
closed = refl

not_allowed : reply_head 405 19 false ≡ codes "HTTP/1.1 405 Method Not Allowed" ++ crlf ++ codes "Allow: GET" ++ crlf
    ++ codes "Content-Type: text/plain; charset=utf-8" ++ crlf ++ codes "Content-Length: 19" ++ crlf ++ codes "Connection: keep-alive" ++ crlf ++ crlf
unfolding digits crlf
not_allowed = refl

-- targets: what they ask for, and their lines
prefix_route : route_of (codes "/prefix?level=1&lo=0,0&hi=1,1") ≡ Prefix
prefix_route = refl

tiles_route : route_of (codes "/tiles") ≡ Tiles
tiles_route = refl

other_path : route_of (codes "/Tiles?level=1&lo=0,0&hi=1,1") ≡ NotFound
other_path = refl

absolute_form : route_of (codes "http://localhost/tiles?level=1&lo=0,0&hi=1,1") ≡ NotFound
absolute_form = refl

no_line_of_another_path : line_in (codes "/?level=1&lo=0,0&hi=1,1") ≡ []
no_line_of_another_path = refl

in_order : line_in (codes "/prefix?level=1&lo=0,0&hi=1,1") ≡ codes "1 0,0 1,1"
unfolding percent_decode
in_order = refl

escaped : line_in (codes "/tiles?level=1&lo=0%2C0&hi=1,1") ≡ codes "1 0,0 1,1"
unfolding percent_decode
escaped = refl

other_order : line_in (codes "/tiles?hi=0,0&lo=0,0&level=0") ≡ codes "0 0,0 0,0"
unfolding percent_decode
other_order = refl

-- an escape that isn't whole, or has no digits, stays; so does a plus sign
odd_escapes : line_in (codes "/tiles?level=%&lo=%2&hi=%zz+%2x") ≡ codes "% %2 %zz+%2x"
unfolding percent_decode
odd_escapes = refl

-- only the first `=` of a part cuts it
more_marks : line_in (codes "/tiles?level=a=b&lo=?&hi=") ≡ codes "a=b ? "
unfolding percent_decode
more_marks = refl

twice : line_in (codes "/tiles?level=0&lo=0,0&hi=0,0&hi=0,0") ≡ []
twice = refl

missing : line_in (codes "/tiles?level=9") ≡ []
missing = refl

another : line_in (codes "/tiles?level=0&lo=0,0&hi=0,0&x=1") ≡ []
another = refl

no_value : line_in (codes "/tiles?level&lo=0,0&hi=0,0") ≡ []
no_value = refl

empty_part : line_in (codes "/tiles?level=0&lo=0,0&hi=0,0&") ≡ []
empty_part = refl

escaped_name : line_in (codes "/tiles?%6Cevel=0&lo=0,0&hi=0,0") ≡ []
escaped_name = refl

no_query : line_in (codes "/tiles") ≡ []
no_query = refl

-- headers
chunked : announces_body (codes "Transfer-Encoding", codes "chunked") ≡ true
chunked = refl

long_body : announces_body (codes "CONTENT-LENGTH", codes "5") ≡ true
long_body = refl

no_body : announces_body (codes "content-length", codes "0") ≡ false
no_body = refl

-- a length that is another text of zero announces one too
padded_zero : announces_body (codes "content-length", codes "00") ≡ true
padded_zero = refl

other_header : announces_body (codes "content-type", codes "5") ≡ false
other_header = refl

asks : asks_to_close (codes "connection", codes "Close") ≡ true
asks = refl

stays : asks_to_close (codes "Connection", codes "keep-alive") ≡ false
stays = refl

other_name : asks_to_close (codes "proxy-connection", codes "close") ≡ false
other_name = refl
