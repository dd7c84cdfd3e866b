-- The pieces of a reply's head, one after another.
use Rattle.std.proofs.Common.{◌≡◌, ℕ, ◌+◌, ◌<◌, ◌≤◌, Bool, List, [], ◌∷◌, ◌++◌, length, length-append, map, take, drop, get_or, codes, refl, sym, ap, ◌∙◌, append_assoc, append-nil, arith, subst}
use Rattle.std.specs.Prelude.{unwrap_or, Result, OnOk, OnErr}
use Rattle.std.specs.List.{concat, flat_map}
use Rattle.std.specs.Fmt.{decimal}
use Rattle.std.proofs.lemmas.Grind.{flat_map-append}
use Rattle.std.proofs.lemmas.List.{take_more, take_at, take-append-drop, map-append}
use Rattle.std.proofs.lemmas.List.Folds.{concat-append}
use Rattle.std.specs.Str.{IsUtf8, IsCharBoundary}
use Rattle.std.specs.String.Boundary.{IsSplitPoint}
use Rattle.std.proofs.lemmas.Str.{IsCharBoundary-from_take}
use denote.Ref.{Bor}
use Rattle.http.specs.StatusCode.{reason_phrase}
use Rattle.http_text.specs.Inner.{allow_part, connection_part, unknown}
use Rattle.http_text.specs.Replies.{reply_head, head_line, allow_lines, connection_line}

abbrev content : List ℕ
content = codes "Content-Type: text/plain; charset=utf-8"

abbrev many : List ℕ
many = codes "Content-Length: "

abbrev texts : List (Bor (List ℕ)) → List (List ℕ)
texts pieces = map (λ (p : Bor (List ℕ)). p.now) pieces

pub pieces_more : (pieces : List (Bor (List ℕ))) (i : ℕ) (d : Bor (List ℕ)) (start out next : List ℕ) → i < length pieces → out ≡ start ++ concat (texts (take i pieces))
    → next ≡ out ++ (get_or pieces i d).now → next ≡ start ++ concat (texts (take (i + 1) pieces))
pieces_more pieces i d start out next low so_far is =
    let piece : List ℕ = (get_or pieces i d).now in
    let more : concat (texts (take (i + 1) pieces)) ≡ concat (texts (take i pieces)) ++ piece =
    ap (λ ps. concat (texts ps)) (take_more pieces i d low)
    ∙ ap concat (map-append (λ (p : Bor (List ℕ)). p.now) (take i pieces) (get_or pieces i d ∷ []))
    ∙ concat-append (texts (take i pieces)) (piece ∷ []) ∙ ap (λ w. concat (texts (take i pieces)) ++ w) (append-nil piece) in
    is ∙ ap (λ w. w ++ piece) so_far ∙ append_assoc start (concat (texts (take i pieces))) piece ∙ ap (λ w. start ++ w) (sym more)

-- their length, one piece further
one_longer : (pieces : List (Bor (List ℕ))) (i : ℕ) (d : Bor (List ℕ)) → i < length pieces
    → length (concat (texts (take (i + 1) pieces))) ≡ length (concat (texts (take i pieces))) + length (get_or pieces i d).now
one_longer pieces i d low =
    sym (ap (λ w. length w) (pieces_more pieces i d [] (concat (texts (take i pieces))) (concat (texts (take i pieces)) ++ (get_or pieces i d).now) low refl refl))
    ∙ length-append (concat (texts (take i pieces))) (get_or pieces i d).now

pub length_more : (pieces : List (Bor (List ℕ))) (i : ℕ) (d : Bor (List ℕ)) (start out next : ℕ) → i < length pieces → out ≡ start + length (concat (texts (take i pieces)))
    → next ≡ out + length (get_or pieces i d).now → next ≡ start + length (concat (texts (take (i + 1) pieces)))
length_more pieces i d start out next low so_far is = omega (arith, so_far, is, one_longer pieces i d low)

front_within : (pieces : List (Bor (List ℕ))) (n : ℕ) → length (concat (texts (take n pieces))) ≤ length (concat (texts pieces))
front_within pieces n =
    let front = take n pieces in
    let behind = drop n pieces in
    let whole : length (concat (texts pieces)) ≡ length (concat (texts front)) + length (concat (texts behind)) =
    ap (λ ps. length (concat (texts ps))) (sym (take-append-drop n pieces))
    ∙ ap (λ w. length (concat w)) (map-append (λ (p : Bor (List ℕ)). p.now) front behind)
    ∙ ap (λ w. length w) (concat-append (texts front) (texts behind)) ∙ length-append (concat (texts front)) (concat (texts behind)) in
    omega (arith, whole)

-- where there is no room for one of them, there was none for all
pub length_within : (pieces : List (Bor (List ℕ))) (i : ℕ) (d : Bor (List ℕ)) (start out first room : ℕ) → i < length pieces → out ≡ start + length (concat (texts (take i pieces)))
    → first ≤ room → room < out + length (get_or pieces i d).now → first < start + length (concat (texts pieces))
length_within pieces i d start out first room low so_far grown full =
    omega (arith, so_far, grown, full, one_longer pieces i d low, front_within pieces (i + 1))

-- the same pieces, in the brackets of the lines
lines : (version code gap reason allow content many digits stays end : List ℕ)
    → version ++ (code ++ (gap ++ (reason ++ ((end ++ allow) ++ ((content ++ (end ++ many)) ++ (digits ++ ((end ++ ((stays ++ end) ++ end)) ++ [])))))))
    ≡ (((version ++ ((code ++ gap) ++ reason)) ++ end) ++ (allow ++ ((content ++ end) ++ (((many ++ digits) ++ end) ++ ((stays ++ end) ++ []))))) ++ end
lines version code gap reason allow content many digits stays end = simp (append_assoc, append-nil) refl

laid : (version code gap reason content many digits stays : List ℕ) (allows : List (List ℕ))
    → version ++ (code ++ (gap ++ (reason ++ ((head_line [] ++ flat_map head_line allows) ++ ((content ++ (head_line [] ++ many)) ++ (digits ++ ((head_line [] ++ (head_line stays ++ head_line [])) ++ [])))))))
    ≡ flat_map head_line ((version ++ ((code ++ gap) ++ reason)) ∷ (allows ++ (content ∷ (many ++ digits) ∷ stays ∷ []))) ++ head_line []
laid version code gap reason content many digits stays allows =
    lines version code gap reason (flat_map head_line allows) content many digits stays (head_line [])
    ∙ ap (λ w. (head_line (version ++ ((code ++ gap) ++ reason)) ++ w) ++ head_line []) (sym (flat_map-append head_line allows (content ∷ (many ++ digits) ∷ stays ∷ [])))

abbrev parts : List ℕ → List ℕ → List ℕ → List ℕ → List ℕ → List (List ℕ)
parts code reason allow digits connection = codes "HTTP/1.1 " ∷ code ∷ codes " " ∷ reason ∷ allow ∷ (content ++ (head_line [] ++ many)) ∷ digits ∷ connection ∷ []

pub pieces_make_the_head : (status size : ℕ) (close : Bool) (code reason allow digits connection : List ℕ) → code ≡ decimal status
    → reason ≡ unwrap_or (reason_phrase status) unknown → allow ≡ allow_part status → digits ≡ decimal size → connection ≡ connection_part close
    → concat (parts code reason allow digits connection) ≡ reply_head status size close
pieces_make_the_head status size close code reason allow digits connection is_code is_reason is_allow is_digits is_connection =
    let phrase = unwrap_or (reason_phrase status) unknown in
    ap (λ w. concat (parts w reason allow digits connection)) is_code
    ∙ ap (λ w. concat (parts (decimal status) w allow digits connection)) is_reason
    ∙ ap (λ w. concat (parts (decimal status) phrase w digits connection)) is_allow
    ∙ ap (λ w. concat (parts (decimal status) phrase (allow_part status) w connection)) is_digits
    ∙ ap (λ w. concat (parts (decimal status) phrase (allow_part status) (decimal size) w)) is_connection
    ∙ laid (codes "HTTP/1.1 ") (decimal status) (codes " ") phrase content many (decimal size) (connection_line close) (allow_lines status)

pub on_err : {T E : Type 0} (r : Result T E) (room start : ℕ) (one two : List ℕ) → one ≡ two → OnErr r (room < start + length one) → OnErr r (room < start + length two)
on_err r room start one two same h = subst (λ w. OnErr r (room < start + length w)) same h

pub on_ok : {T E : Type 0} (r : Result T E) (now before one two : List ℕ) → one ≡ two → OnOk r (now ≡ before ++ one) → OnOk r (now ≡ before ++ two)
on_ok r now before one two same h = subst (λ w. OnOk r (now ≡ before ++ w)) same h

-- a text can be cut where the text that it begins with ends
pub ends_a_text : (now before more : List ℕ) (n : ℕ) → n ≡ length before → now ≡ before ++ more → IsUtf8 now → IsUtf8 before → IsSplitPoint now n
ends_a_text now before more n long parts whole front =
    let within : n ≤ length now = omega (arith, long, ap (λ w. length w) parts, length-append before more) in
    let cut : take n now ≡ before = ap (take n) parts ∙ take_at before more n (sym long) in
    let boundary : IsCharBoundary now n = IsCharBoundary-from_take now n whole within (subst IsUtf8 (sym cut) front) in
    (boundary.0, λ _. boundary.1)
