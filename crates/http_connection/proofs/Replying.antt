-- One reply on a connection.
use Rattle.std.proofs.Common.{◌≡◌, ℕ, List, [], ◌∷◌, ◌++◌, Bool, true, false, ◌||◌, length, take, drop, refl, sym, ap, ◌∙◌, subst, arith, codes, inl, inr}
use Rattle.std.specs.Prelude.{Option, Some, None, IfSome, slice_range, if◌then◌else◌}
use Rattle.std.specs.Io.KnownBytes.{Consumes, Keeps}
use Rattle.std.proofs.KnownBytes.{Keeps-refl}
use Rattle.std.proofs.lemmas.List.{take_all, append_cancel_left}
use Rattle.http_front.specs.declared.reading.Reading.TheVariants.{Head}
use Rattle.http_text.specs.declared.routes.Route.{Route}
use Rattle.http_text.specs.declared.routes.Route.TheVariants as routes
use Rattle.http_text.specs.declared.heads.HeadParts.{HeadParts}
use Rattle.http_text.specs.declared.heads.HeadAnswer.TheVariants.{More}
use Rattle.http_text.specs.Heads.{IsAnswer, IsHead, IsNoHead}
use Rattle.http_text.specs.Limits.{most_head_bytes}
use Rattle.http_front.specs.declared.decided.Decided.{Decided}
use Rattle.http_front.specs.declared.decided.Decided.TheVariants.{BadRequest, NotFound, NotAllowed, Asks}
use Rattle.http_front.specs.Reading.{IsReading, TakesOn, WaitsForMore}
use Rattle.http_front.specs.Requests.{too_long, bad, whole}
use Rattle.http_front.specs.Deciding.{decision_of}
use Rattle.http_front.specs.Table.{Reply, refused, busy, read_fault, text, no_memory, answer_reply, Decision, replies, asks, asked_on, closing, decision, whole_reply}
use Rattle.http_front.specs.Talk.{Answering, IsReplied, IsUnanswered}
use Rattle.http_connection.specs.declared.next.Next.{Next}
use Rattle.http_connection.specs.declared.next.Next.TheVariants as next
use Rattle.http_connection.specs.Steps.{GivesReply, GivesAsked, ActsOn, RepliesTo, ServesNext, WantsBody}

-- what the viewers answered was given
pub asked : {V : Type 0} (may : Answering V) (before after : V) (route : Route) (line : List ℕ) (given now : Option (List ℕ)) (close quiet : Bool) (n : Next) → quiet ≡ false
    → GivesAsked may before after route line given now close n → ActsOn may before after (asks route line) given now close quiet n
asked may before after route line given now close quiet n loud (refused k, right, gives) =
    inl (
      answer_reply (refused k),
      (refused k, right, (λ e. let clash : refused k ≡ no_memory = e in cc), refl),
      subst (λ q. GivesReply given now (whole_reply 400 (answer_reply (refused k)).body close q) close n) (sym loud) gives,
    )
asked may before after route line given now close quiet n loud (busy, right, gives) =
    inl (
      answer_reply busy,
      (busy, right, (λ e. let clash : busy ≡ no_memory = e in cc), refl),
      subst (λ q. GivesReply given now (whole_reply 503 (answer_reply busy).body close q) close n) (sym loud) gives,
    )
asked may before after route line given now close quiet n loud (read_fault, right, gives) =
    inl (
      answer_reply read_fault,
      (read_fault, right, (λ e. let clash : read_fault ≡ no_memory = e in cc), refl),
      subst (λ q. GivesReply given now (whole_reply 502 (answer_reply read_fault).body close q) close n) (sym loud) gives,
    )
asked may before after route line given now close quiet n loud (text body, right, gives) =
    inl (
      answer_reply (text body),
      (text body, right, (λ e. let clash : text body ≡ no_memory = e in cc), refl),
      subst (λ q. GivesReply given now (whole_reply 200 body close q) close n) (sym loud) gives,
    )
asked may before after route line given now close quiet n loud (no_memory, right, none) = inr (none, inr right)

-- nothing was done about a decision
none_done : {V : Type 0} (may : Answering V) (same : V) (d : Decision) → IsUnanswered may same same d
none_done may same (replies r) = refl
none_done may same (asks route line) = inl refl

pub none_given : {V : Type 0} (may : Answering V) (same : V) (d : Decision) (given : Option (List ℕ)) (close quiet : Bool)
    → ActsOn may same same d given given close quiet next.Memory
none_given may same d given close quiet = inr (Keeps-refl given, none_done may same d)

replies_not_asks : (r : Reply) (to : Route) (asked : List ℕ) → replies r ≡ asks to asked → ⊥
replies_not_asks r to asked is = let clash : replies r ≡ asks to asked = is in cc

-- viewers are asked for a request with GET alone
get_asks : (body get : Bool) (route to : Route) (line asked : List ℕ)
    → (if body then replies (closing 400 (codes "bad request")) else asked_on route line get) ≡ asks to asked → get ≡ true
get_asks true get route to line asked is = absurd (replies_not_asks _ to asked is)
get_asks false true route to line asked is = refl
get_asks false false routes.NotFound to line asked is = absurd (replies_not_asks _ to asked is)
get_asks false false routes.Tiles to line asked is = absurd (replies_not_asks _ to asked is)
get_asks false false routes.Prefix to line asked is = absurd (replies_not_asks _ to asked is)

pub wants_body : (p : HeadParts) (target line : List ℕ) (d : Decided) → (p.get ≡ true → p.head ≡ false) → decision (whole p target) ≡ decision_of d line → WantsBody d p.head
wants_body p target line BadRequest one is = tt
wants_body p target line NotFound one is = tt
wants_body p target line NotAllowed one is = tt
wants_body p target line (Asks route) one is = one (get_asks p.body p.get _ route _ line is)

-- bytes were taken, and the request that they begin with was replied to
pub head_served : {V : Type 0} (may : Answering V) (before after : V) (left left_read left_now given given_read now : Option (List ℕ)) (held read held_now : List ℕ) (p : HeadParts) (n : ℕ) (next : Next)
    → TakesOn left left_read held read → IsReading read (Head p) → left_now ≡ left_read → given_read ≡ given → held_now ≡ drop p.length read
    → RepliesTo may before after (whole p (slice_range read p.target_start p.target_end)) given_read now n next
    → ServesNext may before after left left_now held held_now given now n next
head_served may before after left left_read left_now given given_read now held read held_now p n next (more, is, got) (h, head) same kept behind replied = (
  more,
  subst (λ w. Consumes left w more) (sym same) got,
  inr (
    whole p (slice_range read p.target_start p.target_end),
    (h, subst (λ w. IsHead w p h) is head, head.target, behind ∙ ap (drop p.length) is),
    subst (λ w. RepliesTo may before after (whole p (slice_range read p.target_start p.target_end)) w now n next) kept replied,
  ),
)

-- a head that is too long, or bytes that are none, were replied to
pub long_served : {V : Type 0} (may : Answering V) (same : V) (left left_read left_now given given_read now : Option (List ℕ)) (held read : List ℕ) (n : ℕ) (next : Next)
    → TakesOn left left_read held read → IsAnswer read More × (length read ≡ most_head_bytes) → left_now ≡ left_read → given_read ≡ given
    → GivesReply given_read now (whole_reply 431 (codes "head too long" ++ 10 ∷ []) true false) true next
    → ServesNext may same same left left_now held read given now n next
long_served may same left left_read left_now given given_read now held read n next (more, is, got) (waits, long) alike kept gives =
    let all : take most_head_bytes (held ++ more) ≡ held ++ more = take_all most_head_bytes (held ++ more) (omega (arith, long, ap (λ w. length w) is)) in (
      more,
      subst (λ w. Consumes left w more) (sym alike) got,
      inr (
        too_long,
        (subst (λ w. IsAnswer w More) (is ∙ sym all) waits, omega (arith, long, ap (λ w. length w) is), is),
        inl (closing 431 (codes "head too long"), (refl, refl), subst (λ w. GivesReply w now (whole_reply 431 (codes "head too long" ++ 10 ∷ []) true false) true next) kept gives),
      ),
    )

pub bad_served : {V : Type 0} (may : Answering V) (same : V) (left left_read left_now given given_read now : Option (List ℕ)) (held read : List ℕ) (n : ℕ) (next : Next)
    → TakesOn left left_read held read → IsNoHead read → left_now ≡ left_read → given_read ≡ given
    → GivesReply given_read now (whole_reply 400 (codes "bad request" ++ 10 ∷ []) true false) true next
    → ServesNext may same same left left_now held read given now n next
bad_served may same left left_read left_now given given_read now held read n next (more, is, got) none alike kept gives = (
  more,
  subst (λ w. Consumes left w more) (sym alike) got,
  inr (
    bad,
    (subst IsNoHead is none, is),
    inl (closing 400 (codes "bad request"), (refl, refl), subst (λ w. GivesReply w now (whole_reply 400 (codes "bad request" ++ 10 ∷ []) true false) true next) kept gives),
  ),
)

-- the client has ended the connection
rest_is : (left : Option (List ℕ)) (held more read : List ℕ) → read ≡ held ++ more → IfSome left (λ all. read ≡ held ++ all) → IfSome left (λ all. more ≡ all)
rest_is None held more read is all = tt
rest_is (Some others) held more read is all = append_cancel_left held more others (sym is ∙ all)

pub ended : {V : Type 0} (may : Answering V) (same : V) (left left_read given now : Option (List ℕ)) (held read : List ℕ) (n : ℕ)
    → TakesOn left left_read held read → WaitsForMore read → IfSome left (λ all. read ≡ held ++ all) → now ≡ given
    → ServesNext may same same left left_read held read given now n next.Ended
ended may same left left_read given now held read n (more, is, got) waits all kept =
    (more, got, inl (refl, subst (Keeps given) (sym kept) (Keeps-refl given), subst WaitsForMore is waits, is, rest_is left held more read is all))

-- what was decided of a head was done
pub acted : {V : Type 0} (may : Answering V) (before after : V) (d e : Decision) (given now : Option (List ℕ)) (one other quiet : Bool) (n : Next) → d ≡ e → one ≡ other
    → ActsOn may before after e given now one quiet n → ActsOn may before after d given now other quiet n
acted may before after d e given now one other quiet n is alike acts =
    subst (λ k. ActsOn may before after k given now other quiet n) (sym is) (subst (λ k. ActsOn may before after e given now k quiet n) alike acts)

-- the reply of a decision was given
pub fixed : {V : Type 0} (may : Answering V) (same : V) (d e : Decided) (line : List ℕ) (reply : Reply) (given now : Option (List ℕ)) (close quiet : Bool) (n : Next) → d ≡ e
    → decision_of e line ≡ replies reply → GivesReply given now (whole_reply reply.status reply.body (reply.closes || close) quiet) (reply.closes || close) n
    → ActsOn may same same (decision_of d line) given now close quiet n
fixed may same d e line reply given now close quiet n is decides gives =
    inl (reply, subst (λ k. IsReplied may same same k reply) (sym (ap (λ k. decision_of k line) is ∙ decides)) (refl, refl), gives)

-- the viewers were asked by a decision
pub asked_by : {V : Type 0} (may : Answering V) (before after : V) (d : Decided) (route : Route) (line : List ℕ) (given now : Option (List ℕ)) (close quiet : Bool) (n : Next) → d ≡ Asks route
    → WantsBody d quiet → GivesAsked may before after route line given now close n → ActsOn may before after (decision_of d line) given now close quiet n
asked_by may before after d route line given now close quiet n is loud gives =
    subst (λ k. ActsOn may before after (decision_of k line) given now close quiet n) (sym is)
    (asked may before after route line given now close quiet n (subst (λ k. WantsBody k quiet) is loud) gives)
