-- What is said on a connection, one request after another.
use Rattle.std.proofs.Common.{◌≡◌, ℕ, ◌+◌, ◌<◌, ◌≤◌, List, [], ◌∷◌, ◌++◌, Bool, true, false, ◌||◌, length, length-append, refl, sym, ap, ◌∙◌, subst, append_assoc, append-nil, arith, inl, inr}
use Rattle.std.specs.Prelude.{Option, Some, None, IfSome}
use Rattle.std.specs.Io.KnownBytes.{Appends, Consumes, Keeps}
use Rattle.std.proofs.KnownBytes.{Appends-nil, Appends-trans, Appends-kept, Consumes-nil, Consumes-trans}
use Rattle.std.proofs.lemmas.List.{drop-append-le}
use Rattle.scene_ports.specs.Output.{GivesFront}
use Rattle.http_text.proofs.Staying.{heads_stay}
use Rattle.http_front.specs.Requests.{Request, too_long, bad, whole, Begins, HasRequests}
use Rattle.http_front.specs.Table.{Reply, Exchange, decision, most_replies, closes_after, asks_to_end, reply_bytes}
use Rattle.http_front.specs.Talk.{Answering, IsReplied, AreReplied, StayOpen, talk_bytes, IsClosed, IsCutShort, IsBroken}
use Rattle.http_connection.specs.declared.next.Next.TheVariants as next
use Rattle.http_connection.specs.Steps.{ServesNext, IsOpen, requests_of}

not_both : {X : Type 0} → true ≡ false → X
not_both e = absurd (let impossible : true ≡ false = e in cc)

-- a reply that leaves the connection open is to a whole head, which stays whatever follows
begins_more : {V : Type 0} (may : Answering V) (before after : V) (bytes rest more : List ℕ) (n : ℕ) (request : Request) (reply : Reply) → Begins bytes request rest
    → IsReplied may before after (decision request) reply → closes_after n (record { request = request; reply = reply }) ≡ false → Begins (bytes ++ more) request (rest ++ more)
begins_more may before after bytes rest more n too_long reply begins replied stays_open =
    not_both (sym (ap (λ (r : Reply). closes_after n (record { request = too_long; reply = r })) replied.1) ∙ stays_open)
begins_more may before after bytes rest more n bad reply begins replied stays_open =
    not_both (sym (ap (λ (r : Reply). closes_after n (record { request = bad; reply = r })) replied.1) ∙ stays_open)
begins_more may before after bytes rest more n (whole p target) reply (h, is, aim, behind) replied stays_open =
    (h, heads_stay bytes more p h is, aim, ap (λ w. w ++ more) behind ∙ sym (drop-append-le p.length bytes more is.inside.2))

requests_more : {V : Type 0} (may : Answering V) (before after : V) (bytes rest more : List ℕ) (n : ℕ) (xs : List Exchange) → HasRequests bytes (requests_of xs) rest
    → AreReplied may before after xs → StayOpen n xs → HasRequests (bytes ++ more) (requests_of xs) (rest ++ more)
requests_more may before after bytes rest more n [] has replied stays_open = ap (λ w. w ++ more) has
requests_more may before after bytes rest more n (x ∷ xs) (behind, begins, later) (mid, first, others) (stays, stay) =
    (behind ++ more, begins_more may before mid bytes behind more n x.request x.reply begins first stays, requests_more may mid after behind rest more (n + 1) xs later others stay)

requests_next : (bytes mid rest : List ℕ) (xs : List Exchange) (e : Exchange) → HasRequests bytes (requests_of xs) mid → Begins mid e.request rest
    → HasRequests bytes (requests_of (xs ++ e ∷ [])) rest
requests_next bytes mid rest [] e has begins = (rest, subst (λ w. Begins w e.request rest) has begins, refl)
requests_next bytes mid rest (x ∷ xs) e (behind, first, later) begins = (behind, first, requests_next behind mid rest xs e later begins)

replied_next : {V : Type 0} (may : Answering V) (before mid after : V) (xs : List Exchange) (e : Exchange) → AreReplied may before mid xs
    → IsReplied may mid after (decision e.request) e.reply → AreReplied may before after (xs ++ e ∷ [])
replied_next may before mid after [] e same replied = (after, subst (λ v. IsReplied may v after (decision e.request) e.reply) same replied, refl)
replied_next may before mid after (x ∷ xs) e (next, first, later) replied = (next, first, replied_next may next mid after xs e later replied)

open_next : (n m : ℕ) (xs : List Exchange) (e : Exchange) → m ≡ n + length xs → StayOpen n xs → closes_after m e ≡ false → StayOpen n (xs ++ e ∷ [])
open_next n m [] e is stay stays_open = (subst (λ k. closes_after k e ≡ false) (let same : m ≡ n = omega (arith, is) in same) stays_open, tt)
open_next n m (x ∷ xs) e is (stays, stay) stays_open = (stays, open_next (n + 1) m xs e (let same : m ≡ n + 1 + length xs = omega (arith, is) in same) stay stays_open)

bytes_next : (n m : ℕ) (xs : List Exchange) (e : Exchange) → m ≡ n + length xs → talk_bytes n (xs ++ e ∷ []) ≡ talk_bytes n xs ++ reply_bytes m e
bytes_next n m [] e is = append-nil (reply_bytes n e) ∙ ap (λ k. reply_bytes k e) (let same : n ≡ m = omega (arith, is) in same)
bytes_next n m (x ∷ xs) e is =
    ap (λ w. reply_bytes n x ++ w) (bytes_next (n + 1) m xs e (let same : m ≡ n + 1 + length xs = omega (arith, is) in same))
    ∙ sym (append_assoc (reply_bytes n x) (talk_bytes (n + 1) xs) (reply_bytes m e))

-- the last reply of a connection closes it, so fewer stay open
last_closes : (a b c : Bool) → a || (b || c) ≡ false → c ≡ true → ⊥
last_closes true b c stays_open last = not_both stays_open
last_closes false true c stays_open last = not_both stays_open
last_closes false false c stays_open last = not_both (sym last ∙ stays_open)

not_last : (n : ℕ) (e : Exchange) → closes_after n e ≡ false → n ≡ most_replies → ⊥
not_last n e stays_open last =
    let is : closes_after most_replies e ≡ false = subst (λ k. closes_after k e ≡ false) last stays_open in
    last_closes e.reply.closes (asks_to_end e.request) true is refl

few_open : (n : ℕ) (xs : List Exchange) → n ≤ most_replies → StayOpen n xs → n + length xs ≤ most_replies
few_open n [] within stay = omega (arith, within)
few_open n (x ∷ xs) within (stays, stay) =
    let before : n + 1 ≤ most_replies = omega (arith, within, not_last n x stays) in
    let later : n + 1 + length xs ≤ most_replies = few_open (n + 1) xs before stay in
    omega (arith, later)

pub few_replies : {V : Type 0} (may : Answering V) (before now : V) (left left_now given given_now : Option (List ℕ)) (held : List ℕ) (count : ℕ)
    → IsOpen may before now left left_now given given_now held count → count < most_replies
few_replies may before now left left_now given given_now held count (taken, xs, consumed, has, replied, stay, appended, long) =
    let most : 1 + length xs ≤ most_replies = few_open 1 xs (omega arith) stay in
    omega (arith, most, long)

-- nothing was said yet
pub begins : {V : Type 0} (may : Answering V) (now : V) (left given : Option (List ℕ)) (held : List ℕ) → held ≡ [] → IsOpen may now now left left given given held 0
begins may now left given held none = ([], [], Consumes-nil left, none, refl, tt, Appends-nil given, refl)

-- one exchange more
pub goes_on : {V : Type 0} (may : Answering V) (before mid after : V) (left left_mid left_now given given_mid given_now : Option (List ℕ)) (held held_now : List ℕ) (count : ℕ)
    → IsOpen may before mid left left_mid given given_mid held count → ServesNext may mid after left_mid left_now held held_now given_mid given_now (count + 1) next.Open
    → IsOpen may before after left left_now given given_now held_now (count + 1)
goes_on may before mid after left left_mid left_now given given_mid given_now held held_now count talk (more, got, inl none) = absurd none
goes_on may before mid after left left_mid left_now given given_mid given_now held held_now count talk (more, got, inr (request, begun, inr (none, unanswered))) = absurd none
goes_on may before mid after left left_mid left_now given given_mid given_now held held_now count (taken, xs, consumed, has, replied, stay, appended, long)
    (more, got, inr (request, begun, inl (reply, right, (stays_open, sent)))) =
    let e : Exchange = record { request = request; reply = reply } in
    let at : count + 1 ≡ 1 + length xs = omega (arith, long) in (
      taken ++ more,
      xs ++ e ∷ [],
      Consumes-trans left left_mid left_now taken more consumed got,
      requests_next (taken ++ more) (held ++ more) held_now xs e (requests_more may before mid taken held more 1 xs has replied stay) begun,
      replied_next may before mid after xs e replied right,
      open_next 1 (count + 1) xs e at stay stays_open,
      subst (Appends given given_now) (sym (bytes_next 1 (count + 1) xs e at)) (Appends-trans given given_mid given_now (talk_bytes 1 xs) (reply_bytes (count + 1) e) appended sent),
      (let all : count + 1 ≡ length (xs ++ e ∷ []) = omega (arith, long, length-append xs (e ∷ [])) in all),
    )

-- the last exchange
pub closes : {V : Type 0} (may : Answering V) (before mid after : V) (left left_mid left_now given given_mid given_now : Option (List ℕ)) (held held_now : List ℕ) (count : ℕ)
    → IsOpen may before mid left left_mid given given_mid held count → ServesNext may mid after left_mid left_now held held_now given_mid given_now (count + 1) next.Closed
    → IsClosed may before after left left_now given given_now (count + 1)
closes may before mid after left left_mid left_now given given_mid given_now held held_now count talk (more, got, inl none) = absurd none
closes may before mid after left left_mid left_now given given_mid given_now held held_now count talk (more, got, inr (request, begun, inr (none, unanswered))) = absurd none
closes may before mid after left left_mid left_now given given_mid given_now held held_now count (taken, xs, consumed, has, replied, stay, appended, long)
    (more, got, inr (request, begun, inl (reply, right, (close, sent)))) =
    let e : Exchange = record { request = request; reply = reply } in
    let at : count + 1 ≡ 1 + length xs = omega (arith, long) in
    let all : count + 1 ≡ length (xs ++ e ∷ []) = omega (arith, long, length-append xs (e ∷ [])) in (
      taken ++ more,
      held_now,
      xs ++ e ∷ [],
      Consumes-trans left left_mid left_now taken more consumed got,
      record {
        requests = requests_next (taken ++ more) (held ++ more) held_now xs e (requests_more may before mid taken held more 1 xs has replied stay) begun;
        replied = replied_next may before mid after xs e replied right;
      },
      inl (xs, e, refl, stay, subst (λ k. closes_after k e ≡ true) all close),
      subst (Appends given given_now) (sym (bytes_next 1 (count + 1) xs e at)) (Appends-trans given given_mid given_now (talk_bytes 1 xs) (reply_bytes (count + 1) e) appended sent),
      all,
    )

-- all that was left was taken
all_taken : (left left_mid : Option (List ℕ)) (taken more : List ℕ) → Consumes left left_mid taken → IfSome left_mid (λ all. more ≡ all) → IfSome left (λ all. taken ++ more ≡ all)
all_taken None left_mid taken more consumed rest = tt
all_taken (Some all) None taken more consumed rest = absurd consumed
all_taken (Some all) (Some others) taken more consumed rest = ap (λ w. taken ++ w) rest ∙ sym consumed

-- the client has ended the connection
pub ends : {V : Type 0} (may : Answering V) (before mid after : V) (left left_mid left_now given given_mid given_now : Option (List ℕ)) (held held_now : List ℕ) (count : ℕ)
    → IsOpen may before mid left left_mid given given_mid held count → ServesNext may mid after left_mid left_now held held_now given_mid given_now (count + 1) next.Ended
    → IsClosed may before after left left_now given given_now count
ends may before mid after left left_mid left_now given given_mid given_now held held_now count talk (more, got, inr (request, begun, inl (reply, right, none))) = absurd none
ends may before mid after left left_mid left_now given given_mid given_now held held_now count talk (more, got, inr (request, begun, inr (none, unanswered))) = absurd none
ends may before mid after left left_mid left_now given given_mid given_now held held_now count (taken, xs, consumed, has, replied, stay, appended, long) (more, got, inl (same, kept, waits, stood, rest)) = (
  taken ++ more,
  held ++ more,
  xs,
  Consumes-trans left left_mid left_now taken more consumed got,
  record {
    requests = requests_more may before mid taken held more 1 xs has replied stay;
    replied = subst (λ v. AreReplied may before v xs) (sym same) replied;
  },
  inr (stay, waits, all_taken left left_mid taken more consumed rest),
  Appends-kept given given_mid given_now (talk_bytes 1 xs) appended kept,
  long,
)

-- what was given of a reply
broken_off : {V : Type 0} (may : Answering V) (mid after : V) (given given_now : Option (List ℕ)) (bytes held_now : List ℕ) (n : ℕ) (request : Request)
    → Begins bytes request held_now → ((reply : Reply) × IsReplied may mid after (decision request) reply × GivesFront given given_now (reply_bytes n (record { request = request; reply = reply })))
    → (sent : List ℕ) × Appends given given_now sent × IsBroken may mid after bytes n sent
broken_off may mid after given given_now bytes held_now n request begun (reply, right, (sent, unsent, all, appended)) =
    (sent, appended, inr (inr (record { request = request; reply = reply }, held_now, unsent, begun, right, all)))

-- cut short at some place
cut_at : {V : Type 0} (may : Answering V) (before mid after : V) (left left_mid left_now given given_mid given_now : Option (List ℕ)) (held more : List ℕ) (count : ℕ)
    → IsOpen may before mid left left_mid given given_mid held count → Consumes left_mid left_now more
    → (sent : List ℕ) × Appends given_mid given_now sent × IsBroken may mid after (held ++ more) (count + 1) sent → IsCutShort may before after left left_now given given_now count
cut_at may before mid after left left_mid left_now given given_mid given_now held more count (taken, xs, consumed, has, replied, stay, appended, long) got (sent, passed, broken) = (
  taken ++ more,
  held ++ more,
  xs,
  mid,
  sent,
  Consumes-trans left left_mid left_now taken more consumed got,
  record { requests = requests_more may before mid taken held more 1 xs has replied stay; replied = replied },
  stay,
  long,
  Appends-trans given given_mid given_now (talk_bytes 1 xs) sent appended passed,
  broken,
)

nothing_given : (given given_now : Option (List ℕ)) → Keeps given given_now → Appends given given_now []
nothing_given given given_now kept = Appends-kept given given given_now [] (Appends-nil given) kept

-- the link failed
pub fails : {V : Type 0} (may : Answering V) (before mid after : V) (left left_mid left_now given given_mid given_now : Option (List ℕ)) (held held_now : List ℕ) (count : ℕ)
    → IsOpen may before mid left left_mid given given_mid held count → ServesNext may mid after left_mid left_now held held_now given_mid given_now (count + 1) next.LinkFault
    → IsCutShort may before after left left_now given given_now count
fails may before mid after left left_mid left_now given given_mid given_now held held_now count talk (more, got, inl (same, kept)) =
    cut_at may before mid after left left_mid left_now given given_mid given_now held more count talk got ([], nothing_given given_mid given_now kept, inl (refl, same))
fails may before mid after left left_mid left_now given given_mid given_now held held_now count talk (more, got, inr (request, begun, inl (reply, right, front))) =
    cut_at may before mid after left left_mid left_now given given_mid given_now held more count talk got
    (broken_off may mid after given_mid given_now (held ++ more) held_now (count + 1) request begun (reply, right, front))
fails may before mid after left left_mid left_now given given_mid given_now held held_now count talk (more, got, inr (request, begun, inr (none, unanswered))) = absurd none

-- there was no memory
pub starves : {V : Type 0} (may : Answering V) (before mid after : V) (left left_mid left_now given given_mid given_now : Option (List ℕ)) (held held_now : List ℕ) (count : ℕ)
    → IsOpen may before mid left left_mid given given_mid held count → ServesNext may mid after left_mid left_now held held_now given_mid given_now (count + 1) next.Memory
    → IsCutShort may before after left left_now given given_now count
starves may before mid after left left_mid left_now given given_mid given_now held held_now count talk (more, got, inl none) = absurd none
starves may before mid after left left_mid left_now given given_mid given_now held held_now count talk (more, got, inr (request, begun, inl (reply, right, front))) =
    cut_at may before mid after left left_mid left_now given given_mid given_now held more count talk got
    (broken_off may mid after given_mid given_now (held ++ more) held_now (count + 1) request begun (reply, right, front))
starves may before mid after left left_mid left_now given given_mid given_now held held_now count talk (more, got, inr (request, begun, inr (kept, unanswered))) =
    cut_at may before mid after left left_mid left_now given given_mid given_now held more count talk got
    ([], nothing_given given_mid given_now kept, inr (inl (refl, request, held_now, begun, unanswered)))

-- nothing was taken and nothing given
pub starves_at_once : {V : Type 0} (may : Answering V) (now : V) (left given : Option (List ℕ)) → IsCutShort may now now left left given given 0
starves_at_once may now left given =
    ([], [], [], now, [], Consumes-nil left, record { requests = refl; replied = refl }, tt, refl, Appends-nil given, inl (refl, refl))
