-- What a connection does with the viewers.
use Rattle.std.proofs.Common.{◌≡◌, ℕ, ◌+◌, List, [], ◌∷◌, refl, sym, subst, inl, inr}
use Rattle.std.specs.Prelude.{◌≢◌, Option}
use Rattle.http_text.specs.declared.routes.Route.{Route}
use Rattle.http_front.specs.Table.{Answered, no_memory, Reply, Exchange, Decision, replies, asks, decision}
use Rattle.http_front.specs.Talk.{Answering, IsReplied, AreReplied, IsUnanswered, IsBroken, IsClosed, IsCutShort}
use Rattle.http_connection.specs.declared.served.ServedEnd.{ServedEnd}
use Rattle.http_connection.specs.declared.served.ServedEnd.TheVariants.{Closed, LinkFault, Memory}
use Rattle.http_listener.specs.Asking.{AreAsked, WereAsked}

pub not_asked : {V : Type 0} (may : Answering V) (same : V) → WereAsked may same same
not_asked may same = record { lines = []; asked = refl }

-- one line first
once_more : {V : Type 0} (may : Answering V) (before mid after : V) (route : Route) (line : List ℕ) (answer : Answered) → may before mid route line answer → WereAsked may mid after → WereAsked may before after
once_more may before mid after route line answer right later = record { lines = (route, line) ∷ later.lines; asked = (mid, answer, right, later.asked) }

joined_by : {V : Type 0} (may : Answering V) (before mid after : V) (lines : List (Route × List ℕ)) → AreAsked may before mid lines → WereAsked may mid after → WereAsked may before after
joined_by may before mid after [] same later = subst (λ v. WereAsked may v after) same later
joined_by may before mid after (one ∷ lines) (next, answer, right, others) later =
    once_more may before next after one.0 one.1 answer right (joined_by may next mid after lines others later)

pub joined : {V : Type 0} (may : Answering V) (before mid after : V) → WereAsked may before mid → WereAsked may mid after → WereAsked may before after
joined may before mid after first later = joined_by may before mid after first.lines first.asked later

by_decision : {V : Type 0} (may : Answering V) (before mid after : V) (d : Decision) (reply : Reply) → IsReplied may before mid d reply → WereAsked may mid after → WereAsked may before after
by_decision may before mid after (replies r) reply (same, is) later = subst (λ v. WereAsked may v after) same later
by_decision may before mid after (asks route line) reply (answer, right, some, is) later = once_more may before mid after route line answer right later

by_replies : {V : Type 0} (may : Answering V) (before mid after : V) (xs : List Exchange) → AreReplied may before mid xs → WereAsked may mid after → WereAsked may before after
by_replies may before mid after [] same later = subst (λ v. WereAsked may v after) same later
by_replies may before mid after (x ∷ xs) (next, first, others) later = by_decision may before next after (decision x.request) x.reply first (by_replies may next mid after xs others later)

by_unanswered : {V : Type 0} (may : Answering V) (before after : V) (d : Decision) → IsUnanswered may before after d → WereAsked may before after
by_unanswered may before after (replies r) same = subst (λ v. WereAsked may before v) (sym same) (not_asked may before)
by_unanswered may before after (asks route line) (inl same) = subst (λ v. WereAsked may before v) (sym same) (not_asked may before)
by_unanswered may before after (asks route line) (inr right) = once_more may before after after route line no_memory right (not_asked may after)

by_break : {V : Type 0} (may : Answering V) (before after : V) (rest : List ℕ) (n : ℕ) (sent : List ℕ) → IsBroken may before after rest n sent → WereAsked may before after
by_break may before after rest n sent (inl (none, same)) = subst (λ v. WereAsked may before v) (sym same) (not_asked may before)
by_break may before after rest n sent (inr (inl (none, request, behind, begun, unanswered))) = by_unanswered may before after (decision request) unanswered
by_break may before after rest n sent (inr (inr (e, behind, unsent, begun, replied, whole))) = by_decision may before after after (decision e.request) e.reply replied (not_asked may after)

closed : {V : Type 0} (may : Answering V) (before after : V) (left left_now given given_now : Option (List ℕ)) (count : ℕ) → IsClosed may before after left left_now given given_now count → WereAsked may before after
closed may before after left left_now given given_now count (taken, rest, xs, got, talk, end, appended, many) = by_replies may before after after xs talk.replied (not_asked may after)

cut : {V : Type 0} (may : Answering V) (before after : V) (left left_now given given_now : Option (List ℕ)) (count : ℕ) → IsCutShort may before after left left_now given given_now count → WereAsked may before after
cut may before after left left_now given given_now count (taken, rest, xs, mid, sent, got, talk, stay, many, appended, broken) =
    by_replies may before mid after xs talk.replied (by_break may mid after rest (count + 1) sent broken)

-- however it ended
pub by_connection : {V : Type 0} (may : Answering V) (before after : V) (left left_now given given_now : Option (List ℕ)) (count : ℕ) (end : ServedEnd)
    → (end ≡ Closed → IsClosed may before after left left_now given given_now count) → (end ≢ Closed → IsCutShort may before after left left_now given given_now count) → WereAsked may before after
by_connection may before after left left_now given given_now count Closed whole short = closed may before after left left_now given given_now count (whole refl)
by_connection may before after left left_now given given_now count LinkFault whole short = cut may before after left left_now given given_now count (short (λ e. let clash : LinkFault ≡ Closed = e in cc))
by_connection may before after left left_now given given_now count Memory whole short = cut may before after left left_now given given_now count (short (λ e. let clash : Memory ≡ Closed = e in cc))
