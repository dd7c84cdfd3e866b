-- The statuses of replies have a reason each, and three digits.
use Rattle.std.proofs.Common.{◌≡◌, ℕ, Bool, true, false, refl, sym, ap, subst}
use Rattle.std.specs.Prelude.{Some, None, ◌==◌, ◌||◌, is_some}
use Rattle.std.proofs.lemmas.Bool.{eqb-true, false≢true}
use Rattle.http.specs.StatusCode.{reason_phrase}
use Rattle.http_text.specs.Replies.{IsReplyStatus}

-- what holds of each of them holds of one
or_else : (n status : ℕ) (rest : Bool) (P : ℕ → Type 0) (here : Bool) → P n → (rest ≡ true → P status) → (n == status) ≡ here → (here || rest) ≡ true → P status
or_else n status rest P true this later is some = subst P (eqb-true n status is) this
or_else n status rest P false this later is some = later some

one_of_them : (P : ℕ → Type 0) → P 200 → P 400 → P 404 → P 405 → P 431 → P 502 → P 503 → (status : ℕ) → IsReplyStatus status → P status
one_of_them P ok bad not_found not_allowed too_large bad_gateway unavailable status is =
    or_else 200 status _ P (200 == status) ok (or_else 400 status _ P (400 == status) bad (or_else 404 status _ P (404 == status) not_found
    (or_else 405 status _ P (405 == status) not_allowed (or_else 431 status _ P (431 == status) too_large
    (or_else 502 status _ P (502 == status) bad_gateway (or_else 503 status _ P (503 == status) unavailable (λ none. absurd (false≢true none)) refl)
    refl) refl) refl) refl) refl) refl is

-- some text is no lack of it
some : {X : Type 0} (x : X) → Some x ≡ None → ⊥
some x is = false≢true (sym (ap is_some is))

pub has_reason : (status : ℕ) → IsReplyStatus status → reason_phrase status ≡ None → ⊥
has_reason = one_of_them (λ n. reason_phrase n ≡ None → ⊥) (some _) (some _) (some _) (some _) (some _) (some _) (some _)
