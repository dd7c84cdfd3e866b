-- Heads, and bytes with which none begins, stay whatever follows.
use Rattle.std.proofs.Common.{◌≡◌, ℕ, ◌-◌, ◌≤◌, List, [], ◌++◌, length, take, drop, refl, sym, ap, ◌∙◌, subst, append_assoc, append-nil, length-append, length-drop, inl, inr, ◌⊎◌, arith}
use Rattle.std.specs.Prelude.{slice_range}
use Rattle.std.proofs.lemmas.List.{drop-append-le, take-append-le}
use Rattle.httparse.specs.Grammar.{ReadsRequest, NeverHasRequest}
use Rattle.httparse.specs.Spans.{RequestOverflows, RequestExceeds}
use Rattle.httparse.proofs.GrammarLemmas.{request_unique, ReadsRequest-append}
use Rattle.http_text.specs.declared.heads.HeadAnswer.TheVariants.{Whole, More, Bad}
use Rattle.http_text.specs.Limits.{most_header_lines}
use Rattle.http_text.specs.Heads.{IsHead}
use Rattle.http_text.specs.Laws.{HeadsAreOne, HeadsStay, NoHeadsStay, EmptyLineIsRefused}

-- a part of a text stays the part of what is longer
part_stays : (bytes more : List ℕ) (from to : ℕ) → from ≤ to → to ≤ length bytes → slice_range (bytes ++ more) from to ≡ slice_range bytes from to
part_stays bytes more from to ordered within =
    ap (take (to - from)) (drop-append-le from bytes more (omega (arith, ordered, within)))
    ∙ take-append-le (to - from) (drop from bytes) more (omega (arith, ordered, within, length-drop from bytes))

pub heads_stay : HeadsStay
heads_stay bytes more p h is = record {
  reads = subst (ReadsRequest (bytes ++ more) h) (sym (drop-append-le p.length bytes more is.inside.2)) (ReadsRequest-append bytes h (drop p.length bytes) more is.reads);
  lines = is.lines;
  long = is.long;
  get = is.get;
  head = is.head;
  http10 = is.http10;
  target = part_stays bytes more p.target_start p.target_end is.inside.0 (omega (arith, is.inside.1, is.inside.2)) ∙ is.target;
  inside = (is.inside.0, is.inside.1, omega (arith, is.inside.2, length-append bytes more));
  body = is.body;
  close = is.close;
}

pub heads_are_one : HeadsAreOne
heads_are_one bytes p h (Whole q) is other =
    subst (IsHead bytes q) (sym (request_unique bytes h other.0 (drop p.length bytes) (drop q.length bytes) is.reads other.1.reads).0) other.1
heads_are_one bytes p h More is other = other.0 h (drop p.length bytes) is.reads
heads_are_one bytes p h Bad is other =
    let all : ReadsRequest (bytes ++ []) h (drop p.length bytes) = subst (λ w. ReadsRequest w h (drop p.length bytes)) (sym (append-nil bytes)) is.reads in
    let over = other.0 [] h (drop p.length bytes) all in
    let low = is.lines in
    absurd (omega (arith, over, low))

overflows_stay : (room : ℕ) (bytes more : List ℕ) → RequestOverflows room bytes → RequestOverflows room (bytes ++ more)
overflows_stay room bytes more over next h rest reads =
    over (more ++ next) h rest (subst (λ w. ReadsRequest w h rest) (append_assoc bytes more next) reads)

never_stays : (bytes more : List ℕ) → NeverHasRequest bytes → NeverHasRequest (bytes ++ more)
never_stays bytes more never next h rest reads =
    never (more ++ next) h rest (subst (λ w. ReadsRequest w h rest) (append_assoc bytes more next) reads)

exceeds_stays : (room : ℕ) (bytes more : List ℕ) → RequestExceeds room bytes → RequestExceeds room (bytes ++ more)
exceeds_stays room bytes more exceeds =
    (exceeds.0, exceeds.1 ++ more, ap (λ w. w ++ more) exceeds.2 ∙ append_assoc exceeds.0 exceeds.1 more, exceeds.3, exceeds.4, exceeds.5)

cause_stays : (room : ℕ) (bytes more : List ℕ) → NeverHasRequest bytes ⊎ RequestExceeds room bytes → NeverHasRequest (bytes ++ more) ⊎ RequestExceeds room (bytes ++ more)
cause_stays room bytes more (inl never) = inl (never_stays bytes more never)
cause_stays room bytes more (inr exceeds) = inr (exceeds_stays room bytes more exceeds)

pub no_heads_stay : NoHeadsStay
no_heads_stay bytes more none = (overflows_stay most_header_lines bytes more none.0, cause_stays most_header_lines bytes more none.1)

pub the_empty_line_is_refused : EmptyLineIsRefused
the_empty_line_is_refused scheme levels = refl
