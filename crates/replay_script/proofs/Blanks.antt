-- Words that single blanks part.
use Rattle.std.proofs.Common.{◌≡◌, ℕ, ◌≤◌, Bool, true, false, List, [], ◌∷◌, length, refl, sym, ap, ◌∙◌, arith}
use Rattle.std.specs.Prelude.{Option, Some, None, is_some, codes, ◌==◌, if◌then◌else◌}
use Rattle.std.specs.List.{join_with_byte}
use Rattle.std.specs.Str.{bytes_eq}
use Rattle.std.proofs.lemmas.List.Splits.{slice_split_none, join_with_byte-slice_split}
use Rattle.implicit_tiling.specs.declared.Scheme.{Scheme}
use Rattle.implicit_tiling.specs.Request.{number, line_of, plan_of_line}
use Rattle.request_text.proofs.Reading.{some_pieces}
use Rattle.request_text.proofs.Joining.{of_number}
use Rattle.replay_script.specs.Script.{words_in, one_number, attached, attach_event, paged, page_event, event_of_pass, passed, pass_event, event_of_words}
use Rattle.replay_script.specs.declared.event.Event.TheVariants.{Bad}

-- where a text is a number, it is one word
number_alone : (text : List ℕ) → is_some (number text) ≡ true → words_in text ≡ text ∷ []
number_alone text is = slice_split_none (λ c. c == 32) text (of_number text is)

not_one : (found : Option ℕ) (text word next : List ℕ) (more : List (List ℕ)) → number text ≡ found → words_in text ≡ word ∷ next ∷ more → None ≡ found
not_one None text word next more same is = refl
not_one (Some n) text word next more same is =
    let short : length (words_in text) ≡ length (text ∷ []) = ap (λ w. length w) (number_alone text (ap is_some same)) in
    let long : length (words_in text) ≡ length (word ∷ next ∷ more) = ap (λ w. length w) is in
    absurd (omega (arith, short, long))

of_words : (text : List ℕ) (words : List (List ℕ)) → words_in text ≡ words → 1 ≤ length words → one_number words ≡ number text
of_words text [] is some = absurd (omega (arith, some))
of_words text (word ∷ []) is some = ap number (ap (join_with_byte 32) (sym is) ∙ join_with_byte-slice_split 32 text)
of_words text (word ∷ next ∷ more) is some = not_one (number text) text word next more refl is

-- a text is the number that its one word writes
pub one_number_is : (text : List ℕ) → one_number (words_in text) ≡ number text
one_number_is text = of_words text (words_in text) refl (some_pieces 32 text)

-- ---- the events of a text that is cut at its first blank

same : {X : Type 0} (first second : Bool) (x : X) → (if first then x else (if second then x else x)) ≡ x
same true second x = refl
same false true x = refl
same false false x = refl

-- a name alone is no event
pub name_alone : (scheme : Scheme) (levels : ℕ) (name : List ℕ) → event_of_words scheme levels (name ∷ []) ≡ Bad
name_alone scheme levels name = same (bytes_eq name (codes "attach")) (bytes_eq name (codes "page")) Bad

attach_more : (scheme : Scheme) (levels : ℕ) (pass : List ℕ) (words : List (List ℕ)) → 1 ≤ length words
    → attach_event scheme levels (pass ∷ words) ≡ attached (number pass) (plan_of_line scheme levels (line_of (join_with_byte 32 words)))
attach_more scheme levels pass [] some = absurd (omega (arith, some))
attach_more scheme levels pass (word ∷ words) some = refl

pub attach_is : (scheme : Scheme) (levels : ℕ) (text pass request : List ℕ) → words_in text ≡ pass ∷ words_in request
    → attach_event scheme levels (words_in text) ≡ attached (number pass) (plan_of_line scheme levels (line_of request))
attach_is scheme levels text pass request cut =
    ap (attach_event scheme levels) cut
    ∙ attach_more scheme levels pass (words_in request) (some_pieces 32 request)
    ∙ ap (λ t. attached (number pass) (plan_of_line scheme levels (line_of t))) (join_with_byte-slice_split 32 request)

no_count : (pass : Option ℕ) → paged pass None ≡ Bad
no_count None = refl
no_count (Some p) = refl

pub page_alone : (text : List ℕ) → words_in text ≡ text ∷ [] → page_event (words_in text) ≡ Bad
page_alone text cut = ap page_event cut ∙ no_count (number text)

page_is : (text pass count : List ℕ) → words_in text ≡ pass ∷ words_in count → page_event (words_in text) ≡ paged (number pass) (number count)
page_is text pass count cut = ap page_event cut ∙ ap (paged (number pass)) (one_number_is count)

pub page_without_pass : (text pass count : List ℕ) → words_in text ≡ pass ∷ words_in count → None ≡ number pass → Bad ≡ page_event (words_in text)
page_without_pass text pass count cut none = sym (page_is text pass count cut ∙ ap (λ p. paged p (number count)) (sym none))

pub page_without_count : (text pass count : List ℕ) → words_in text ≡ pass ∷ words_in count → None ≡ number count → Bad ≡ page_event (words_in text)
page_without_count text pass count cut none = sym (page_is text pass count cut ∙ ap (paged (number pass)) (sym none) ∙ no_count (number pass))

pub page_read : (text pass count : List ℕ) (p n : ℕ) → words_in text ≡ pass ∷ words_in count → Some p ≡ number pass → Some n ≡ number count
    → paged (Some p) (Some n) ≡ page_event (words_in text)
page_read text pass count p n cut one other =
    sym (page_is text pass count cut ∙ ap (λ m. paged m (number count)) (sym one) ∙ ap (paged (Some p)) (sym other))

-- ---- the events of a name and one number

pub without_pass : (name text : List ℕ) → None ≡ number text → Bad ≡ pass_event name (words_in text)
without_pass name text none = sym (ap (passed name) (one_number_is text ∙ sym none))

pub with_pass : (name text : List ℕ) (p : ℕ) → Some p ≡ number text → event_of_pass name p ≡ pass_event name (words_in text)
with_pass name text p is = sym (ap (passed name) (one_number_is text ∙ sym is))
