use Rattle.std.proofs.Common.{◌≡◌, ℕ, List, true, false, nat_eq, sym, subst}
use Rattle.std.specs.Prelude.{Option, Some, None, is_some, IfSome, MatchOption}
use Rattle.std.specs.List.{starts_with}
use Rattle.std.specs.Str.Pattern.{FindsTextPrefix, StripsPrefix}
use Rattle.std.specs.Str.{IsCharBoundary, IsUtf8}
use Rattle.std.proofs.lemmas.Str.{IsUtf8-drop}
use Rattle.std.proofs.lemmas.Str.Pattern.{starts_text}
use denote.Ref.{Bor}
use Rattle.uri_template.proofs.filling.behind_name.Goals as goal

starts : (name text : List ℕ) (found : Option (Bor (List ℕ))) → MatchOption found (FindsTextPrefix name text None) (λ x. StripsPrefix (FindsTextPrefix name) text x.now)
    → is_some found ≡ starts_with nat_eq text name
starts name text None lacks = starts_text false name text lacks
starts name text (Some behind) strips =
    let at : IsCharBoundary text strips.0 = (let P : ℕ → Type 0 = λ k. IsCharBoundary text k in subst P (sym strips.1.0) strips.1.2) in
    starts_text true name text (strips.0, strips.1, at)

pub returns-clause-starts : goal.returns-clause-starts
returns-clause-starts c = starts _ _ c.strip_prefix.result c.strip_prefix.ensures.cases

is_text : (name text : List ℕ) (found : Option (Bor (List ℕ))) → IsUtf8 text → MatchOption found (FindsTextPrefix name text None) (λ x. StripsPrefix (FindsTextPrefix name) text x.now)
    → IfSome found (λ behind. IsUtf8 behind.now)
is_text name text None utf8 lacks = tt
is_text name text (Some behind) utf8 strips =
    let at : IsCharBoundary text strips.0 = (let P : ℕ → Type 0 = λ k. IsCharBoundary text k in subst P (sym strips.1.0) strips.1.2) in
    let P : List ℕ → Type 0 = IsUtf8 in subst P (sym strips.2) (IsUtf8-drop text strips.0 utf8 at)

pub returns-clause-text : goal.returns-clause-text
returns-clause-text c = is_text _ _ c.strip_prefix.result c.utf8.text c.strip_prefix.ensures.cases
