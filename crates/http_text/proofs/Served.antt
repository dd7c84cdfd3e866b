-- The line of a query of the right form isn't empty.
use Rattle.std.proofs.Common.{◌≡◌, ℕ, List, [], ◌∷◌, length, length-append, refl, sym, ap, ◌∙◌, arith}
use Rattle.std.specs.List.{join_with_byte}
use Rattle.http_text.specs.declared.routes.Route.{Route}
use Rattle.http_text.specs.declared.routes.Route.TheVariants.{Tiles, Prefix, NotFound}
use Rattle.http_text.specs.declared.query.Values.{Values}
use Rattle.http_text.specs.Inner.{line_of_values}
use Rattle.http_text.specs.Targets.{line_of_query, line_on}

has_a_space : (level lo hi : List ℕ) → join_with_byte 32 (level ∷ lo ∷ hi ∷ []) ≡ [] → ⊥
has_a_space level lo hi none =
    let rest : List ℕ = join_with_byte 32 (lo ∷ hi ∷ []) in
    absurd (omega (arith, ap (λ w. length w) none, length-append level (32 ∷ rest)))

pub line_there : (route : Route) (query : List ℕ) (v : Values) → (route ≡ NotFound → ⊥) → line_of_query query ≡ line_of_values v → line_on route query ≡ [] → ⊥
line_there Tiles query v served is none = has_a_space _ _ _ (sym is ∙ none)
line_there Prefix query v served is none = has_a_space _ _ _ (sym is ∙ none)
line_there NotFound query v served is none = absurd (served refl)
