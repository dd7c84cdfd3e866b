-- Viewers that are asked for request lines, one after another (this project's own).
use Rattle.std.specs.Prelude.{ℕ, ◌≡◌, List, [], ◌∷◌}
use Rattle.http_text.specs.declared.routes.Route.{Route}
use Rattle.http_front.specs.Table.{Answered}
use Rattle.http_front.specs.Talk.{Answering}

-- the viewers before were asked for these lines on these routes, one after another, which made the viewers after
abbrev pub AreAsked : {V : Type 0} → Answering V → V → V → List (Route × List ℕ) → Type 0
AreAsked may before after [] = after ≡ before
AreAsked {V} may before after (asked ∷ others) =
    (mid : V) × (answer : Answered) × may before mid asked.0 asked.1 answer × AreAsked may mid after others

-- they were asked for some lines, and nothing else was done with them
pub record WereAsked {V : Type 0} (may : Answering V) (before after : V) : Type 0 where
  pub lines : List (Route × List ℕ)
  pub asked : AreAsked may before after lines
