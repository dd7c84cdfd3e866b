-- The lines of a round, cut off one by one.
use Rattle.std.proofs.Common.{◌≡◌, ℕ, List, [], ◌∷◌, ◌++◌, map, sym, ap, ◌∙◌, append_assoc}
use Rattle.std.proofs.lemmas.List.{map-append}
use denote.Ref.{Bor}

pub one_more : (all more rest : List (List ℕ)) (lines longer : List (Bor (List ℕ))) (line : Bor (List ℕ)) → all ≡ map (λ l. l.now) lines ++ rest → rest ≡ line.now ∷ more
    → longer ≡ lines ++ line ∷ [] → all ≡ map (λ l. l.now) longer ++ more
one_more all more rest lines longer line cut next pushed =
    let now : Bor (List ℕ) → List ℕ = λ l. l.now in
    cut ∙ ap (λ r. map now lines ++ r) next ∙ sym (append_assoc (map now lines) (line.now ∷ []) more)
    ∙ ap (λ ls. ls ++ more) (sym (map-append now lines (line ∷ [])) ∙ ap (map now) (sym pushed))
