-- Values that are found part by part.
use Rattle.std.proofs.Common.{◌≡◌, ℕ, ◌<◌, ◌≤◌, List, [], ◌∷◌, ◌++◌, length, refl, sym, ap, ◌∙◌, append_assoc, arith}
use Rattle.std.specs.Prelude.{Option, Some, None, ◌==◌, option_to_list, option_map}
use Rattle.std.specs.List.{position_or_len, before_first, after_first, filter_map, cons_option}
use denote.Ref.{Bor}
use Rattle.http_text.specs.Inner.{found_in}
use Rattle.http_text.specs.Targets.{behind, values, only}
use Rattle.http_text.proofs.Cutting.{parts_more, last_part}

first_of : {X : Type 0} (o : Option X) (xs : List X) → cons_option o xs ≡ option_to_list o ++ xs
first_of None xs = refl
first_of (Some x) xs = refl

-- the values of a query by those of its first part and of what stands behind it
values_more : (name query part rest : List ℕ) (value : Option (Bor (List ℕ))) → position_or_len (λ c. c == 38) query < length query
    → part ≡ before_first (λ c. c == 38) query → rest ≡ after_first (λ c. c == 38) query
    → option_map (λ (v : Bor (List ℕ)). v.now) value ≡ behind name part → values name query ≡ found_in value ++ values name rest
values_more name query part rest value found before after is =
    ap (filter_map (behind name)) (parts_more query part rest found before after)
    ∙ first_of (behind name part) (values name rest) ∙ ap (λ o. option_to_list o ++ values name rest) (sym is)

values_last : (name query : List ℕ) (value : Option (Bor (List ℕ))) → length query ≤ position_or_len (λ c. c == 38) query
    → option_map (λ (v : Bor (List ℕ)). v.now) value ≡ behind name query → values name query ≡ found_in value ++ []
values_last name query value none is =
    ap (filter_map (behind name)) (last_part query none) ∙ first_of (behind name query) [] ∙ ap (λ o. option_to_list o ++ []) (sym is)

-- what was found before with what was found now
joined : (all before now both more rest : List (List ℕ)) → all ≡ before ++ more → more ≡ now ++ rest → both ≡ before ++ now → all ≡ both ++ rest
joined all before now both more rest first second is =
    first ∙ ap (λ w. before ++ w) second ∙ sym (append_assoc before now rest) ∙ ap (λ w. w ++ rest) (sym is)

pub found_more : (name query whole part rest : List ℕ) (before now both : Option (Bor (List ℕ))) → position_or_len (λ c. c == 38) query < length query
    → part ≡ before_first (λ c. c == 38) query → rest ≡ after_first (λ c. c == 38) query
    → option_map (λ (v : Bor (List ℕ)). v.now) now ≡ behind name part → found_in both ≡ found_in before ++ found_in now
    → values name whole ≡ found_in before ++ values name query → values name whole ≡ found_in both ++ values name rest
found_more name query whole part rest before now both cut first last is two so_far =
    joined (values name whole) (found_in before) (found_in now) (found_in both) (values name query) (values name rest) so_far
    (values_more name query part rest now cut first last is) two

two_are_none : (found rest : List (List ℕ)) → length found ≡ 2 → only (found ++ rest) ≡ None
two_are_none [] rest two = absurd (omega (arith, two))
two_are_none (x ∷ []) rest two = absurd (omega (arith, two))
two_are_none (x ∷ y ∷ found) rest two = refl

pub found_twice : (name query whole part rest : List ℕ) (before now : Option (Bor (List ℕ))) → position_or_len (λ c. c == 38) query < length query
    → part ≡ before_first (λ c. c == 38) query → rest ≡ after_first (λ c. c == 38) query
    → option_map (λ (v : Bor (List ℕ)). v.now) now ≡ behind name part → length (found_in before ++ found_in now) ≡ 2
    → values name whole ≡ found_in before ++ values name query → only (values name whole) ≡ None
found_twice name query whole part rest before now cut first last is two so_far =
    ap only (joined (values name whole) (found_in before) (found_in now) (found_in before ++ found_in now) (values name query) (values name rest) so_far
    (values_more name query part rest now cut first last is) refl)
    ∙ two_are_none (found_in before ++ found_in now) (values name rest) two

only_found : (o : Option (Bor (List ℕ))) → only (found_in o ++ []) ≡ option_map (λ (v : Bor (List ℕ)). v.now) o
only_found None = refl
only_found (Some v) = refl

pub found_last : (name query whole : List ℕ) (before now both : Option (Bor (List ℕ))) → length query ≤ position_or_len (λ c. c == 38) query
    → option_map (λ (v : Bor (List ℕ)). v.now) now ≡ behind name query → found_in both ≡ found_in before ++ found_in now
    → values name whole ≡ found_in before ++ values name query → option_map (λ (v : Bor (List ℕ)). v.now) both ≡ only (values name whole)
found_last name query whole before now both none is two so_far =
    sym (
    ap only (joined (values name whole) (found_in before) (found_in now) (found_in both) (values name query) [] so_far (values_last name query now none is) two)
    ∙ only_found both
    )

pub last_twice : (name query whole : List ℕ) (before now : Option (Bor (List ℕ))) → length query ≤ position_or_len (λ c. c == 38) query
    → option_map (λ (v : Bor (List ℕ)). v.now) now ≡ behind name query → length (found_in before ++ found_in now) ≡ 2
    → values name whole ≡ found_in before ++ values name query → only (values name whole) ≡ None
last_twice name query whole before now none is two so_far =
    ap only (joined (values name whole) (found_in before) (found_in now) (found_in before ++ found_in now) (values name query) [] so_far (values_last name query now none is) refl)
    ∙ two_are_none (found_in before ++ found_in now) [] two
