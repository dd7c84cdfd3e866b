-- A text that is cut at its first mark.
use Rattle.std.proofs.Common.{◌≡◌, ℕ, ◌+◌, ◌-◌, ◌<◌, ◌≤◌, Bool, true, false, List, [], ◌∷◌, length, take, drop, refl, sym, ap, ◌∙◌, arith, cond}
use Rattle.std.specs.Prelude.{Some, None, nat_lt, ◌==◌, ◌&&◌, position}
use Rattle.std.specs.List.{position_or_len, before_first, after_first, list_all}
use Rattle.std.proofs.lemmas.List.{take_rest, length-drop}
use Rattle.std.proofs.lemmas.List.Sums.{fails_before_first}
use Rattle.std.proofs.lemmas.List.Splits.{slice_split_none, slice_split_first}
use Rattle.std.proofs.lemmas.Bool.{ltb-true, ltb-false}
use Rattle.http_text.specs.Targets.{parts_of, is_parameter}

-- a place that was found, and none
place : (at end : ℕ) (found : Bool) (i : ℕ) → nat_lt at end ≡ found → cond found (Some at) None ≡ Some i → (at < end) × (at ≡ i)
place at end true i is some = (ltb-true _ _ is, cc)
place at end false i is none = cc

no_place : (at end : ℕ) (found : Bool) → nat_lt at end ≡ found → cond found (Some at) None ≡ None → end ≤ at
no_place at end true is some = cc
no_place at end false is none = ltb-false _ _ is

pub cut_at : (mark : ℕ) (text : List ℕ) (at : ℕ) → position (λ c. c == mark) text ≡ Some at → (position_or_len (λ c. c == mark) text < length text)
    × (take at text ≡ before_first (λ c. c == mark) text) × (take (length text - (at + 1)) (drop (at + 1) text) ≡ after_first (λ c. c == mark) text)
cut_at mark text at is =
    let p : ℕ → Bool = λ c. c == mark in
    let found = place (position_or_len p text) (length text) (nat_lt (position_or_len p text) (length text)) at refl is in
    (found.0, ap (λ k. take k text) (sym found.1), take_rest text (at + 1) ∙ ap (λ k. drop (k + 1) text) (sym found.1))

pub uncut : (mark : ℕ) (text : List ℕ) → position (λ c. c == mark) text ≡ None → length text ≤ position_or_len (λ c. c == mark) text
uncut mark text is =
    let p : ℕ → Bool = λ c. c == mark in
    no_place (position_or_len p text) (length text) (nat_lt (position_or_len p text) (length text)) refl is

-- the parts of a query that was cut, and of one that has no mark
pub parts_more : (query part behind : List ℕ) → position_or_len (λ c. c == 38) query < length query → part ≡ before_first (λ c. c == 38) query → behind ≡ after_first (λ c. c == 38) query
    → parts_of query ≡ part ∷ parts_of behind
parts_more query part behind found before after = slice_split_first (λ c. c == 38) query 0 found ∙ rw (before, after) refl

pub last_part : (query : List ℕ) → length query ≤ position_or_len (λ c. c == 38) query → parts_of query ≡ query ∷ []
last_part query none = slice_split_none (λ c. c == 38) query (λ k d below. fails_before_first (λ c. c == 38) query k d (omega (arith, none)))

pub shorter : (mark : ℕ) (text behind : List ℕ) → position_or_len (λ c. c == mark) text < length text → behind ≡ after_first (λ c. c == mark) text → length behind < length text
shorter mark text behind found after =
    omega (arith, found, ap (λ w. length w) after, length-drop (position_or_len (λ c. c == mark) text + 1) text)

-- whether all parts are parameters, by the first part and those behind it
all_with : (part : List ℕ) (parts : List (List ℕ)) (b : Bool) → is_parameter part ≡ b → list_all is_parameter (part ∷ parts) ≡ (b && list_all is_parameter parts)
all_with part parts b is = ap (λ passed. passed && list_all is_parameter parts) is

pub all_more : (query part behind : List ℕ) (b : Bool) → position_or_len (λ c. c == 38) query < length query → part ≡ before_first (λ c. c == 38) query → behind ≡ after_first (λ c. c == 38) query
    → is_parameter part ≡ b → list_all is_parameter (parts_of query) ≡ (b && list_all is_parameter (parts_of behind))
all_more query part behind b found before after is =
    ap (list_all is_parameter) (parts_more query part behind found before after) ∙ all_with part (parts_of behind) b is

pub all_last : (query : List ℕ) → length query ≤ position_or_len (λ c. c == 38) query → list_all is_parameter (parts_of query) ≡ (is_parameter query && true)
all_last query none = ap (list_all is_parameter) (last_part query none)
