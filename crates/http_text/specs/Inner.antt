-- For proofs and inner functions: a text that is cut once, values found one after another, and the pieces of a head.
use Rattle.std.specs.Prelude.{ℕ, ◌≡◌, ◌<◌, ◌≤◌, ◌==◌, Bool, List, [], ◌∷◌, ◌++◌, length, codes}
use Rattle.std.specs.Prelude.{Option, Some, None, option_to_list, option_map}
use Rattle.std.specs.List.{position_or_len, before_first, after_first, flat_map, join_with_byte}
use denote.Ref.{Bor}
use Rattle.percent_encoding.specs.Percent.{percent_decode}
use Rattle.http_text.specs.declared.query.Values.{Values}
use Rattle.http_text.specs.Replies.{head_line, allow_lines, connection_line}

-- the text before and behind its first mark; none where it has no mark
abbrev pub IsCut : ℕ → List ℕ → Option (Bor (List ℕ) × Bor (List ℕ)) → Type 0
IsCut mark text None = length text ≤ position_or_len (λ c. c == mark) text
IsCut mark text (Some r) = (position_or_len (λ c. c == mark) text < length text)
    × (r.0.now ≡ before_first (λ c. c == mark) text) × (r.1.now ≡ after_first (λ c. c == mark) text)

-- the values that were found
abbrev pub found_in : Option (Bor (List ℕ)) → List (List ℕ)
found_in found = option_to_list (option_map (λ (v : Bor (List ℕ)). v.now) found)

-- one of the two or none was found; none is told where both were
abbrev pub IsOneOf : Option (Bor (List ℕ)) → Option (Bor (List ℕ)) → Option (Option (Bor (List ℕ))) → Type 0
IsOneOf first second (Some one) = found_in one ≡ found_in first ++ found_in second
IsOneOf first second None = length (found_in first ++ found_in second) ≡ 2

-- the line of the three values
abbrev pub line_of_values : Values → List ℕ
line_of_values v =
    join_with_byte 32 (percent_decode v.level.now ∷ percent_decode v.lo.now ∷ percent_decode v.hi.now ∷ [])

-- what `http` writes for a status without a reason
abbrev pub unknown : List ℕ
unknown = codes "<unknown status code>"

-- the end of the first line of a reply with the lines that say what is allowed, and the end of the line of the length
-- with the rest
abbrev pub allow_part : ℕ → List ℕ
allow_part status = head_line [] ++ flat_map head_line (allow_lines status)

abbrev pub connection_part : Bool → List ℕ
connection_part close = head_line [] ++ head_line (connection_line close) ++ head_line []
