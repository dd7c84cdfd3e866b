-- The lines of an input that is cut at its first LF.
use Rattle.std.proofs.Common.{◌≡◌, ℕ, ◌<◌, ◌≤◌, List, [], ◌∷◌, ◌++◌, length, map, refl, sym, ap, ◌∙◌, arith, length-append}
use Rattle.std.specs.Prelude.{◌==◌}
use Rattle.std.specs.List.{slice_split, join_with_byte}
use Rattle.std.specs.Str.Lines.{strip_carriage_return}
use Rattle.std.proofs.lemmas.List.Splits.{join_with_byte-slice_split}
use Rattle.request_text.specs.Input.{input_lines, without_empty_end}
use Rattle.request_text.proofs.Reading.{some_pieces}

-- a piece before others stays
kept : (piece : List ℕ) (pieces : List (List ℕ)) → 1 ≤ length pieces → without_empty_end (piece ∷ pieces) ≡ piece ∷ without_empty_end pieces
kept piece [] some = absurd (omega (arith, some))
kept piece (next ∷ more) some = refl

pub first_of_more : (input piece rest : List ℕ) → slice_split (λ c. c == 10) input ≡ piece ∷ slice_split (λ c. c == 10) rest
    → input_lines input ≡ strip_carriage_return piece ∷ input_lines rest
first_of_more input piece rest cut =
    ap (λ pieces. map strip_carriage_return (without_empty_end pieces)) cut
    ∙ ap (map strip_carriage_return) (kept piece (slice_split (λ c. c == 10) rest) (some_pieces 10 rest))

-- pieces are joined by LF
joined : (piece : List ℕ) (pieces : List (List ℕ)) → 1 ≤ length pieces → join_with_byte 10 (piece ∷ pieces) ≡ piece ++ (10 ∷ join_with_byte 10 pieces)
joined piece [] some = absurd (omega (arith, some))
joined piece (next ∷ more) some = refl

pub rest_is_shorter : (input piece rest : List ℕ) → slice_split (λ c. c == 10) input ≡ piece ∷ slice_split (λ c. c == 10) rest → length rest < length input
rest_is_shorter input piece rest cut =
    let whole : input ≡ piece ++ (10 ∷ rest) =
    sym (join_with_byte-slice_split 10 input) ∙ ap (join_with_byte 10) cut
    ∙ joined piece (slice_split (λ c. c == 10) rest) (some_pieces 10 rest)
    ∙ ap (λ w. piece ++ (10 ∷ w)) (join_with_byte-slice_split 10 rest) in
    let long : length input ≡ length (piece ++ (10 ∷ rest)) = ap (λ w. length w) whole in
    omega (arith, long, length-append piece (10 ∷ rest))
