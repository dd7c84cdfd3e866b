-- Reading lines: pieces between separators, and numbers.
use Rattle.std.proofs.Common.{◌≡◌, ℕ, ◌+◌, ◌-◌, ◌<◌, ◌≤◌, ◌^◌, Bool, true, false, List, [], ◌∷◌, length, take, drop, refl, sym, ap, ◌∙◌, arith, cond, rules}
use Rattle.std.specs.Prelude.{Option, Some, None, is_some, Result, Ok, Err, nat_lt, nat_le, ◌==◌, IsUtf8, position}
use Rattle.std.specs.List.{slice_split, position_or_len, list_all}
use Rattle.std.specs.Char.{is_ascii_digit}
use Rattle.std.specs.Result.{OkIff, result_ok}
use Rattle.std.specs.Str.{IsAscii}
use Rattle.std.proofs.lemmas.Str.Ascii.{IsAscii-nil, IsAscii-cons}
use Rattle.std.proofs.lemmas.Str.{IsUtf8-from_ascii}
use Rattle.std.proofs.lemmas.List.{take_rest}
use Rattle.std.specs.Str.Parse.{ParsesUnsigned, digits_value}
use Rattle.std.proofs.lemmas.List.Sums.{fails_before_first}
use Rattle.std.proofs.lemmas.List.Splits.{slice_split_none, slice_split_first, length-slice_split}
use Rattle.std.proofs.lemmas.Str.Parse.{IsNumeralModel, IsDigitsTest, numerals_by_value, parse_digits}
use Rattle.std.proofs.lemmas.Bool.{and_parts, ltb-true, ltb-false, lt-ltb, le-ltb, leb-true, ne_eqb, false≢true}
use denote.Ref.{Bor}
use Rattle.implicit_tiling.specs.Request.{has_digits, number, numbers_of_pieces, coordinates_in, line_of_words, line_of}
use Rattle.request_text.specs.Lines.{IsSplitOnce}

-- digits are those of `parse`
digits_test : IsDigitsTest (λ ds. list_all is_ascii_digit ds ≡ true)
digits_test = search rules

own : IsNumeralModel (λ ds. list_all is_ascii_digit ds ≡ true) (digits_value 10)
own = numerals_by_value _ digits_test

-- what `parse` answers for a text of digits
parsed : {E : Type 0} (text : List ℕ) (r : Result ℕ E) → has_digits text ≡ true → OkIff r ((0 < length text) × (digits_value 10 text < 2 ^ 32)) (digits_value 10 text)
    → result_ok r ≡ number text
parsed text (Ok n) digits is = rw (digits, lt-ltb _ _ is.0.1) (ap Some is.1)
parsed text (Err e) digits is =
    let some : 0 < length text = ltb-true _ _ (and_parts _ _ (and_parts _ _ digits).0).0 in
    let not_below : digits_value 10 text < 2 ^ 32 → ⊥ = λ below. is (some, below) in
    let large : 2 ^ 32 ≤ digits_value 10 text = omega (arith, not_below) in
    rw (digits, le-ltb _ _ large) refl

pub number_parsed : {E : Type 0} (text : List ℕ) (r : Result ℕ E) → has_digits text ≡ true → ParsesUnsigned 32 10 text r → result_ok r ≡ number text
number_parsed text r digits h =
    let all = (and_parts _ _ digits).1 in
    parsed text r digits (parse_digits own 32 text r h all)

in_ascii : (c : ℕ) → is_ascii_digit c ≡ true → c < 128
in_ascii c digit = omega (arith, leb-true c 57 (and_parts (nat_le 48 c) (nat_le c 57) digit).1)

ascii : (text : List ℕ) → list_all is_ascii_digit text ≡ true → IsAscii text
ascii [] all = IsAscii-nil
ascii (c ∷ text) all = IsAscii-cons c text (in_ascii c (and_parts _ _ all).0) (ascii text (and_parts _ _ all).1)

pub digits_are_text : (text : List ℕ) → has_digits text ≡ true → IsUtf8 text
digits_are_text text digits = IsUtf8-from_ascii text (ascii text (and_parts _ _ digits).1)

-- a place that was found, and none
place : (at end : ℕ) (found : Bool) (i : ℕ) → nat_lt at end ≡ found → cond found (Some at) None ≡ Some i → (at < end) × (at ≡ i)
place at end true i is some = (ltb-true _ _ is, cc)
place at end false i is none = cc

no_place : (at end : ℕ) (found : Bool) → nat_lt at end ≡ found → cond found (Some at) None ≡ None → end ≤ at
no_place at end true is some = cc
no_place at end false is none = ltb-false _ _ is

pub cut_some : (p : ℕ → Bool) (text : List ℕ) (i : ℕ) → position p text ≡ Some i → slice_split p text ≡ take i text ∷ slice_split p (take (length text - (i + 1)) (drop (i + 1) text))
cut_some p text i is =
    let found = place (position_or_len p text) (length text) (nat_lt (position_or_len p text) (length text)) i refl is in
    slice_split_first p text 0 found.0 ∙ rw (found.1, take_rest) refl

pub cut_none : (p : ℕ → Bool) (text : List ℕ) → position p text ≡ None → slice_split p text ≡ text ∷ []
cut_none p text is =
    let none : length text ≤ position_or_len p text = no_place (position_or_len p text) (length text) (nat_lt (position_or_len p text) (length text)) refl is in
    slice_split_none p text (λ k d below. fails_before_first p text k d (omega (arith, none)))

pub some_pieces : (separator : ℕ) (text : List ℕ) → 1 ≤ length (slice_split (λ c. c == separator) text)
some_pieces separator text = omega (arith, length-slice_split (λ c. c == separator) text)

four : (x y z : List ℕ) (more : List (List ℕ)) → 1 ≤ length more → numbers_of_pieces (x ∷ y ∷ z ∷ more) ≡ None
four x y z more some =
    let two : (length (x ∷ y ∷ z ∷ more) == 2) ≡ false = ne_eqb _ _ (λ e. omega (arith, e)) in
    let three : (length (x ∷ y ∷ z ∷ more) == 3) ≡ false = ne_eqb _ _ (λ e. omega (arith, e)) in
    rw (two, three) refl

-- a text of three pieces or more, of which the third was cut
pieces : (separator : ℕ) (text rest z x y : List ℕ) (r : Option (Bor (List ℕ) × Bor (List ℕ))) → slice_split (λ c. c == separator) text ≡ x ∷ slice_split (λ c. c == separator) rest
    → slice_split (λ c. c == separator) rest ≡ y ∷ slice_split (λ c. c == separator) z → IsSplitOnce separator z r → is_some r ≡ true
    → (w : List ℕ) × (more : List (List ℕ)) × (slice_split (λ c. c == separator) text ≡ x ∷ y ∷ w ∷ more) × (1 ≤ length more)
pieces separator text rest z x y None one two cut some = absurd (false≢true some)
pieces separator text rest z x y (Some r) one two cut some =
    (r.0.now, slice_split (λ c. c == separator) r.1.now, one ∙ ap (λ w. x ∷ w) (two ∙ ap (λ w. y ∷ w) cut), some_pieces separator r.1.now)

pub too_many : (text rest z x y : List ℕ) (r : Option (Bor (List ℕ) × Bor (List ℕ))) → slice_split (λ c. c == 44) text ≡ x ∷ slice_split (λ c. c == 44) rest
    → slice_split (λ c. c == 44) rest ≡ y ∷ slice_split (λ c. c == 44) z → IsSplitOnce 44 z r → is_some r ≡ true → None ≡ coordinates_in text
too_many text rest z x y r one two cut some =
    let parts = pieces 44 text rest z x y r one two cut some in
    sym (ap numbers_of_pieces parts.2 ∙ four x y parts.0 parts.1 parts.3)

four_words : (a b c : List ℕ) (more : List (List ℕ)) → 1 ≤ length more → line_of_words (a ∷ b ∷ c ∷ more) ≡ None
four_words a b c [] some = absurd (omega (arith, some))
four_words a b c (d ∷ more) some = refl

pub too_many_words : (text rest z x y : List ℕ) (r : Option (Bor (List ℕ) × Bor (List ℕ))) → slice_split (λ c. c == 32) text ≡ x ∷ slice_split (λ c. c == 32) rest
    → slice_split (λ c. c == 32) rest ≡ y ∷ slice_split (λ c. c == 32) z → IsSplitOnce 32 z r → is_some r ≡ true → None ≡ line_of text
too_many_words text rest z x y r one two cut some =
    let parts = pieces 32 text rest z x y r one two cut some in
    sym (ap line_of_words parts.2 ∙ four_words x y parts.0 parts.1 parts.3)
