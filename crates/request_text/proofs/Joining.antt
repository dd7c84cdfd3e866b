-- The words of a request line hold no space, so they are the pieces of the line that they are joined to.
use Rattle.std.proofs.Common.{◌≡◌, ℕ, ◌≤◌, ◌^◌, Bool, true, false, List, [], ◌∷◌, ◌++◌, refl, ap, ◌∙◌, subst, arith, cond}
use Rattle.std.specs.Prelude.{Option, Some, None, is_some, option_and_then, option_map, nat_le, nat_lt, ◌==◌, ◌&&◌}
use Rattle.std.specs.List.{slice_split, list_all, join_with_byte, All, AllByRecursion}
use Rattle.std.specs.Char.{is_ascii_digit}
use Rattle.std.specs.Str.Parse.{digits_value}
use Rattle.std.proofs.lemmas.List.Elements.{All-nil, All-cons, All-append}
use Rattle.std.proofs.lemmas.List.Splits.{slice_split_none, slice_split_at, join_with_byte-slice_split}
use Rattle.std.proofs.lemmas.Bool.{and_parts, leb-true, ne_eqb, false≢true}
use Rattle.implicit_tiling.specs.Request.{has_digits, number, numbers, coordinates_in, line_of_words, Line}
use Rattle.request_text.specs.Laws.{JoinedIsItsWords}

-- no byte is a space
abbrev HasNoSpace : List ℕ → Type 0
HasNoSpace text = All (λ c. (c == 32) ≡ false) text

abbrev AllHaveNoSpace : List (List ℕ) → Type 0
AllHaveNoSpace texts = AllByRecursion HasNoSpace texts

of_digits : (text : List ℕ) → list_all is_ascii_digit text ≡ true → HasNoSpace text
of_digits [] all = All-nil (λ c. (c == 32) ≡ false)
of_digits (c ∷ text) all =
    let parts = and_parts (is_ascii_digit c) (list_all is_ascii_digit text) all in
    let digit : 48 ≤ c = leb-true 48 c (and_parts (nat_le 48 c) (nat_le c 57) parts.0).0 in
    All-cons (λ b. (b == 32) ≡ false) c text (ne_eqb c 32 (λ e. omega (arith, e))) (of_digits text parts.1)

-- what a test lets through passed it
passed : {X : Type 0} (b : Bool) (found : Option X) → is_some (cond b found None) ≡ true → (b ≡ true) × (is_some found ≡ true)
passed true found is = (refl, is)
passed false found is = absurd (false≢true is)

pub of_number : (text : List ℕ) → is_some (number text) ≡ true → HasNoSpace text
of_number text is =
    let fits = nat_lt (digits_value 10 text) (2 ^ 32) in
    let tested = (passed (has_digits text && fits) (Some (digits_value 10 text)) is).0 in
    of_digits text (and_parts _ _ (and_parts (has_digits text) fits tested).0).1

both : (a : Option ℕ) (b : Option (List ℕ)) → is_some (option_and_then (λ n. option_map (λ ns. n ∷ ns) b) a) ≡ true → (is_some a ≡ true) × (is_some b ≡ true)
both None b is = absurd (false≢true is)
both (Some n) None is = absurd (false≢true is)
both (Some n) (Some ns) is = (refl, refl)

of_numbers : (texts : List (List ℕ)) → is_some (numbers texts) ≡ true → AllHaveNoSpace texts
of_numbers [] is = tt
of_numbers (text ∷ texts) is =
    let parts = both (number text) (numbers texts) is in (of_number text parts.0, of_numbers texts parts.1)

-- joined by commas they hold none either
of_joined : (texts : List (List ℕ)) → AllHaveNoSpace texts → HasNoSpace (join_with_byte 44 texts)
of_joined [] all = All-nil (λ c. (c == 32) ≡ false)
of_joined (x ∷ []) all = all.0
of_joined (x ∷ y ∷ texts) all =
    All-append (λ c. (c == 32) ≡ false) x (44 ∷ join_with_byte 44 (y ∷ texts)) all.0
    (All-cons (λ c. (c == 32) ≡ false) 44 (join_with_byte 44 (y ∷ texts)) refl (of_joined (y ∷ texts) all.1))

of_coordinates : (text : List ℕ) → is_some (coordinates_in text) ≡ true → HasNoSpace text
of_coordinates text is =
    let pieces = slice_split (λ c. c == 44) text in
    let read = (passed _ (numbers pieces) is).1 in
    subst HasNoSpace (join_with_byte-slice_split 44 text) (of_joined pieces (of_numbers pieces read))

abbrev line : ℕ → List ℕ → List ℕ → Line
line l a b = record { level = l; lo = a; hi = b }

-- where three words are read to a line, each is read
all_three : (level : Option ℕ) (lo hi : Option (List ℕ)) → is_some (option_and_then (λ l. option_and_then (λ a. option_map (λ b. line l a b) hi) lo) level) ≡ true
    → (is_some level ≡ true) × (is_some lo ≡ true) × (is_some hi ≡ true)
all_three None lo hi is = absurd (false≢true is)
all_three (Some l) None hi is = absurd (false≢true is)
all_three (Some l) (Some a) None is = absurd (false≢true is)
all_three (Some l) (Some a) (Some b) is = (refl, refl, refl)

pub pieces_of_joined : (level lo hi : List ℕ) → HasNoSpace level → HasNoSpace lo → HasNoSpace hi
    → slice_split (λ c. c == 32) (join_with_byte 32 (level ∷ lo ∷ hi ∷ [])) ≡ level ∷ lo ∷ hi ∷ []
pieces_of_joined level lo hi one two three =
    slice_split_at (λ c. c == 32) level 32 (lo ++ (32 ∷ hi)) one refl
    ∙ ap (λ w. level ∷ w) (slice_split_at (λ c. c == 32) lo 32 hi two refl ∙ ap (λ w. lo ∷ w) (slice_split_none (λ c. c == 32) hi three))

pub a_joined_line_is_its_words : JoinedIsItsWords
a_joined_line_is_its_words level lo hi is =
    let parts = all_three (number level) (coordinates_in lo) (coordinates_in hi) is in
    ap line_of_words (pieces_of_joined level lo hi (of_number level parts.0) (of_coordinates lo parts.1) (of_coordinates hi parts.2))
