-- The words of a command: a word that begins with a hyphen is neither a number nor coordinates, and no scheme.
use Rattle.std.proofs.Common.{◌≡◌, ◌≢◌, ℕ, suc, Bool, true, false, List, [], ◌∷◌, refl, sym, ap, ◌∙◌, arith, length, is_some}
use Rattle.std.specs.Prelude.{Option, Some, None, option_and_then, option_map, ◌||◌, ◌&&◌, ◌==◌, ◌^◌, if◌then◌else◌, nat_lt}
use Rattle.std.specs.List.{list_any, slice_split, onto_first}
use Rattle.std.specs.Str.{bytes_eq}
use Rattle.std.specs.Str.Parse.{digits_value}
use Rattle.std.proofs.lemmas.Bool.Decides.{nat_tests}
use Rattle.clap.specs.Lexer.{long_of, short_of}
use Rattle.implicit_tiling.specs.declared.Scheme.{Scheme}
use Rattle.implicit_tiling.specs.Request.{begins_well, number, numbers, numbers_of_pieces, coordinates_in, line_of_words}
use Rattle.commands.specs.Commands.{tiles, tiles_asked, check_asked}
use Rattle.commands.specs.Words.{begins_with_hyphen, has_hyphen, scheme_of_word, recipe_of_numbers, recipe_of_words, without_dashes}

-- a word before `--` begins with a hyphen, and is not `-`
abbrev pub has_flag : List (List ℕ) → Bool
has_flag [] = false
has_flag (w ∷ ws) = if bytes_eq w (45 ∷ 45 ∷ []) then false else is_some (long_of w) || (is_some (short_of w) || has_flag ws)

pub no_bool : false ≡ true → ⊥
no_bool h = grind (arith, h)

pub true_of : (b : Bool) → (b ≡ false → ⊥) → b ≡ true
true_of true h = refl
true_of false h = absurd (h refl)

-- other numbers of words
pub not_three : (words : List (List ℕ)) → length words ≢ 3 → tiles_asked words ≡ None
not_three [] n = refl
not_three (a ∷ []) n = refl
not_three (a ∷ b ∷ []) n = refl
not_three (a ∷ b ∷ c ∷ []) n = absurd (n refl)
not_three (a ∷ b ∷ c ∷ d ∷ more) n = refl

pub none_after : {A B : Type 0} (o : Option A) (f : A → Option B) → ((n : A) → f n ≡ None) → option_and_then f o ≡ None
none_after None f h = refl
none_after (Some n) f h = h n

-- there are as many numbers as words
numbers_more : (first : Option ℕ) (rest : Option (List ℕ)) (count : ℕ) (ns : List ℕ) → ((ms : List ℕ) → rest ≡ Some ms → length ms ≡ count)
    → option_and_then (λ n. option_map (λ ms. n ∷ ms) rest) first ≡ Some ns → length ns ≡ suc count
numbers_more None rest count ns each is = cc
numbers_more (Some n) None count ns each is = cc
numbers_more (Some n) (Some ms) count ns each is = let same : n ∷ ms ≡ ns = cc in sym (ap length same) ∙ ap (λ k. suc k) (each ms refl)

numbers_many : (words : List (List ℕ)) (ns : List ℕ) → numbers words ≡ Some ns → length ns ≡ length words
numbers_many [] ns is = let same : [] ≡ ns = cc in sym (ap length same)
numbers_many (w ∷ ws) ns is = numbers_more (number w) (numbers ws) (length ws) ns (numbers_many ws) is

not_five : (scheme : Scheme) (ns : List ℕ) → length ns ≢ 5 → recipe_of_numbers scheme ns ≡ None
not_five scheme [] n = refl
not_five scheme (a ∷ []) n = refl
not_five scheme (a ∷ b ∷ []) n = refl
not_five scheme (a ∷ b ∷ c ∷ []) n = refl
not_five scheme (a ∷ b ∷ c ∷ d ∷ []) n = refl
not_five scheme (a ∷ b ∷ c ∷ d ∷ e ∷ []) n = absurd (n refl)
not_five scheme (a ∷ b ∷ c ∷ d ∷ e ∷ f ∷ more) n = refl

none_of_others : (scheme : Scheme) (read : Option (List ℕ)) → ((ns : List ℕ) → read ≡ Some ns → length ns ≢ 5) → option_and_then (recipe_of_numbers scheme) read ≡ None
none_of_others scheme None other = refl
none_of_others scheme (Some ns) other = not_five scheme ns (other ns refl)

pub not_six : (words : List (List ℕ)) → length words ≢ 6 → recipe_of_words words ≡ None
not_six [] n = refl
not_six (w ∷ ws) n = none_after (scheme_of_word w) _ (λ scheme.
    none_of_others scheme (numbers ws) (λ ns is five. n (ap (λ k. suc k) (sym (numbers_many ws ns is) ∙ five))))

-- ---- a word before `--` that begins with a hyphen is among those without `--`

hyphen_of : (b : Bool) (c : ℕ) (cs : List ℕ) (more : Bool) → (c == 45) ≡ b → (is_some (long_of (c ∷ cs)) || (is_some (short_of (c ∷ cs)) || more)) ≡ true → (b || more) ≡ true
hyphen_of true c cs more is h = refl
hyphen_of false c cs more is h = rw is at h

hyphen_first : (w : List ℕ) (more : Bool) → (is_some (long_of w) || (is_some (short_of w) || more)) ≡ true → (begins_with_hyphen w || more) ≡ true
hyphen_first [] more h = h
hyphen_first (c ∷ cs) more h = hyphen_of (c == 45) c cs more refl h

or_later : (a b c : Bool) → (b ≡ true → c ≡ true) → (a || b) ≡ true → (a || c) ≡ true
or_later true b c more h = refl
or_later false b c more h = more h

hyphened_by : (b : Bool) (w : List ℕ) (ws : List (List ℕ)) → bytes_eq w (45 ∷ 45 ∷ []) ≡ b → has_flag (w ∷ ws) ≡ true
    → (has_flag ws ≡ true → list_any begins_with_hyphen (without_dashes ws) ≡ true) → list_any begins_with_hyphen (without_dashes (w ∷ ws)) ≡ true
hyphened_by true w ws is h more = absurd (no_bool (rw is at h))
hyphened_by false w ws is h more = rw is (or_later (begins_with_hyphen w) (has_flag ws) _ more (hyphen_first w (has_flag ws) (rw is at h)))

hyphened : (ws : List (List ℕ)) → has_flag ws ≡ true → list_any begins_with_hyphen (without_dashes ws) ≡ true
hyphened [] h = absurd (no_bool h)
hyphened (w ∷ ws) h = hyphened_by (bytes_eq w (45 ∷ 45 ∷ [])) w ws refl h (hyphened ws)

-- ---- such a word is no number, and no coordinates

never : (a b : Bool) (o : Option ℕ) → (if (a && false) && b then o else None) ≡ None
never true b o = refl
never false b o = refl

number_from_hyphen : (cs : List ℕ) → number (45 ∷ cs) ≡ None
number_from_hyphen cs = never (begins_well (45 ∷ cs)) (nat_lt (digits_value 10 (45 ∷ cs)) (2 ^ 32)) _

if_none : {A : Type 0} (b : Bool) (o : Option A) → o ≡ None → (if b then o else None) ≡ None
if_none true o h = h
if_none false o h = refl

pieces_from_hyphen : (pieces : List (List ℕ)) → numbers_of_pieces (onto_first 45 pieces) ≡ None
pieces_from_hyphen [] = refl
pieces_from_hyphen (piece ∷ pieces) = if_none _ (numbers ((45 ∷ piece) ∷ pieces)) (ap (option_and_then _) (number_from_hyphen piece))

is_hyphen : (c : ℕ) → (c == 45) ≡ true → c ≡ 45
is_hyphen c h = grind (arith, nat_tests, h)

pub no_number : (w : List ℕ) → begins_with_hyphen w ≡ true → number w ≡ None
no_number [] h = absurd (no_bool h)
no_number (c ∷ cs) h = ap (λ d. number (d ∷ cs)) (is_hyphen c h) ∙ number_from_hyphen cs

no_coordinates : (w : List ℕ) → begins_with_hyphen w ≡ true → coordinates_in w ≡ None
no_coordinates [] h = absurd (no_bool h)
no_coordinates (c ∷ cs) h = ap (λ d. coordinates_in (d ∷ cs)) (is_hyphen c h) ∙ pieces_from_hyphen (slice_split (λ d. d == 44) cs)

no_line : (a b c : List ℕ) (x y z : Bool) → begins_with_hyphen a ≡ x → begins_with_hyphen b ≡ y → begins_with_hyphen c ≡ z
    → (x || (y || (z || false))) ≡ true → line_of_words (a ∷ b ∷ c ∷ []) ≡ None
no_line a b c true y z p q r h = ap (option_and_then _) (no_number a p)
no_line a b c false true z p q r h = none_after (number a) _ (λ n. ap (option_and_then _) (no_coordinates b q))
no_line a b c false false true p q r h = none_after (number a) _ (λ n. none_after (coordinates_in b) _ (λ l. ap (option_map _) (no_coordinates c r)))
no_line a b c false false false p q r h = absurd (no_bool h)

none_asked : (words : List (List ℕ)) → line_of_words words ≡ None → tiles_asked words ≡ None
none_asked words none = ap (option_map tiles) none

pub no_tiles : (words : List (List ℕ)) → has_hyphen words ≡ true → tiles_asked words ≡ None
no_tiles [] h = absurd (no_bool h)
no_tiles (a ∷ []) h = refl
no_tiles (a ∷ b ∷ []) h = refl
no_tiles (a ∷ b ∷ c ∷ []) h = none_asked (a ∷ b ∷ c ∷ []) (no_line a b c _ _ _ refl refl refl h)
no_tiles (a ∷ b ∷ c ∷ d ∷ more) h = refl

pub no_check : (words : List (List ℕ)) → has_hyphen words ≡ true → check_asked words ≡ None
no_check [] h = absurd (no_bool h)
no_check (a ∷ more) h = refl

-- ---- nor a scheme

scheme_from_hyphen : (cs : List ℕ) → scheme_of_word (45 ∷ cs) ≡ None
scheme_from_hyphen cs = refl

no_scheme : (w : List ℕ) → begins_with_hyphen w ≡ true → scheme_of_word w ≡ None
no_scheme [] h = absurd (no_bool h)
no_scheme (c ∷ cs) h = ap (λ d. scheme_of_word (d ∷ cs)) (is_hyphen c h) ∙ scheme_from_hyphen cs

no_numbers_by : (b : Bool) (w : List ℕ) (ws : List (List ℕ)) → begins_with_hyphen w ≡ b → (b || list_any begins_with_hyphen ws) ≡ true
    → (list_any begins_with_hyphen ws ≡ true → numbers ws ≡ None) → numbers (w ∷ ws) ≡ None
no_numbers_by true w ws is h more = ap (option_and_then _) (no_number w is)
no_numbers_by false w ws is h more = none_after (number w) _ (λ n. ap (option_map _) (more h))

no_numbers : (ws : List (List ℕ)) → list_any begins_with_hyphen ws ≡ true → numbers ws ≡ None
no_numbers [] h = absurd (no_bool h)
no_numbers (w ∷ ws) h = no_numbers_by (begins_with_hyphen w) w ws refl h (no_numbers ws)

no_recipe_by : (b : Bool) (w : List ℕ) (ws : List (List ℕ)) → begins_with_hyphen w ≡ b → (b || list_any begins_with_hyphen ws) ≡ true → recipe_of_words (w ∷ ws) ≡ None
no_recipe_by true w ws is h = ap (option_and_then _) (no_scheme w is)
no_recipe_by false w ws is h = none_after (scheme_of_word w) _ (λ scheme. ap (option_and_then (recipe_of_numbers scheme)) (no_numbers ws h))

pub no_recipe : (words : List (List ℕ)) → has_hyphen words ≡ true → recipe_of_words words ≡ None
no_recipe [] h = absurd (no_bool h)
no_recipe (w ∷ ws) h = no_recipe_by (begins_with_hyphen w) w ws refl h

pub flags_are_hyphens : (words : List (List ℕ)) → has_flag words ≡ true → has_hyphen (without_dashes words) ≡ true
flags_are_hyphens words h = hyphened words h
