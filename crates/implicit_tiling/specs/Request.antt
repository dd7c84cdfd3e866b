-- A request line, LEVEL LO HI, and the rules that refuse it (this project's own).
use Rattle.std.specs.Prelude.{ℕ, ◌+◌, ◌^◌, ◌&&◌, ◌||◌, ◌==◌, nat_lt, not, Bool, List, [], ◌∷◌, length, Option, Some}
use Rattle.std.specs.Prelude.{None, option_and_then, option_map, Result, Ok, Err, if◌then◌else◌, slice_index}
use Rattle.std.specs.List.{list_all, slice_split}
use Rattle.std.specs.Char.{is_ascii_digit}
use Rattle.std.specs.Str.Parse.{digits_value}
use Rattle.implicit_tiling.specs.declared.Scheme.{Scheme}
use Rattle.implicit_tiling.specs.Tile.{axes}
use Rattle.implicit_tiling.specs.Region.{Region, Plan, region_of}
use Rattle.implicit_tiling.specs.Checks.{need, refuse}

-- it isn't empty, and begins with 0 only where it is one character
abbrev pub begins_well : List ℕ → Bool
begins_well text = nat_lt 0 (length text) && (length text == 1 || not (slice_index text 0 == 48))

-- `0`, or digits that don't begin with 0
abbrev pub has_digits : List ℕ → Bool
has_digits text = begins_well text && list_all is_ascii_digit text

-- the number that they write, of at most 2^32 - 1
abbrev pub number : List ℕ → Option ℕ
number text = if has_digits text && nat_lt (digits_value 10 text) (2 ^ 32) then Some (digits_value 10 text) else None

-- each of these as a number
abbrev pub numbers : List (List ℕ) → Option (List ℕ)
numbers [] = Some []
numbers (text ∷ texts) = option_and_then (λ n. option_map (λ ns. n ∷ ns) (numbers texts)) (number text)

-- two or three numbers joined by single commas
abbrev pub numbers_of_pieces : List (List ℕ) → Option (List ℕ)
numbers_of_pieces pieces = if length pieces == 2 || length pieces == 3 then numbers pieces else None

abbrev pub coordinates_in : List ℕ → Option (List ℕ)
coordinates_in text = numbers_of_pieces (slice_split (λ c. c == 44) text)

pub record Line : Type 0 where
  pub level : ℕ
  pub lo : List ℕ
  pub hi : List ℕ

-- the line of three words
abbrev pub line_of_words : List (List ℕ) → Option Line
line_of_words (level ∷ lo ∷ hi ∷ []) =
    option_and_then (λ l. option_and_then
    (λ a. option_map (λ b. record { level = l; lo = a; hi = b }) (coordinates_in hi)) (coordinates_in lo))
    (number level)
line_of_words words = None

-- a number, a list and a list, joined by single spaces
abbrev pub line_of : List ℕ → Option Line
line_of text = line_of_words (slice_split (λ c. c == 32) text)

-- the coordinates with a third place
abbrev pub three : List ℕ → List ℕ
three cs = slice_index cs 0 ∷ slice_index cs 1 ∷ slice_index cs 2 ∷ []

-- a region that was made or refused, as a plan or a refusal of 3 to 5
abbrev pub planned : Scheme → Result Region ℕ → Result Plan ℕ
planned scheme (Ok region) = Ok (record { scheme = scheme; region = region })
planned scheme (Err n) = Err (n + 2)

-- the plan of a line, or the number of the first rule of 1 to 5 that refuses it
abbrev pub plan_of_line : Scheme → ℕ → Option Line → Result Plan ℕ
plan_of_line scheme levels read = need 1 read (λ line.
    refuse 2 (not (length line.lo == axes scheme && length line.hi == axes scheme))
    (planned scheme (region_of levels line.level (three line.lo) (three line.hi))))
