-- The replay script: what each line of an input asks for (this project's own).
use Rattle.std.specs.Prelude.{ℕ, ◌≡◌, ◌<◌, ◌==◌, nat_le, List, [], ◌∷◌, length, codes, map, Option, Some, None}
use Rattle.std.specs.Prelude.{Result, if◌then◌else◌}
use Rattle.std.specs.List.{slice_split, join_with_byte}
use Rattle.std.specs.Str.{bytes_eq}
use denote.Ref.{Bor}
use Rattle.implicit_tiling.specs.declared.Scheme.{Scheme}
use Rattle.implicit_tiling.specs.Region.{Plan}
use Rattle.implicit_tiling.specs.Answer.{most_tiles}
use Rattle.implicit_tiling.specs.Request.{number, line_of, plan_of_line}
use Rattle.request_text.specs.Input.{input_lines}
use Rattle.replay_script.specs.declared.event.Event.{Event}
use Rattle.replay_script.specs.declared.event.Event.TheVariants.{Attach, Claim, Pin, Load, Fail, Commit, Drop, Page, Bad}

-- the words of a text, which single blanks part
abbrev pub words_in : List ℕ → List (List ℕ)
words_in text = slice_split (λ c. c == 32) text

-- the number that one word writes
abbrev pub one_number : List (List ℕ) → Option ℕ
one_number (word ∷ []) = number word
one_number words = None

-- ---- `attach p LEVEL LO HI`: all that stands behind p and a blank is the request line

abbrev pub attached : Option ℕ → Result Plan ℕ → Event (Unit {0})
attached (Some p) asked = Attach p asked
attached None asked = Bad

abbrev pub attach_event : Scheme → ℕ → List (List ℕ) → Event (Unit {0})
attach_event scheme levels (pass ∷ word ∷ words) =
    attached (number pass) (plan_of_line scheme levels (line_of (join_with_byte 32 (word ∷ words))))
attach_event scheme levels words = Bad

-- ---- `page p n`: n is at most the tiles of an answer

abbrev pub paged : Option ℕ → Option ℕ → Event (Unit {0})
paged (Some p) (Some n) = if nat_le n most_tiles then Page p n else Bad
paged p n = Bad

abbrev pub page_event : List (List ℕ) → Event (Unit {0})
page_event (pass ∷ words) = paged (number pass) (one_number words)
page_event words = Bad

-- ---- `claim p`, `pin p`, `load p`, `fail p`, `commit p` and `drop p`

abbrev pub event_of_pass : List ℕ → ℕ → Event (Unit {0})
event_of_pass name p =
    if bytes_eq name (codes "claim") then Claim p
    else (if bytes_eq name (codes "pin") then Pin p
    else (if bytes_eq name (codes "load") then Load p tt
    else (if bytes_eq name (codes "fail") then Fail p
    else (if bytes_eq name (codes "commit") then Commit p
    else (if bytes_eq name (codes "drop") then Drop p else Bad)))))

abbrev pub passed : List ℕ → Option ℕ → Event (Unit {0})
passed name (Some p) = event_of_pass name p
passed name None = Bad

abbrev pub pass_event : List ℕ → List (List ℕ) → Event (Unit {0})
pass_event name words = passed name (one_number words)

-- ---- lines

-- the event of a name and the words behind it
abbrev pub event_named : Scheme → ℕ → List ℕ → List (List ℕ) → Event (Unit {0})
event_named scheme levels name words =
    if bytes_eq name (codes "attach") then attach_event scheme levels words
    else (if bytes_eq name (codes "page") then page_event words else pass_event name words)

abbrev pub event_of_words : Scheme → ℕ → List (List ℕ) → Event (Unit {0})
event_of_words scheme levels (name ∷ words) = event_named scheme levels name words
event_of_words scheme levels [] = Bad

-- the event of a line, over a layout of this scheme and with so many levels. A line of no form above is bad
abbrev pub event_of : Scheme → ℕ → List ℕ → Event (Unit {0})
event_of scheme levels line = event_of_words scheme levels (words_in line)

-- the events of the lines of an input
abbrev pub script_of : Scheme → ℕ → List ℕ → List (Event (Unit {0}))
script_of scheme levels input = map (event_of scheme levels) (input_lines input)

-- the first event of a script and the bytes behind its line, or that it has none
abbrev pub IsNextEvent : Scheme → ℕ → List ℕ → Option (Event (Unit {0}) × Bor (List ℕ)) → Type 0
IsNextEvent scheme levels input None = script_of scheme levels input ≡ []
IsNextEvent scheme levels input (Some found) =
    (script_of scheme levels input ≡ found.0 ∷ script_of scheme levels found.1.now)
    × (length found.1.now < length input)
