-- The tables over all commands: what a command line may ask for, by which words, and what is promised (this project's
-- own).
use Rattle.std.specs.Prelude.{ℕ, ◌≡◌, ◌≤◌, nat_le, false, List, [], ◌∷◌, codes, Option, Some, None, option_and_then}
use Rattle.std.specs.Prelude.{option_map, Result, Ok, Err, if◌then◌else◌}
use Rattle.std.specs.Str.{bytes_eq}
use Rattle.frame_pool.specs.Frames.{most_frames}
use Rattle.implicit_tiling.specs.Request.{Line, line_of_words}
use Rattle.request_text.specs.Lines.{line_seen}
use Rattle.tileset_make.specs.declared.recipe.Recipe.{Recipe}
use Rattle.program_status.specs.declared.status.Status.TheVariants.{Usage, Memory}
use Rattle.commands.specs.declared.program.Asked.{Asked}
use Rattle.commands.specs.declared.program.Asked.TheVariants.{Tiles, Check, Make, Survey, Replay, Batch, Serve}
use Rattle.commands.specs.declared.words.WordFault.{WordFault}
use Rattle.commands.specs.declared.words.WordFault.TheVariants as fault
use Rattle.commands.specs.Words.{recipe_of_words, without_dashes, most_seats, last_port, seats_of_word, frames_of_word}
use Rattle.commands.specs.Words.{port_of_word}
use Rattle.commands.specs.Promise.{Promise, LeavesAll, NeedsNoFile, PlaysNothing}
use Rattle.commands.specs.Tiles.{tiles_promise}
use Rattle.commands.specs.Check.{check_promise}
use Rattle.commands.specs.Make.{make_promise}
use Rattle.commands.specs.Replay.{replay_promise}
use Rattle.commands.specs.Survey.{survey_promise, most_surveyed_levels}

-- the answer to a request line; a check of all subtree files; the files of a recipe, or a survey of them; the replies to a
-- script by so many frames and passes; the answers to many request lines by so many workers and frames; or the answers to
-- the requests at a port by so many viewers and frames
pub data Wish : Type 0 where
  tiles : Line → Wish
  check : Wish
  make : Recipe → Wish
  survey : Recipe → Wish
  replay : ℕ → ℕ → Wish
  batch : ℕ → ℕ → Wish
  serve : ℕ → ℕ → ℕ → Wish

-- what the code calls them
abbrev pub asked_seen : Asked → Wish
asked_seen (Tiles line) = tiles (line_seen line)
asked_seen Check = check
asked_seen (Make recipe) = make recipe
asked_seen (Survey recipe) = survey recipe
asked_seen (Replay frames passes) = replay frames passes
asked_seen (Batch workers frames) = batch workers frames
asked_seen (Serve port viewers frames) = serve port viewers frames

-- ---- the words of each command: three words of the forms of a line; none; a recipe; one of few levels of a subtree; and
-- numbers, each in its range

abbrev pub tiles_asked : List (List ℕ) → Option Wish
tiles_asked words = option_map tiles (line_of_words words)

abbrev pub check_asked : List (List ℕ) → Option Wish
check_asked [] = Some check
check_asked (word ∷ words) = None

abbrev pub make_asked : List (List ℕ) → Option Wish
make_asked words = option_map make (recipe_of_words words)

abbrev pub surveyed : Recipe → Option Wish
surveyed recipe = if nat_le recipe.subtree_levels most_surveyed_levels then Some (survey recipe) else None

abbrev pub survey_asked : List (List ℕ) → Option Wish
survey_asked words = option_and_then surveyed (recipe_of_words words)

abbrev pub replay_asked : List (List ℕ) → Option Wish
replay_asked (frames ∷ passes ∷ []) = option_and_then (λ f. option_map (λ p. replay f p) (seats_of_word passes))
    (frames_of_word frames)
replay_asked words = None

abbrev pub batch_asked : List (List ℕ) → Option Wish
batch_asked (workers ∷ frames ∷ []) = option_and_then (λ w. option_map (λ f. batch w f) (frames_of_word frames))
    (seats_of_word workers)
batch_asked words = None

abbrev pub serve_asked : List (List ℕ) → Option Wish
serve_asked (port ∷ viewers ∷ frames ∷ []) =
    option_and_then (λ p. option_and_then (λ v. option_map (λ f. serve p v f) (frames_of_word frames))
    (seats_of_word viewers)) (port_of_word port)
serve_asked words = None

-- what is asked for by a command's name and its words
abbrev pub asked : List (List ℕ) → Option Wish
asked [] = None
asked (name ∷ words) =
    if bytes_eq name (codes "tiles") then tiles_asked (without_dashes words)
    else (if bytes_eq name (codes "check") then check_asked (without_dashes words)
    else (if bytes_eq name (codes "make") then make_asked (without_dashes words)
    else (if bytes_eq name (codes "survey") then survey_asked (without_dashes words)
    else (if bytes_eq name (codes "replay") then replay_asked (without_dashes words)
    else (if bytes_eq name (codes "batch") then batch_asked (without_dashes words)
    else (if bytes_eq name (codes "serve") then serve_asked (without_dashes words) else None))))))

-- the numbers of a script, of a batch and of a serving are within their limits
abbrev pub HasNumbers : Wish → Type 0
HasNumbers (replay frames passes) = (1 ≤ frames) × (frames ≤ most_frames) × (1 ≤ passes) × (passes ≤ most_seats)
HasNumbers (batch workers frames) = (1 ≤ workers) × (workers ≤ most_seats) × (1 ≤ frames) × (frames ≤ most_frames)
HasNumbers (serve port viewers frames) = (1 ≤ port) × (port ≤ last_port) × (1 ≤ viewers) × (viewers ≤ most_seats)
    × (1 ≤ frames) × (frames ≤ most_frames)
HasNumbers wish = Unit {0}

-- ---- what is promised

-- words that ask for nothing, or for a command of another call, are a usage fault, but where there is no memory to read
-- them
abbrev pub refused_promise : Promise
refused_promise = record {
  reply = λ told. Some (Err Usage);
  ends = Usage ∷ Memory ∷ [];
  reads = false;
  puts = false;
  takes = false;
  leaves = LeavesAll;
  first = NeedsNoFile;
  plays = PlaysNothing;
}

abbrev pub promised : Option Wish → Promise
promised None = refused_promise
promised (Some (tiles line)) = tiles_promise line
promised (Some check) = check_promise
promised (Some (make recipe)) = make_promise recipe
promised (Some (survey recipe)) = survey_promise recipe
promised (Some (replay frames passes)) = replay_promise frames passes
promised (Some (batch workers frames)) = refused_promise
promised (Some (serve port viewers frames)) = refused_promise

-- ---- the reading of words

-- what it answers: want of memory comes freely
abbrev pub IsReadAs : Option Wish → Result Asked WordFault → Type 0
IsReadAs wish (Ok a) = wish ≡ Some (asked_seen a)
IsReadAs wish (Err fault.Usage) = wish ≡ None
IsReadAs wish (Err fault.Memory) = Unit {0}
