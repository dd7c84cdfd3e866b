-- Which files a walk over frames reads (this project's own).
use Rattle.std.specs.Prelude.{ℕ, ◌≡◌, eqb, List, [], ◌∷◌, ◌++◌, length, map, take, Option, Some, IfSome}
use Rattle.implicit_tiling.specs.Files.{Files}
use Rattle.implicit_tiling.specs.Region.{Region}
use Rattle.implicit_tiling.specs.Scene.{Layout, Scene}
use Rattle.implicit_tiling.specs.Steps.{pairs, steps}
use Rattle.implicit_tiling.specs.Code.{word_tile}
use Rattle.implicit_tileset.specs.Scene.{scene_of}
use Rattle.frame_pool.specs.declared.frame.Asked.{Asked}
use Rattle.frame_pool.specs.declared.frame.Asked.TheVariants.{Hit, Granted, Loading, Busy}
use Rattle.frame_pool.specs.Frames.{Frames, empty_frames}
use Rattle.frame_pool.specs.Moves.{IsAskAnswer, after_ask, after_settle, after_unpin}
use Rattle.subtree_outcome.specs.declared.outcome.Outcome.{Outcome}
use Rattle.subtree_outcome.specs.Fetched.{HasFetched}
use Rattle.region_cursor.specs.Walked.{root_word}

-- the outcome of a key that is granted is read, and of no other
abbrev pub reads_of : ℕ → Asked → List ℕ
reads_of key (Hit f) = []
reads_of key (Granted f) = key ∷ []
reads_of key Loading = []
reads_of key Busy = []

-- the frame of an answer
abbrev pub frame_of : Asked → ℕ
frame_of (Hit f) = f
frame_of (Granted f) = f
frame_of Loading = 0
frame_of Busy = 0

-- the frames in a turn with a key: a frame that was granted has what was found
abbrev pub in_turn : ℕ → Outcome → Asked → Frames ℕ Outcome → Frames ℕ Outcome
in_turn key found (Hit f) frames = after_ask key frames (Hit f)
in_turn key found (Granted f) frames = after_settle f (Some found) (after_ask key frames (Granted f))
in_turn key found Loading frames = frames
in_turn key found Busy frames = frames

-- and after it
abbrev pub after_turn : ℕ → Outcome → Asked → Frames ℕ Outcome → Frames ℕ Outcome
after_turn key found asked frames = after_unpin (frame_of asked) (in_turn key found asked frames)

-- from some frames to others by a turn with each key, one after another: the outcomes of these keys are read
abbrev pub Turns : Frames ℕ Outcome → List ℕ → Frames ℕ Outcome → List ℕ → Type 0
Turns frames [] last reads = (last ≡ frames) × (reads ≡ [])
Turns frames (key ∷ keys) last reads = (asked : Asked) × (found : Outcome) × (rest : List ℕ)
    × IsAskAnswer eqb key frames asked
    × Turns (after_turn key found asked frames) keys last rest × (reads ≡ reads_of key asked ++ rest)

-- the keys of the steps of a walk, in their order
abbrev pub step_keys : Scene → Region → ℕ → List ℕ
step_keys s region k = map (λ p. root_word s p.root) (take k (pairs s region))

-- the fetches of turns with some keys
pub record HasRead (layout : Layout) (told : Option Files) (first : Frames ℕ Outcome) (keys : List ℕ) (last : Frames ℕ Outcome)
    (before now : ℕ) : Type 0 where
  pub reads : List ℕ
  pub turns : Turns first keys last reads
  pub fetched : HasFetched layout told (map (word_tile layout.scheme) reads) before now

-- The fetches of a walk over n frames: those for each key that n frames, empty at first, grant. Where files are told, the
-- keys are those of the steps.
pub record IsReadOver (n : ℕ) (layout : Layout) (told : Option Files) (region : Region) (before now : ℕ) : Type 0 where
  pub keys : List ℕ
  pub last : Frames ℕ Outcome
  pub read : HasRead layout told (empty_frames n) keys last before now
  pub of_steps : IfSome told (λ all. keys ≡ step_keys (scene_of all layout) region
      (length (steps (scene_of all layout) region)))

-- a turn that has begun: the pool was asked for the key, and what it granted was read
pub record IsInTurn (layout : Layout) (told : Option Files) (key f : ℕ) (frames now : Frames ℕ Outcome) (before after : ℕ) : Type 0 where
  pub asked : Asked
  pub found : Outcome
  pub answer : IsAskAnswer eqb key frames asked
  pub frame : f ≡ frame_of asked
  pub held : now ≡ in_turn key found asked frames
  pub fetched : HasFetched layout told (map (word_tile layout.scheme) (reads_of key asked)) before after
