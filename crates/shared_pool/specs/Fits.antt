-- Which pool fits the notes of all passes, and what may change: this project's own.
use Rattle.std.specs.Prelude.{◌≡◌, ◌⊎◌, ℕ, ◌+◌, ◌<◌, ◌≤◌, Bool, true, false, eqb, List, [], ◌∷◌, ◌++◌, length}
use Rattle.std.specs.Prelude.{count_by, sum_by, slice_get, Option, Some, None}
use mathlib.Core.Option.{some}
use lib.ListN.{get_elem?}
use Rattle.std.specs.Arc.{arc_value}
use Rattle.std.specs.declared.sync.Arc.{Arc}
use Rattle.std.proofs.Common.{Global}
use Rattle.frame_pool.specs.declared.frame.FrameState.{FrameState}
use Rattle.frame_pool.specs.declared.frame.FrameState.TheVariants.{Empty, Loading, Ready}
use Rattle.frame_pool.specs.declared.frame.Asked.TheVariants.{Hit as hit, Granted as grant}
use Rattle.frame_pool.specs.States.{state_key, is_pinned, pins_of}
use Rattle.frame_pool.specs.Frames.{Frames, EachFrame, victim}
use Rattle.frame_pool.specs.Moves.{NoneHas, after_ask, after_settle, after_unpin}
use Rattle.shared_pool.specs.declared.entry.Entry.{Entry}
use Rattle.shared_pool.specs.declared.entry.Entry.TheVariants.{Granted, Ended}
use Rattle.shared_pool.specs.declared.note.Note.{Note}
use Rattle.shared_pool.specs.declared.note.Pin.{Pin}
use Rattle.shared_pool.specs.declared.note.Load.{Load}
use Rattle.shared_pool.specs.declared.note.Grants.{Grants}
use Rattle.shared_pool.specs.declared.shared.Shared.{Shared}
use Rattle.shared_pool.specs.declared.shared.PoolTag.{PoolTag}
use Rattle.shared_pool.specs.Books.{pass_of, occurs, Lists, entered}
use Rattle.shared_pool.specs.Logs.{LogFits}

module _ {K : Type 0} where
  abbrev pub loads_of : FrameState K → ℕ
  loads_of Empty = 0
  loads_of (Loading key) = 1
  loads_of (Ready key pins) = 0

  abbrev pub key_in : Option (FrameState K) → Option K
  key_in None = None
  key_in (Some state) = state_key state

  -- the key that a frame has
  abbrev pub key_at : List (FrameState K) → ℕ → Option K
  key_at census f = key_in (slice_get census f)

  abbrev pub is_load_of : ℕ → Option (Load K) → Bool
  is_load_of f None = false
  is_load_of f (Some l) = eqb l.frame f

module _ {K T : Type 0} where
  abbrev pub is_pin_of : ℕ → Option (Pin K T) → Bool
  is_pin_of f None = false
  is_pin_of f (Some p) = eqb p.frame f

  -- whether the note pins frame f
  abbrev pub pins_frame : ℕ → Note K T → Bool
  pins_frame f n = is_pin_of f n.pin

  -- whether the note loads frame f
  abbrev pub loads_frame : ℕ → Note K T → Bool
  loads_frame f n = is_load_of f n.loading

  -- what is pinned is a frame that is ready, with that key and value
  abbrev pub HasPin : Frames K (Arc T Global) → Pin K T → Type 0
  HasPin pool p = (pins : ℕ) × (a : Arc T Global) × (slice_get pool.census p.frame ≡ Some (Ready p.key pins))
      × (slice_get pool.values p.frame ≡ Some (Some a)) × (arc_value a ≡ p.value)

  -- what is loaded is a frame that is loading that key
  abbrev pub HasLoad : Frames K (Arc T Global) → Load K → Type 0
  HasLoad pool l = slice_get pool.census l.frame ≡ Some (Loading l.key)

  -- it pins and loads nothing
  abbrev pub IsIdle : Note K T → Type 0
  IsIdle n = (n.pin ≡ None) × (n.loading ≡ None)

  -- it has a number
  abbrev pub HasNumber : Note K T → Type 0
  HasNumber n = 0 < length n.granted

  -- The frames and the notes: the pool has so many frames; each frame has as many pins as there are notes that pin it,
  -- and one note loads it where it is loading; each note's pin and loading are there; and each ready value fits its key
  pub record FramesFit (fits : K → T
      → Type 0) (many : ℕ) (notes : List (Note K T)) (pool : Frames K (Arc T Global)) : Type 0 where
    pub frames : length pool.census ≡ many
    pub values : length pool.values ≡ many
    pub pins : (f : ℕ) (state : FrameState K) → slice_get pool.census f ≡ Some state
        → pins_of state ≡ count_by (pins_frame f) notes
    pub loads : (f : ℕ) (state : FrameState K) → slice_get pool.census f ≡ Some state
        → loads_of state ≡ count_by (loads_frame f) notes
    pub pinned : (i : ℕ) (n : Note K T) (p : Pin K T) → get_elem? notes i ≡ some n → n.pin ≡ Some p → HasPin pool p
    pub loading : (i : ℕ) (n : Note K T) (l : Load K) → get_elem? notes i ≡ some n → n.loading ≡ Some l → HasLoad pool l
    pub fitting : (f : ℕ) (key : K) (pins : ℕ) (a : Arc T Global) → slice_get pool.census f ≡ Some (Ready key pins)
        → slice_get pool.values f ≡ Some (Some a) → fits key (arc_value a)

  -- The log and the notes: each number below the number of passes stands in one note, and no other number in any; each
  -- note has the entries of its numbers; and a note that pins or loads has a number, and pins or loads one frame, not
  -- both
  pub record NotesFit (passes : ℕ) (notes : List (Note K T)) (log : List (Entry K)) : Type 0 where
    pub lists : (i : ℕ) (n : Note K T) → get_elem? notes i ≡ some n → Lists log n.granted
    pub below : (j : ℕ) (e : Entry K) → slice_get log j ≡ Some e → pass_of e < passes
    pub once : (pass : ℕ) → pass < passes → sum_by (λ n. occurs pass n.granted) notes ≡ 1
    pub never : (pass : ℕ) → passes ≤ pass → sum_by (λ n. occurs pass n.granted) notes ≡ 0
    pub numbered : (i : ℕ) (n : Note K T) → get_elem? notes i ≡ some n → IsIdle n ⊎ HasNumber n
    pub single : (i : ℕ) (n : Note K T) → get_elem? notes i ≡ some n → (n.pin ≡ None) ⊎ (n.loading ≡ None)

  -- the pool fits the notes of all passes
  pub record PoolFits {G : Type 0} (eq : K → K → Bool) (fits : G → K → T
      → Type 0) (tag : PoolTag G) (notes : List (Note K T)) (x : Shared K T) : Type 0 where
    pub framed : FramesFit (fits tag.own) tag.frames notes x.pool
    pub logged : LogFits eq x.pool.census x.log
    pub listed : NotesFit tag.passes notes x.log

  -- a note with another pin
  abbrev pub with_pin : Note K T → Option (Pin K T) → Note K T
  with_pin n pin = record { pin = pin; loading = None; granted = n.granted; busies = n.busies }

  -- a note that loads, with one more entry
  abbrev pub with_load : Note K T → Option (Load K) → Entry K → Note K T
  with_load n loading e = record { pin = None; loading = loading; granted = entered e n.granted; busies = n.busies }

  -- a note with one more answer that every frame is pinned
  abbrev pub more_busy : Note K T → Note K T
  more_busy n = record { pin = n.pin; loading = n.loading; granted = n.granted; busies = n.busies + 1 }

  abbrev pub nothing : Note K T
  nothing = record { pin = None; loading = None; granted = []; busies = 0 }

  -- both notes' numbers and answers
  abbrev pub added : Note K T → Note K T → Note K T
  added n m = record {
    pin = n.pin;
    loading = n.loading;
    granted = n.granted
        ++ m.granted;
    busies = n.busies + m.busies;
  }

  -- an idle note is divided into two, and its numbers and answers with it
  abbrev pub Divides : Note K T → Note K T → Note K T → Type 0
  Divides n left right = IsIdle n × IsIdle left × IsIdle right × (n.granted ≡ right.granted ++ left.granted)
      × (n.busies ≡ left.busies + right.busies)

abbrev pub with_tag : {G : Type 0} → G → PoolTag G
with_tag own = record { frames = 0; passes = 0; own = own }

-- The kinds of change: the pool is given back as it was; or as it was, since every frame is pinned; a ready frame
-- with a key, pins and a value gets one pin more; a frame is granted for a key to the pass of a number; a loading
-- brings the value of its key; the pass of a number ends a loading without one; a pin ends. A frame stands first
pub data Change (K A : Type 0) : Type 0 where
  Keeps : Change K A
  Misses : Change K A
  Hits : ℕ → K → ℕ → A → Change K A
  Gives : ℕ → ℕ → K → Change K A
  Fills : ℕ → K → A → Change K A
  Fails : ℕ → ℕ → K → Change K A
  Frees : Change K A

module _ {G K T : Type 0} (eq : K → K → Bool) (fits : G → K → T → Type 0) where
  -- what a change of its kind does to the holder's note and to the pool with its log
  abbrev pub Makes : PoolTag G → Change K (Arc T Global) → Note K T → Shared K T → Note K T → Shared K T → Type 0
  Makes tag Keeps n x m y = (m ≡ n) × (y ≡ x)
  Makes tag Misses n x m y = (m ≡ more_busy n) × (y ≡ x) × EachFrame (λ state. is_pinned state ≡ true) x.pool.census
  Makes tag (Hits f key pins a) n x m y =
      IsIdle n × HasNumber n × (slice_get x.pool.census f ≡ Some (Ready key pins))
      × (slice_get x.pool.values f ≡ Some (Some a))
      × (y.pool ≡ after_ask key x.pool (hit f)) × (y.log ≡ x.log)
      × (m ≡ with_pin n (Some (record { frame = f; key = key; value = arc_value a })))
  Makes tag (Gives f pass key) n x m y =
      IsIdle n × (0 < occurs pass n.granted) × NoneHas eq key x.pool.census
      × (victim x.pool.census x.pool.order ≡ Some f)
      × (y.pool ≡ after_ask key x.pool (grant f)) × (y.log ≡ x.log ++ Granted pass key (key_at x.pool.census f) ∷ [])
      × (m ≡ with_load n (Some (record { frame = f; key = key })) (Granted pass key (key_at x.pool.census f)))
  Makes tag (Fills f key a) n x m y =
      (n.loading ≡ Some (record { frame = f; key = key })) × fits tag.own key (arc_value a)
      × (y.pool ≡ after_settle f (Some a) x.pool) × (y.log ≡ x.log)
      × (m ≡ with_pin n (Some (record { frame = f; key = key; value = arc_value a })))
  Makes tag (Fails f pass key) n x m y =
      (n.loading ≡ Some (record { frame = f; key = key })) × (0 < occurs pass n.granted)
      × (y.pool ≡ after_settle f None x.pool) × (y.log ≡ x.log ++ Ended pass key ∷ [])
      × (m ≡ with_load n None (Ended pass key))
  Makes tag Frees n x m y =
      (p : Pin K T) × (n.pin ≡ Some p) × (y.pool ≡ after_unpin p.frame x.pool) × (y.log ≡ x.log) × (m ≡ with_pin n None)

  -- a change is of one of these kinds
  abbrev pub Permits : PoolTag G → Note K T → Shared K T → Note K T → Shared K T → Type 0
  Permits tag n x m y = (change : Change K (Arc T Global)) × Makes tag change n x m y
