-- What contracts see of a pass and of a host, and what each call does to it: this project's own.
use Rattle.std.specs.Prelude.{◌≡◌, ℕ, zero, suc, ◌+◌, ◌<◌, ◌≤◌, Bool, true, List, [], ◌∷◌, ◌++◌, length, take, drop}
use Rattle.std.specs.Prelude.{slice_get, Option, Some, None, IfSome}
use Rattle.std.specs.Arc.{arc_value}
use Rattle.std.specs.declared.sync.Arc.{Arc}
use Rattle.std.proofs.Common.{Global}
use Rattle.atomic_table.specs.Seated.{TableId}
use Rattle.frame_pool.specs.declared.frame.FrameState.{FrameState}
use Rattle.frame_pool.specs.declared.frame.FrameState.TheVariants.{Empty, Loading, Ready}
use Rattle.frame_pool.specs.declared.frame.Asked.TheVariants.{Hit as hit, Granted as grant, Busy as busy}
use Rattle.frame_pool.specs.Frames.{Frames, empty_frames}
use Rattle.frame_pool.specs.Moves.{IsAskAnswer, after_ask, after_settle, after_unpin}
use Rattle.shared_pool.specs.declared.entry.Entry.{Entry}
use Rattle.shared_pool.specs.declared.entry.Entry.TheVariants.{Granted, Ended}
use Rattle.shared_pool.specs.declared.note.Note.{Note}
use Rattle.shared_pool.specs.declared.note.Pin.{Pin}
use Rattle.shared_pool.specs.declared.note.Load.{Load}
use Rattle.shared_pool.specs.declared.note.Grants.{Grants}
use Rattle.shared_pool.specs.declared.shared.Shared.{Shared}
use Rattle.shared_pool.specs.declared.shared.PoolTag.{PoolTag}
use Rattle.shared_pool.specs.declared.answer.Asking.{Asking}
use Rattle.shared_pool.specs.declared.answer.Asking.TheVariants.{Hit as AHit, Granted as AGranted, Busy as ABusy}
use Rattle.shared_pool.specs.declared.answer.Asking.TheVariants.{Memory as AMemory}
use Rattle.shared_pool.specs.declared.answer.Pinned.{Pinned}
use Rattle.shared_pool.specs.declared.answer.Pinned.TheVariants.{Hit as PHit, Granted as PGranted, Busy as PBusy}
use Rattle.shared_pool.specs.declared.answer.Pinned.TheVariants.{Memory as PMemory}
use Rattle.shared_pool.specs.declared.answer.Held.{Held}
use Rattle.shared_pool.specs.declared.answer.Held.TheVariants.{Nothing as HNothing, Loading as HLoading}
use Rattle.shared_pool.specs.declared.answer.Held.TheVariants.{Pinned as HPinned}
use Rattle.shared_pool.specs.Books.{grants, ends}
use Rattle.shared_pool.specs.Fits.{PoolFits, IsIdle, HasPin, HasLoad, key_at, with_pin, with_load, more_busy}
use Rattle.turn_lock.specs.Seats.{Seat}
use Rattle.turn_lock.specs.Turns.{FitsWith}

-- the numbers from `first` on, each with no entry
abbrev pub fresh : {K : Type 0} → ℕ → ℕ → List (Grants K)
fresh first zero = []
fresh first (suc n) = record { pass = first; entries = [] } ∷ fresh (first + 1) n

-- the key that a frame lost by a grant after this pool was taken
abbrev pub entry_of_grant : {K T : Type 0} → ℕ → K → ℕ → Shared K T → Entry K
entry_of_grant number key f x = Granted number key (key_at x.pool.census f)

module _ {K T : Type 0} where
  -- the pool was given back with these frames and this log
  abbrev pub Gives : Option (Shared K T) → Frames K (Arc T Global) → List (Entry K) → Type 0
  Gives gave pool log = gave ≡ Some (record { pool = pool; log = log })

module _ {G K T : Type 0} where
  -- the pool that was taken last had as many frames as were stated, and P holds of it
  abbrev pub Takes : PoolTag G → Option (Shared K T) → (Shared K T → Type 0) → Type 0
  Takes tag last P = (x : Shared K T) × (last ≡ Some x) × (length x.pool.census ≡ tag.frames) × P x

  -- A hit of frame f: the pool answered so, the frame was found with its key and this value, which fits the key, and
  -- the note has this pin
  abbrev pub HasHit : (K → K → Bool) → (G → K → T → Type 0) → K → PoolTag G → Note K T → Option (Shared K T)
      → Option (Shared K T) → Note K T → ℕ → Arc T Global → Type 0
  HasHit eq fits key tag n last gave m f copy = Takes tag last (λ x.
      IsAskAnswer eq key x.pool (hit f) × Gives gave (after_ask key x.pool (hit f)) x.log
      × ((own : K) × (eq own key ≡ true) × fits tag.own own (arc_value copy)
      × HasPin x.pool (record { frame = f; key = own; value = arc_value copy })
      × (m ≡ with_pin n (Some (record { frame = f; key = own; value = arc_value copy })))))

  -- A grant of frame f to the pass of a number: the pool answered so, the log has the entry, and the note loads the
  -- frame
  abbrev pub HasGrant : (K → K → Bool) → ℕ → K → PoolTag G → Note K T → Option (Shared K T) → Option (Shared K T)
      → Note K T → ℕ → Type 0
  HasGrant eq number key tag n last gave m f = Takes tag last (λ x.
      IsAskAnswer eq key x.pool (grant f)
      × Gives gave (after_ask key x.pool (grant f)) (x.log ++ entry_of_grant number key f x ∷ [])
      × (m ≡ with_load n (Some (record { frame = f; key = key })) (entry_of_grant number key f x)))

  -- every frame is pinned and none has the key, as the pool answered; it was given back as it was taken. There are
  -- fewer frames than passes
  abbrev pub HasMissed : (K → K → Bool) → K → PoolTag G → Note K T → Option (Shared K T) → Option (Shared K T)
      → Note K T → Type 0
  HasMissed eq key tag n last gave m = (tag.frames < tag.passes) × Takes tag last (λ x. IsAskAnswer eq key x.pool busy
      × (gave ≡ Some x) × (m ≡ more_busy n))

  -- the pool was given back as it was taken
  abbrev pub HasKept : PoolTag G → Note K T → Option (Shared K T) → Option (Shared K T) → Note K T → Type 0
  HasKept tag n last gave m = Takes tag last (λ x. (gave ≡ Some x) × (m ≡ n))

  -- a frame was ready with the key, as the pool answered, and the pool was given back as it was taken
  abbrev pub HasForgone : (K → K → Bool) → K → PoolTag G → Note K T → Option (Shared K T) → Option (Shared K T)
      → Note K T → Type 0
  HasForgone eq key tag n last gave m = Takes tag last (λ x. ((f : ℕ) × IsAskAnswer eq key x.pool (hit f))
      × (gave ≡ Some x) × (m ≡ n))

  -- a loading ended with a value, or without one
  abbrev pub HasSettled : ℕ → PoolTag G → Note K T → Option (Shared K T) → Option (Shared K T) → Note K T
      → Option (Arc T Global) → Type 0
  HasSettled number tag n last gave m (Some a) = (l : Load K) × (n.loading ≡ Some l) × Takes tag last (λ x.
      HasLoad x.pool l × Gives gave (after_settle l.frame (Some a) x.pool) x.log
      × (slice_get (after_settle l.frame (Some a) x.pool).census l.frame ≡ Some (Ready l.key 1))
      × (m ≡ with_pin n (Some (record { frame = l.frame; key = l.key; value = arc_value a }))))
  HasSettled number tag n last gave m None = (l : Load K) × (n.loading ≡ Some l) × Takes tag last (λ x.
      HasLoad x.pool l × Gives gave (after_settle l.frame None x.pool) (x.log ++ Ended number l.key ∷ [])
      × (slice_get (after_settle l.frame None x.pool).census l.frame ≡ Some Empty)
      × (m ≡ with_load n None (Ended number l.key)))

  -- a pin ended, whose frame was found ready with its key and value
  abbrev pub HasFreed : PoolTag G → Note K T → Option (Shared K T) → Option (Shared K T) → Note K T → Type 0
  HasFreed tag n last gave m = (p : Pin K T) × (n.pin ≡ Some p) × Takes tag last (λ x.
      HasPin x.pool p × Gives gave (after_unpin p.frame x.pool) x.log × (m ≡ with_pin n None))

  -- one look at the pool, by a seat
  abbrev pub HasAsked : (K → K → Bool) → (G → K → T → Type 0) → ℕ → K → PoolTag G → Note K T → Option (Shared K T)
      → Option (Shared K T) → Note K T → Asking T → Type 0
  HasAsked eq fits number key tag n last gave m (AHit f copy) = HasHit eq fits key tag n last gave m f copy
  HasAsked eq fits number key tag n last gave m (AGranted f) = HasGrant eq number key tag n last gave m f
  HasAsked eq fits number key tag n last gave m ABusy = HasMissed eq key tag n last gave m
  HasAsked eq fits number key tag n last gave m AMemory = HasForgone eq key tag n last gave m

  -- one look, which found that another pass loads the key, or gave an answer
  abbrev pub HasLooked : (K → K → Bool) → (G → K → T → Type 0) → ℕ → K → PoolTag G → Note K T → Option (Shared K T)
      → Option (Shared K T) → Note K T → Option (Asking T) → Type 0
  HasLooked eq fits number key tag n last gave m None = m ≡ n
  HasLooked eq fits number key tag n last gave m (Some asking) = HasAsked eq fits number key tag n last gave m asking

  -- the answer to a pass that pins
  abbrev pub HasPinned : (K → K → Bool) → (G → K → T → Type 0) → ℕ → K → PoolTag G → Note K T → Option (Shared K T)
      → Option (Shared K T) → Note K T → Pinned T → Type 0
  HasPinned eq fits number key tag n last gave m (PHit copy) = (f : ℕ) × HasHit eq fits key tag n last gave m f copy
  HasPinned eq fits number key tag n last gave m PGranted = (f : ℕ) × HasGrant eq number key tag n last gave m f
  HasPinned eq fits number key tag n last gave m PBusy = HasMissed eq key tag n last gave m
  HasPinned eq fits number key tag n last gave m PMemory = HasForgone eq key tag n last gave m

  -- what a seat knows that has the pool out
  abbrev pub HasOut : (K → K → Bool) → (G → K → T → Type 0) → Seat (PoolTag G) (Note K T) (Shared K T) → Shared K T
      → Type 0
  HasOut eq fits seat x = (seat.out ≡ Some x) × (seat.last ≡ Some x) × (seat.tag.passes ≤ 64)
      × FitsWith (PoolFits eq fits) seat.tag seat.note x

-- the pin of what a frame has
abbrev pub pin_in : {K T : Type 0} → ℕ → Option (FrameState K) → Option (Option (Arc T Global)) → Option (Pin K T)
pin_in f (Some (Ready key pins)) (Some (Some a)) = Some (record { frame = f; key = key; value = arc_value a })
pin_in f (Some (Ready key pins)) (Some None) = None
pin_in f (Some (Ready key pins)) None = None
pin_in f (Some (Loading key)) o = None
pin_in f (Some Empty) o = None
pin_in f None o = None

abbrev pub pin_at : {K T : Type 0} → Frames K (Arc T Global) → ℕ → Option (Pin K T)
pin_at pool f = pin_in f (slice_get pool.census f) (slice_get pool.values f)

-- the note and the log after a grant or the end of a loading, by the pool that the seat has out
module _ {K T : Type 0} where
  abbrev pub note_of_grant : Note K T → ℕ → K → ℕ → Option (Shared K T) → Note K T
  note_of_grant n number key f None = n
  note_of_grant n number key f (Some x) = with_load n (Some (record { frame = f; key = key }))
      (entry_of_grant number key f x)

  abbrev pub log_of_grant : ℕ → K → ℕ → Option (Shared K T) → List (Entry K)
  log_of_grant number key f None = []
  log_of_grant number key f (Some x) = x.log ++ entry_of_grant number key f x ∷ []

  abbrev pub log_of_end : ℕ → K → Option (Shared K T) → List (Entry K)
  log_of_end number key None = []
  log_of_end number key (Some x) = x.log ++ Ended number key ∷ []

  -- what the code of a pass knows of its note
  abbrev pub IsHeld : Held K → Note K T → Type 0
  IsHeld HNothing n = IsIdle n
  IsHeld (HLoading f key) n = (n.pin ≡ None) × (n.loading ≡ Some (record { frame = f; key = key }))
  IsHeld (HPinned f) n = (p : Pin K T) × (n.pin ≡ Some p) × (p.frame ≡ f) × (n.loading ≡ None)

-- What is seen of a pass: its table and tag, its number and note, and the pool that it took and gave last
pub record PassSeen (G K T : Type 0) : Type 0 where
  pub table : TableId
  pub tag : PoolTag G
  pub number : ℕ
  pub note : Note K T
  pub last : Option (Shared K T)
  pub gave : Option (Shared K T)

-- What is seen of a host: its table and tag, how many passes it has handed out, its note, and the pool that it took and
-- gave last
pub record HostSeen (G K T : Type 0) : Type 0 where
  pub table : TableId
  pub tag : PoolTag G
  pub next : ℕ
  pub note : Note K T
  pub last : Option (Shared K T)
  pub gave : Option (Shared K T)

module _ {G K T : Type 0} where
  -- what holds of every pass: its seat is of its lock and has nothing out, its note has its number alone, and its code
  -- knows what the note has
  pub record IsPass (seat : Seat (PoolTag G) (Note K T) (Shared K T)) (lock : TableId) (number : ℕ)
      (has : Held K) : Type 0 where
    pub own : seat.table ≡ lock
    pub idle : seat.out ≡ None
    pub passes : seat.tag.passes ≤ 64
    pub alone : (entries : List (Entry K)) × (seat.note.granted ≡ record { pass = number; entries = entries } ∷ [])
    pub held : IsHeld has seat.note

  -- what holds of every host, with n passes that aren't handed out: its seat is of its lock and has nothing out, and
  -- its note has their numbers with no entry, and those of the passes that came back
  pub record IsHost (seat : Seat (PoolTag G) (Note K T) (Shared K T)) (lock : TableId) (next n : ℕ) : Type 0 where
    pub own : seat.table ≡ lock
    pub idle : seat.out ≡ None
    pub passes : seat.tag.passes ≤ 64
    pub holds : IsIdle seat.note
    pub left : next + n ≡ seat.tag.passes
    pub numbers : (back : List (Grants K)) × (seat.note.granted ≡ fresh next n ++ back)

-- a pass that was handed out
abbrev pub handed_out : {G K T : Type 0} → HostSeen G K T → PassSeen G K T
handed_out host = record {
  table = host.table;
  tag = host.tag;
  number = host.next;
  note = record
      { pin = None; loading = None; granted = record { pass = host.next; entries = [] } ∷ []; busies = 0 };
  last = None;
  gave = None;
}

-- the first note of a host
abbrev pub first_note : {K T : Type 0} → ℕ → Note K T
first_note passes = record { pin = None; loading = None; granted = fresh 0 passes; busies = 0 }

-- the note of a pass with the first number of a note, and the note without that number
abbrev pub one_number : {K T : Type 0} → Note K T → Note K T
one_number n = record { pin = None; loading = None; granted = take 1 n.granted; busies = 0 }

abbrev pub other_numbers : {K T : Type 0} → Note K T → Note K T
other_numbers n = record { pin = n.pin; loading = n.loading; granted = drop 1 n.granted; busies = n.busies }
