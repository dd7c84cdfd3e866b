-- The rule of the published words, and what each kind of step tells. This project's own.
-- Word 0 is the head, word 1 the turn, and the words 2 and 3 are those of a fault. The word at place i stands in the
-- words 2i + 4 and 2i + 5, its higher number first. Slot 0 has the work, or nothing while a seat has it out.
use Rattle.std.specs.Prelude.{◌≡◌, ◌≢◌, ◌⊎◌, ℕ, ◌+◌, ◌*◌, ◌-◌, ◌/◌, ◌%◌, ◌^◌, ◌<◌, ◌≤◌, List, [], ◌∷◌, ◌++◌, length}
use Rattle.std.specs.Prelude.{slice_index, Option, Some, None, true, false}
use mathlib.Core.Option.{some}
use mathlib.Core.Option as maybe
use lib.ListN.{get_elem?}
use Rattle.atomic_table.specs.Table.{State, Me, Step, rest}
use Rattle.tile_coords.specs.declared.walk_end.WalkEnd.{WalkEnd}
use Rattle.tile_coords.specs.declared.walk_end.WalkEnd.TheVariants.{Partial, Fault}
use Rattle.published_prefix.specs.declared.view.Half.{Half}
use Rattle.published_prefix.specs.declared.view.Turn.{Turn}
use Rattle.published_prefix.specs.declared.view.Turn.TheVariants.{Idle, Claimed, At}
use Rattle.published_prefix.specs.declared.view.View.{View}
use Rattle.published_prefix.specs.Heads.{head, head_number, fault_high, fault_low, NoFurther}

-- a word of two numbers as one
abbrev pub joined : ℕ → ℕ → ℕ
joined high low = high * 2 ^ 64 + low

-- the numbers of words, the higher of each first
abbrev pub halves_of : List ℕ → List ℕ
halves_of [] = []
halves_of (word ∷ words) = word / 2 ^ 64 ∷ word % 2 ^ 64 ∷ halves_of words

-- the number, where one was written
abbrev pub Stands : ℕ → Option ℕ → Type 0
Stands word None = Unit {0}
Stands word (Some x) = word ≡ x

-- a word that is being loaded is published, and its second number stands there
abbrev pub HalfStands : List ℕ → ℕ → Option Half → Type 0
HalfStands words count None = Unit {0}
HalfStands words count (Some h) = (h.place < count) × (slice_index words (2 * h.place + 5) ≡ h.low)

module _ {G : Type 0} where
  abbrev pub first_view : G → ℕ → View G
  first_view tag capacity = record {
    tag = tag;
    capacity = capacity;
    steps = 0;
    length = 0;
    end = Partial;
    heads = [];
    stores = 0;
    tries = [];
    half = None;
    turn = Idle;
  }

  -- a new seat that has seen as much
  abbrev pub informed_view : View G → View G
  informed_view v = record v { heads = []; stores = 0; tries = []; half = None; turn = Idle }

  abbrev pub tried : View G → ℕ → Turn → View G
  tried v found turn = record v { tries = v.tries ++ found ∷ []; turn = turn }

  abbrev pub seeing : View G → ℕ → ℕ → WalkEnd → Turn → View G
  seeing v k n e turn = record v { steps = k; length = n; end = e; heads = v.heads ++ head k n e ∷ []; turn = turn }

  abbrev pub storing : View G → ℕ → ℕ → WalkEnd → View G
  storing v k n e = record v { steps = k; length = n; end = e; stores = v.stores + 1; turn = At k n e [] None None }

  abbrev pub with_turn : View G → Turn → View G
  with_turn v turn = record v { turn = turn }

  abbrev pub with_half : View G → Option Half → View G
  with_half v half = record v { half = half }

module _ {G T : Type 0} (capacity : ℕ) (word_at : G → ℕ → ℕ → Type 0) (is_head : G → ℕ → ℕ → WalkEnd
    → Type 0) (fits : G → ℕ → ℕ → WalkEnd → T → Type 0) (tag : G) where
  -- what the seat that has the turn knows
  abbrev pub Holds : List ℕ → List (maybe.Option (Option T)) → ℕ → ℕ → WalkEnd → Turn → Type 0
  Holds words homes k n e Idle = ⊥
  Holds words homes k n e Claimed = (work : T) × (homes ≡ some (Some work) ∷ []) × fits tag k n e work
  Holds words homes k n e (At k' n' e' row high low) =
      (homes ≡ maybe.none ∷ []) × (k' ≡ k) × (n' ≡ n) × (e' ≡ e)
      × ((i : ℕ) → i < length row → slice_index words (2 * n + i + 4) ≡ slice_index row i)
      × Stands (slice_index words 2) high × Stands (slice_index words 3) low

  abbrev pub Free : List ℕ → List (maybe.Option (Option T)) → List (View G) → ℕ → ℕ → WalkEnd → Type 0
  Free words homes views k n e =
      (slice_index words 1 ≡ 0) × ((work : T) × (homes ≡ some (Some work) ∷ []) × fits tag k n e work)
      × ((j : ℕ) (v : View G) → get_elem? views j ≡ some v → v.turn ≡ Idle)

  abbrev pub Taken : List ℕ → List (maybe.Option (Option T)) → List (View G) → ℕ → ℕ → WalkEnd → Type 0
  Taken words homes views k n e =
      (holder : ℕ) × (slice_index words 1 ≡ 1) × (holder < length views)
      × ((j : ℕ) (v : View G) → get_elem? views j ≡ some v → (j ≡ holder → Holds words homes k n e v.turn)
      × (j ≢ holder → v.turn ≡ Idle))

  -- what each seat knows: what it has seen is no further than the head
  pub record Known (words : List ℕ) (k n : ℕ) (e : WalkEnd) (v : View G) : Type 0 where
    pub of_tag : v.tag ≡ tag
    pub of_size : v.capacity ≡ capacity
    pub near : NoFurther v.steps v.length v.end k n e
    pub half : HalfStands words n v.half

  -- What holds between any two steps: the head is one of the course, the words below its length are the course's, the
  -- words of a fault that it tells of stand beside it, no seat has seen more, and the work is at home and goes on from
  -- the head, or exactly one seat has it
  pub record Publishing (s : State (Option T) (View G)) : Type 0 where
    pub wide : length s.words ≡ 2 * capacity + 4
    pub small : capacity ≤ 65536
    pub room : (k n : ℕ) (e : WalkEnd) → is_head tag k n e → n ≤ capacity
    pub steps : ℕ
    pub count : ℕ
    pub end : WalkEnd
    pub has_head : is_head tag steps count end
    pub head_is : slice_index s.words 0 ≡ head_number (head steps count end)
    pub words_are : (i : ℕ) → i < count
        → word_at tag i (joined (slice_index s.words (2 * i + 4)) (slice_index s.words (2 * i + 5)))
    pub fault_is : (root number : ℕ) → end ≡ Fault root number → (slice_index s.words 2 ≡ root / 2 ^ 64 + number)
        × (slice_index s.words 3 ≡ root % 2 ^ 64)
    pub known : (j : ℕ) (v : View G) → get_elem? s.views j ≡ some v → Known s.words steps count end v
    pub turn : Free s.words s.homes s.views steps count end ⊎ Taken s.words s.homes s.views steps count end

abbrev Sat : Type 0 → Type 0 → Type 0
Sat G T = Me (Option T) (View G)

-- the turn after a load of the head
abbrev pub turn_at : Turn → ℕ → ℕ → WalkEnd → Turn
turn_at Idle k n e = Idle
turn_at Claimed k n e = At k n e [] None None
turn_at (At k' n' e' row high low) k n e = At k' n' e' row high low

-- the first load of the head takes the work, and a later one finds the head as it was
abbrev pub Gains : {T : Type 0} → (ℕ → ℕ → WalkEnd → T → Type 0) → ℕ → ℕ → WalkEnd → Turn → List (ℕ × Option T)
    → List (ℕ × Option T) → Type 0
Gains {T} fit k n e Claimed held after = (work : T) × (after ≡ (0, Some work) ∷ held) × fit k n e work
Gains {T} fit k n e Idle held after = after ≡ held
Gains {T} fit k n e (At k' n' e' row high low) held after = (after ≡ held) × (k' ≡ k) × (n' ≡ n) × (e' ≡ e)

-- a number past the length
abbrev pub row_with : Turn → ℕ → Turn
row_with (At k n e row high low) x = At k n e (row ++ x ∷ []) high low
row_with turn x = turn

-- the two numbers of a word past the length
abbrev pub word_with : Turn → ℕ → Turn
word_with turn word = row_with (row_with turn (word / 2 ^ 64)) (word % 2 ^ 64)

abbrev pub fault_high_with : Turn → ℕ → Turn
fault_high_with (At k n e row high low) x = At k n e row (Some x) low
fault_high_with turn x = turn

abbrev pub fault_low_with : Turn → ℕ → Turn
fault_low_with (At k n e row high low) x = At k n e row high (Some x)
fault_low_with turn x = turn

module _ {G T : Type 0} where
  -- a load of the head: it is one of the course, and no nearer than what the seat has seen
  pub record sees (is_head : G → ℕ → ℕ → WalkEnd → Type 0) (fits : G → ℕ → ℕ → WalkEnd → T
      → Type 0) (m : Sat G T) (found : ℕ) (m' : Sat G T) : Type 0 where
    pub steps : ℕ
    pub count : ℕ
    pub end : WalkEnd
    pub number : found ≡ head_number (head steps count end)
    pub has_head : is_head m.0.tag steps count end
    pub near : NoFurther m.0.steps m.0.length m.0.end steps count end
    pub small : m.0.capacity ≤ 65536
    pub room : (k n : ℕ) (e : WalkEnd) → is_head m.0.tag k n e → n ≤ m.0.capacity
    pub view_is : m'.0 ≡ seeing m.0 steps count end (turn_at m.0.turn steps count end)
    pub gains : Gains (fits m.0.tag) steps count end m.0.turn m.1 m'.1

  -- a load of the first number of a published word: the second one stands beside it
  abbrev pub reads_high : (G → ℕ → ℕ → Type 0) → Step (Option T) → Sat G T → ℕ → Sat G T → Type 0
  reads_high word_at st m found m' =
      (place : ℕ) × (low : ℕ) × (st.word ≡ 2 * place + 4) × word_at m.0.tag place (joined found low)
      × (m' ≡ (with_half m.0 (Some record { place = place; low = low }), m.1))

  -- a load of the second number
  abbrev pub reads_low : Sat G T → ℕ → Sat G T → Type 0
  reads_low m found m' = ((h : Half) → m.0.half ≡ Some h → found ≡ h.low) × (m' ≡ (with_half m.0 None, m.1))

  -- a load of a word of the fault that the seat has seen
  abbrev pub reads_fault : (WalkEnd → Option ℕ) → Sat G T → ℕ → Sat G T → Type 0
  reads_fault part m found m' = (m' ≡ m) × ((x : ℕ) → part m.0.end ≡ Some x → found ≡ x)

  -- a try to take the turn
  abbrev pub claims : Sat G T → ℕ → Sat G T → Type 0
  claims m found m' = ((found ≡ 0) × (m' ≡ (tried m.0 found Claimed, m.1)))
      ⊎ ((found ≡ 1) × (m' ≡ (tried m.0 found m.0.turn, m.1)))

  -- a store of another word by the seat that has the turn
  abbrev pub puts : (Turn → ℕ → Turn) → Sat G T → ℕ → Sat G T → Type 0
  puts put m found m' = m' ≡ (with_turn m.0 (put m.0.turn found), m.1)

  -- a store of the head
  abbrev pub publishes : ℕ → ℕ → WalkEnd → Sat G T → Sat G T → Type 0
  publishes k n e m m' = m' ≡ (storing m.0 k n e, m.1)

  -- the end of the turn
  abbrev pub leaves : Sat G T → Sat G T → Type 0
  leaves m m' = m' ≡ (with_turn m.0 Idle, rest m.1)
