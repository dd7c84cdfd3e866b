-- What contracts see of a seat. This project's own.
use Rattle.std.specs.Prelude.{◌≡◌, ℕ, List, [], ◌∷◌, ◌++◌, Option, Some, None, Bool, true, false}
use Rattle.atomic_table.specs.Seated.{TableId}
use Rattle.published_prefix.specs.Heads.{head}
use Rattle.published_prefix.specs.declared.head.Head.{Head}
use Rattle.tile_coords.specs.declared.walk_end.WalkEnd.{WalkEnd}
use Rattle.tile_coords.specs.declared.walk_end.WalkEnd.TheVariants.{Partial}
use Rattle.published_prefix.specs.declared.view.Turn.{Turn}
use Rattle.published_prefix.specs.declared.view.Turn.TheVariants.{Idle, Claimed, At}
use Rattle.published_prefix.specs.declared.view.View.{View}

-- The table that it is a seat of, its tag, the words that the table has room for, the steps, length and end that it has
-- seen, the heads that it loaded, how many it stored, the values of the turn that its tries found, and whether it has
-- the work
pub record Seat (G : Type 0) : Type 0 where
  pub table : TableId
  pub tag : G
  pub capacity : ℕ
  pub steps : ℕ
  pub length : ℕ
  pub end : WalkEnd
  pub heads : List Head
  pub stores : ℕ
  pub tries : List ℕ
  pub has_work : Bool

-- it has the work between two calls
abbrev pub has_work : Turn → Bool
has_work Idle = false
has_work Claimed = false
has_work (At k n e row high low) = true

-- what a seat has of the turn between two calls: nothing, or the work, with nothing written past the length that it
-- has seen
abbrev pub turn_of : Bool → ℕ → ℕ → WalkEnd → Turn
turn_of false k n e = Idle
turn_of true k n e = At k n e [] None None

-- what a seat has of the slot between calls, which is empty while the work is out
abbrev pub carried_by : {T : Type 0} → Turn → List (ℕ × Option T)
carried_by Idle = []
carried_by Claimed = []
carried_by (At k n e row high low) = (0, None) ∷ []

module _ {G : Type 0} where
  -- the first seat
  abbrev pub newcomer : TableId → G → ℕ → Seat G
  newcomer table tag capacity = record {
    table = table;
    tag = tag;
    capacity = capacity;
    steps = 0;
    length = 0;
    end =
        Partial;
    heads = [];
    stores = 0;
    tries = [];
    has_work = false;
  }

  -- a new seat that has seen as much, and has done nothing yet
  abbrev pub informed : Seat G → Seat G
  informed s = record s { heads = []; stores = 0; tries = []; has_work = false }

  -- one head more was loaded, and this is what is seen
  abbrev pub looked : Seat G → ℕ → ℕ → WalkEnd → Seat G
  looked s steps count end = record s {
    steps = steps;
    length = count;
    end = end;
    heads = s.heads
        ++ head steps count end ∷ [];
  }

  -- what is seen of a seat of a table
  abbrev pub seen : TableId → View G → Seat G
  seen table v = record {
    table = table;
    tag = v.tag;
    capacity = v.capacity;
    steps = v.steps;
    length = v.length;
    end =
        v.end;
    heads = v.heads;
    stores = v.stores;
    tries = v.tries;
    has_work = has_work v.turn;
  }
