-- What contracts see of a seat. This project's own.
use Rattle.std.specs.Prelude.{◌≡◌, ℕ, List, [], ◌∷◌, ◌++◌, Option, Some, None, All}
use Rattle.atomic_table.specs.Seated.{TableId}
use Rattle.turn_lock.specs.declared.view.View.{View}

-- The table that it is a seat of, its tag and note, the values of the turn that its tries found, the value that it has
-- out, if any, and what it took and gave last
pub record Seat (G N T : Type 0) : Type 0 where
  pub table : TableId
  pub tag : G
  pub note : N
  pub tries : List ℕ
  pub out : Option T
  pub last : Option T
  pub gave : Option T

module _ {G N T : Type 0} where
  -- a seat that never tried
  abbrev pub fresh : TableId → G → N → Seat G N T
  fresh table tag note = record {
    table = table;
    tag = tag;
    note = note;
    tries = [];
    out = None;
    last = None;
    gave =
        None;
  }

  -- what is seen of a seat of a table, with what it took and gave last
  abbrev pub seen : TableId → View G N T → Option T → Option T → Seat G N T
  seen table v last gave = record {
    table = table;
    tag = v.tag;
    note = v.note;
    tries = v.tries;
    out = v.out;
    last =
        last;
    gave = gave;
  }

-- more tries than before, each of which found the turn taken but the last, which found it free
abbrev pub AllFrom : List ℕ → List ℕ → Type 0
AllFrom before after = (failed : List ℕ) × (after ≡ (before ++ failed) ++ 0 ∷ []) × All (λ n. n ≡ 1) failed

-- more tries than before, each of which found the turn taken
abbrev pub AllMissed : List ℕ → List ℕ → Type 0
AllMissed before after = (failed : List ℕ) × (after ≡ before ++ failed) × All (λ n. n ≡ 1) failed

-- what a seat has of the slot, which is empty while the value is out
abbrev pub carried_by : {T : Type 0} → Option T → List (ℕ × Option T)
carried_by None = []
carried_by (Some x) = (0, None) ∷ []
