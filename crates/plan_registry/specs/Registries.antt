-- A registry of the walks of plans, and what an attach leaves of it. This project's own.
use Rattle.std.specs.Prelude.{◌≡◌, ◌≢◌, ◌⊎◌, ℕ, ◌-◌, ◌≤◌, List, [], ◌∷◌, ◌++◌, length, take, All, AllPairs}
use Rattle.std.specs.Prelude.{Option, Some, Result, Ok, Err, false}
use Rattle.std.specs.Map.{keys_of}
use Rattle.std.specs.declared.alloc.AllocError.{AllocError}
use Rattle.lru.specs.LruCache.{LruCache}
use Rattle.atomic_table.specs.Seated.{TableId}
use Rattle.implicit_tiling.specs.Region.{Plan}
use Rattle.published_prefix.specs.Seats.{Seat, newcomer, informed}
use Rattle.plan_registry.specs.declared.looked.Looked.{Looked}
use Rattle.plan_registry.specs.declared.looked.Looked.TheVariants.{There, Absent, Memory}

-- for how many plans there is room
abbrev pub most_plans : ℕ
most_plans = 64

-- A seat on the walk of a plan. Walks differ by the tables of their seats
pub record CursorSeen (G : Type 0) : Type 0 where
  pub plan : Plan
  pub seat : Seat G

-- the walks by their plans, the plan last asked for first
abbrev pub Walks : Type 0 → Type 0
Walks G = LruCache Plan (CursorSeen G)

-- the whole list has x where the other list has nothing, and else they are the same
abbrev pub HasAmong : {X : Type 0} → X → List X → List X → Type 0
HasAmong {X} x without whole = (before : List X) × (after : List X) × (without ≡ before ++ after)
    × (whole ≡ before ++ x ∷ after)

module _ {G : Type 0} where
  abbrev pub cursor_on : Plan → Seat G → CursorSeen G
  cursor_on plan seat = record { plan = plan; seat = seat }

  -- no walk is that of the plan
  abbrev pub HasNone : Plan → Walks G → Type 0
  HasNone plan walks = All (λ p. p ≢ plan) (keys_of walks.entries)

  -- The plan was there. It has come to the front, all others keep their order, and the cursor is a new seat on its
  -- walk
  pub record HasFound (plan : Plan) (last gave : Walks G) (cursor : CursorSeen G) : Type 0 where
    pub walk : CursorSeen G
    pub others : List (Plan × CursorSeen G)
    pub was : HasAmong (plan, walk) others last.entries
    pub is : gave.entries ≡ (plan, walk) ∷ others
    pub on_it : cursor ≡ cursor_on plan (informed walk.seat)

  -- the cursor is on a walk of the plan with no step, by a seat that has done nothing
  abbrev pub IsNew : G → Plan → CursorSeen G → Type 0
  IsNew tag plan cursor = (table : TableId) × (capacity : ℕ)
      × (cursor ≡ cursor_on plan (newcomer table tag capacity))

  -- The plan wasn't there. A walk with no step has come to the front, all others keep their order, and the last one has
  -- left if there was no room. The cursor is on the new walk, as new as the seat that stays in front
  pub record HasAdded (tag : G) (plan : Plan) (last gave : Walks G) (cursor : CursorSeen G) : Type 0 where
    pub absent : HasNone plan last
    pub is_new : IsNew tag plan cursor
    pub is : gave.entries ≡ (plan, cursor) ∷ take (most_plans - 1) last.entries

  -- what one look for a plan leaves, by what it answers
  abbrev pub HasLooked : Plan → Walks G → Walks G → Looked (CursorSeen G) → Type 0
  HasLooked plan taken given (There cursor) = HasFound plan taken given cursor
  HasLooked plan taken given Absent = (given ≡ taken) × HasNone plan taken
  HasLooked plan taken given Memory = given ≡ taken

  -- what is left after a new walk was to be put in
  abbrev pub HasPut : G → Plan → Walks G → Walks G → Result (CursorSeen G) AllocError → Type 0
  HasPut tag plan taken given (Ok cursor) = HasFound plan taken given cursor ⊎ HasAdded tag plan taken given cursor
  HasPut tag plan taken given (Err error) = given ≡ taken

  -- each walk is that of its plan
  abbrev pub IsByPlan : Walks G → Type 0
  IsByPlan walks = All (λ (e : Plan × CursorSeen G). e.1.plan ≡ e.0) walks.entries

  module _ {S : Type 0} (tag_of : S → Plan → G) (scene : S) where
    -- the cursor is on the walk of the plan in the scene, and its seat doesn't have the work
    abbrev pub IsOn : Plan → CursorSeen G → Type 0
    IsOn plan cursor = (cursor.plan ≡ plan) × (cursor.seat.tag ≡ tag_of scene plan) × (cursor.seat.has_work ≡ false)

    -- There is room for 64 plans, no plan is there twice, and each has the walk of the plan in the scene
    pub record IsRegistry (walks : Walks G) : Type 0 where
      pub room : walks.cap ≡ most_plans
      pub few : length walks.entries ≤ most_plans
      pub apart : AllPairs (λ p q. p ≢ q) (keys_of walks.entries)
      pub on_plans : All (λ (e : Plan × CursorSeen G). IsOn e.0 e.1) walks.entries

    -- what an attach leaves, which took the first registry last and gave the second one
    pub record HasAttached (plan : Plan) (last gave : Option (Walks G)) (cursor : CursorSeen G) : Type 0 where
      pub taken : Walks G
      pub given : Walks G
      pub last_is : last ≡ Some taken
      pub gave_is : gave ≡ Some given
      pub fits : IsRegistry taken × IsRegistry given
      pub on_plan : IsOn plan cursor
      pub made : HasFound plan taken given cursor ⊎ HasAdded (tag_of scene plan) plan taken given cursor

    -- the registry was given back as it was taken
    abbrev pub HasKept : Option (Walks G) → Option (Walks G) → Type 0
    HasKept last gave = (walks : Walks G) × (last ≡ Some walks) × (gave ≡ Some walks) × IsRegistry walks

    -- what a look behind the turn leaves, by what it answers
    abbrev pub HasAsked : Plan → Option (Walks G) → Option (Walks G) → Looked (CursorSeen G) → Type 0
    HasAsked plan last gave (There cursor) = HasAttached plan last gave cursor
    HasAsked plan last gave Absent = HasKept last gave
    HasAsked plan last gave Memory = HasKept last gave
