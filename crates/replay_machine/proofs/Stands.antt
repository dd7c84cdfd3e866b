-- Where a pass stands, by what its state has.
use Rattle.std.proofs.Common.{◌≡◌, ◌∙◌, ℕ, Bool, true, false, Option, Some, None, refl, sym, ap}
use Rattle.std.specs.Prelude.{slice_get}
use Rattle.std.proofs.lemmas.Bool.{false≢true, eqb-true, eq-eqb}
use Rattle.std.proofs.lemmas.Option.{none-some, same_Some}
use Rattle.replay_machine.specs.Machine.{Walk, Pass, Machine, Standing, absent, idle, reads, works, is_held_by, by_holding, by_walk, by_cursor, by_pass, standing}
use Rattle.replay_machine.specs.Used.{IsHolder}

-- pass p has this walk, which it holds
pub record AtWork (m : Machine) (p : ℕ) (pass : Pass) (c : ℕ) (walk : Walk) : Type 0 where
  pub there : slice_get m.passes p ≡ Some pass
  pub cursor : pass.cursor ≡ Some c
  pub at : slice_get m.cursors c ≡ Some walk
  pub held : walk.holder ≡ Some p

-- or doesn't hold
pub record AtRest (m : Machine) (p : ℕ) (pass : Pass) (c : ℕ) (walk : Walk) : Type 0 where
  pub there : slice_get m.passes p ≡ Some pass
  pub cursor : pass.cursor ≡ Some c
  pub at : slice_get m.cursors c ≡ Some walk
  pub free : IsHolder m.cursors p pass → ⊥

abbrev pub Stands : Machine → ℕ → Standing → Type 0
Stands m p absent = Unit {0}
Stands m p (idle pass) = (slice_get m.passes p ≡ Some pass) × (IsHolder m.cursors p pass → ⊥)
Stands m p (reads pass c walk) = AtRest m p pass c walk
Stands m p (works pass c walk) = AtWork m p pass c walk

pub held_is : (p : ℕ) (holder : Option ℕ) → is_held_by p holder ≡ true → holder ≡ Some p
held_is p None is = absurd (false≢true is)
held_is p (Some q) is = ap {B = Option ℕ} (λ r. Some r) (sym (eqb-true p q is))

not_held : (p : ℕ) (holder : Option ℕ) → is_held_by p holder ≡ false → holder ≡ Some p → ⊥
not_held p None is e = none-some p e
not_held p (Some q) is e = false≢true (sym is ∙ eq-eqb p q (sym (same_Some q p e)))

-- the walk of a holder's cursor is the holder's
same_walk : (m : Machine) (p : ℕ) (pass : Pass) (c : ℕ) (walk : Walk) → pass.cursor ≡ Some c → slice_get m.cursors c ≡ Some walk → (h : IsHolder m.cursors p pass) → walk ≡ h.walk
same_walk m p pass c walk cursor at h =
    let number : c ≡ h.number = same_Some c h.number (sym cursor ∙ h.cursor) in
    same_Some walk h.walk (sym at ∙ ap (slice_get m.cursors) number ∙ h.at)

by_holding_stands : (m : Machine) (p : ℕ) (pass : Pass) (c : ℕ) (walk : Walk) (b : Bool) → is_held_by p walk.holder ≡ b → slice_get m.passes p ≡ Some pass → pass.cursor ≡ Some c
    → slice_get m.cursors c ≡ Some walk → Stands m p (by_holding b pass c walk)
by_holding_stands m p pass c walk true is there cursor at = record { there = there; cursor = cursor; at = at; held = held_is p walk.holder is }
by_holding_stands m p pass c walk false is there cursor at = record {
  there = there;
  cursor = cursor;
  at = at;
  free = λ (h : IsHolder m.cursors p pass). not_held p walk.holder is (ap (λ (w : Walk). w.holder) (same_walk m p pass c walk cursor at h) ∙ h.held);
}

by_walk_stands : (m : Machine) (p : ℕ) (pass : Pass) (c : ℕ) (found : Option Walk) → slice_get m.cursors c ≡ found → slice_get m.passes p ≡ Some pass → pass.cursor ≡ Some c
    → Stands m p (by_walk p pass c found)
by_walk_stands m p pass c None is there cursor =
    (there, λ (h : IsHolder m.cursors p pass). none-some h.walk (sym is ∙ ap (slice_get m.cursors) (same_Some c h.number (sym cursor ∙ h.cursor)) ∙ h.at))
by_walk_stands m p pass c (Some walk) is there cursor = by_holding_stands m p pass c walk (is_held_by p walk.holder) refl there cursor is

by_cursor_stands : (m : Machine) (p : ℕ) (pass : Pass) (cursor : Option ℕ) → pass.cursor ≡ cursor → slice_get m.passes p ≡ Some pass → Stands m p (by_cursor m.cursors p pass cursor)
by_cursor_stands m p pass None is there = (there, λ (h : IsHolder m.cursors p pass). none-some h.number (sym is ∙ h.cursor))
by_cursor_stands m p pass (Some c) is there = by_walk_stands m p pass c (slice_get m.cursors c) refl there is

by_pass_stands : (m : Machine) (p : ℕ) (found : Option Pass) → slice_get m.passes p ≡ found → Stands m p (by_pass m.cursors p found)
by_pass_stands m p None is = tt
by_pass_stands m p (Some pass) is = by_cursor_stands m p pass pass.cursor refl is

pub stands : (m : Machine) (p : ℕ) → Stands m p (standing m p)
stands m p = by_pass_stands m p (slice_get m.passes p) refl
