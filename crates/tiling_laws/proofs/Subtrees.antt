-- The root of a tile's subtree, and the fault of a file that has a bit which is 1.
use Rattle.std.proofs.Common.{◌≡◌, ℕ, zero, suc, ◌+◌, ◌-◌, ◌*◌, ◌/◌, ◌%◌, ◌<◌, Bool, true, false, None, refl, sym, ap, ◌∙◌, arith, inl, inr}
use Rattle.std.specs.Prelude.{◌||◌, nat_lt, not}
use Rattle.std.proofs.Math.Nat.{div-add-mod, mod-zero}
use Rattle.std.proofs.lemmas.Nat.{mod_below, mod-mul-add}
use Rattle.std.proofs.lemmas.Bool.{false≢true, eqb-true, eqb-false, cases_lt, and_parts}
use Rattle.implicit_tiling.specs.Tile.{Tile, ancestor, parent}
use Rattle.implicit_tiling.specs.Scene.{Layout, Scene, Outcome, good, bad, tile_bit_of, child_bit_of, fault_of}
use Rattle.implicit_tiling.specs.Availability.{local_level, subtree_root, is_subtree_root, place, tile_bit, child_bit}
use Rattle.tiling_laws.proofs.Index.{half}
use Rattle.tiling_laws.proofs.TileAt.{same_tile}
use Rattle.tiling_laws.proofs.Ancestors.{by_one}

pub ancestor_none : (t : Tile) → ancestor 0 t ≡ t
ancestor_none t = same_tile (ancestor 0 t) t (omega arith) (by_one t.x) (by_one t.y) (by_one t.z)

pub ancestor_more : (k : ℕ) (t : Tile) → ancestor k (parent t) ≡ ancestor (k + 1) t
ancestor_more k t = same_tile (ancestor k (parent t)) (ancestor (k + 1) t) (omega arith) (sym (half k t.x)) (sym (half k t.y)) (sym (half k t.z))

-- one more, under a remainder that isn't 0 then
mod_up : (n m : ℕ) → ((n + 1) % m ≡ 0 → ⊥) → n % m + 1 ≡ (n + 1) % m
mod_up n zero not_zero = ap (λ w. w + 1) (mod-zero n) ∙ sym (mod-zero (n + 1))
mod_up n (suc m) not_zero =
    let pos : 0 < suc m = omega arith in
    let parts = div-add-mod n (suc m) in
    let low = mod_below n (suc m) pos in
    elim (cases_lt (n % suc m + 1) (suc m)) [
      | inl below ↦ let count : n + 1 ≡ n / suc m * suc m + (n % suc m + 1) = omega (arith, parts) in
          sym (ap (λ w. w % suc m) count ∙ mod-mul-add (n / suc m) (suc m) (n % suc m + 1) below)
      | inr above ↦ let count : n + 1 ≡ (n / suc m + 1) * suc m + 0 = omega (arith, parts) in
          absurd (not_zero (ap (λ w. w % suc m) count ∙ mod-mul-add (n / suc m + 1) (suc m) 0 pos))
    ]

-- the root of a subtree is the root of its own subtree
pub root_of_root : (layout : Layout) (t : Tile) → is_subtree_root layout t ≡ true → subtree_root layout t ≡ t
root_of_root layout t is = ap (λ k. ancestor k t) (eqb-true (local_level layout t) 0 is) ∙ ancestor_none t

-- another tile is in its parent's subtree
pub root_of_inner : (layout : Layout) (t : Tile) → 0 < t.level → is_subtree_root layout t ≡ false
    → subtree_root layout (parent t) ≡ subtree_root layout t
root_of_inner layout t below inner =
    let up : t.level - 1 + 1 ≡ t.level = omega arith in
    let level : (t.level - 1 + 1) % layout.subtree_levels ≡ t.level % layout.subtree_levels = ap (λ l. l % layout.subtree_levels) up in
    let not_zero = eqb-false (local_level layout t) 0 inner in
    let local : (t.level - 1) % layout.subtree_levels + 1 ≡ t.level % layout.subtree_levels =
    mod_up (t.level - 1) layout.subtree_levels (λ e. not_zero (sym level ∙ e)) ∙ level in
    ancestor_more ((t.level - 1) % layout.subtree_levels) t ∙ ap (λ k. ancestor k t) local

-- a bit that is 1 is that of a file without a fault
pub good_tile_bit : (o : Outcome) (i : ℕ) → tile_bit_of o i ≡ true → fault_of o ≡ None
good_tile_bit (good bits) i h = refl
good_tile_bit (bad n) i h = absurd (false≢true h)

pub good_child_bit : (o : Outcome) (i : ℕ) → child_bit_of o i ≡ true → fault_of o ≡ None
good_child_bit (good bits) i h = refl
good_child_bit (bad n) i h = absurd (false≢true h)

-- what the bits of a tile say
pub bit_low : (s : Scene) (t : Tile) → tile_bit s t ≡ true → nat_lt t.level s.layout.levels ≡ true
bit_low s t h = (and_parts (nat_lt t.level s.layout.levels) (tile_bit_of (s.outcome (subtree_root s.layout t)) (place s.layout t)) h).0

pub bit_good : (s : Scene) (t : Tile) → tile_bit s t ≡ true → fault_of (s.outcome (subtree_root s.layout t)) ≡ None
bit_good s t h =
    good_tile_bit (s.outcome (subtree_root s.layout t)) (place s.layout t)
    (and_parts (nat_lt t.level s.layout.levels) (tile_bit_of (s.outcome (subtree_root s.layout t)) (place s.layout t)) h).1

pub child_low : (s : Scene) (r : Tile) → child_bit s r ≡ true → nat_lt r.level s.layout.levels ≡ true
child_low s r h = (and_parts (nat_lt r.level s.layout.levels) _ h).0

-- a child bit is asked of a subtree root alone
pub asked_of_root : (b c : Bool) → (not b || c) ≡ true → b ≡ true → c ≡ true
asked_of_root true c h is = h
asked_of_root false c h is = absurd (false≢true is)

pub asked_from : (b c : Bool) → (b ≡ true → c ≡ true) → (not b || c) ≡ true
asked_from true c h = h refl
asked_from false c h = refl
