-- Available and reached, in the words of the standard.
use Rattle.std.proofs.Common.{◌≡◌, ℕ, zero, suc, ◌%◌, ◌<◌, ◌≤◌, Bool, true, false, refl, sym, ap, subst, ◌∙◌, arith, inl, inr, ◌⊎◌}
use Rattle.std.specs.Prelude.{◌&&◌, ◌||◌, ◌==◌, ◌↔◌, nat_lt, not}
use Rattle.std.proofs.Math.Nat.{zero-mod}
use Rattle.std.proofs.lemmas.Bool.{and_parts, and_from, or_cases, or_left, or_right, eq-eqb, eqb-true, ltb-true, lt-ltb}
use Rattle.implicit_tiling.specs.Tile.{Tile, root, ancestor, parent}
use Rattle.implicit_tiling.specs.Scene.{Layout, Scene}
use Rattle.implicit_tiling.specs.Availability.{local_level, subtree_root, is_subtree_root, tile_bit, child_bit, available_at, is_available, is_reached}
use Rattle.tiling_laws.specs.Available.{IsThere, IsNamed, HasBits}
use Rattle.tiling_laws.proofs.Subtrees.{ancestor_none, ancestor_more, root_of_root, root_of_inner, bit_low, bit_good, child_low, asked_of_root, asked_from}

-- the parts of a test for a subtree root
pub reached_from : (s : Scene) (r : Tile) → is_subtree_root s.layout r ≡ true → nat_lt r.level s.layout.levels ≡ true
    → ((r.level == 0) || (is_available s (parent r) && child_bit s r)) ≡ true → is_reached s r ≡ true
reached_from s r is low above =
    and_from (is_subtree_root s.layout r && nat_lt r.level s.layout.levels) ((r.level == 0) || (is_available s (parent r) && child_bit s r))
    (and_from (is_subtree_root s.layout r) (nat_lt r.level s.layout.levels) is low) above

-- a subtree root below level 0 that is reached
pub reached_says : (s : Scene) (r : Tile) → 0 < r.level → is_reached s r ≡ true → (is_available s (parent r) ≡ true) × (child_bit s r ≡ true)
reached_says s r below h =
    let parts = and_parts (is_subtree_root s.layout r && nat_lt r.level s.layout.levels) ((r.level == 0) || (is_available s (parent r) && child_bit s r)) h in
    elim (or_cases (r.level == 0) (is_available s (parent r) && child_bit s r) parts.1) [
      | inl top ↦ absurd (omega (arith, eqb-true r.level 0 top))
      | inr named ↦ and_parts (is_available s (parent r)) (child_bit s r) named
    ]

-- the parts of a test for a tile below level 0
pub record IsBelow (s : Scene) (n : ℕ) (t : Tile) : Type 0 where
  pub above : available_at s n (parent t) ≡ true
  pub named : (not (is_subtree_root s.layout t) || child_bit s t) ≡ true
  pub bit : tile_bit s t ≡ true

pub available_says : (s : Scene) (n : ℕ) (t : Tile) → available_at s (suc n) t ≡ true → IsBelow s n t
available_says s n t h =
    let parts = and_parts (available_at s n (parent t) && (not (is_subtree_root s.layout t) || child_bit s t)) (tile_bit s t) h in
    let more = and_parts (available_at s n (parent t)) (not (is_subtree_root s.layout t) || child_bit s t) parts.0 in
    record { above = more.0; named = more.1; bit = parts.1 }

pub available_from : (s : Scene) (n : ℕ) (t : Tile) → IsBelow s n t → available_at s (suc n) t ≡ true
available_from s n t h =
    and_from (available_at s n (parent t) && (not (is_subtree_root s.layout t) || child_bit s t)) (tile_bit s t)
    (and_from (available_at s n (parent t)) (not (is_subtree_root s.layout t) || child_bit s t) h.above h.named) h.bit

-- a level's number in another spelling
pub at_own_level : (s : Scene) (n : ℕ) (t : Tile) → t.level ≡ n → available_at s n t ≡ is_available s t
at_own_level s n t level = ap (λ l. available_at s l t) (sym level)

pub top_is_root : (layout : Layout) (t : Tile) → t.level ≡ 0 → is_subtree_root layout t ≡ true
top_is_root layout t level = eq-eqb (local_level layout t) 0 (ap (λ l. l % layout.subtree_levels) level ∙ zero-mod layout.subtree_levels)

-- the subtree of a tile is reached, where its parent is available and a child bit that is asked for is 1
own_root : (s : Scene) (n : ℕ) (t : Tile) (is : Bool) → is_subtree_root s.layout t ≡ is → t.level ≡ suc n → available_at s n (parent t) ≡ true
    → (not (is_subtree_root s.layout t) || child_bit s t) ≡ true → is_reached s (subtree_root s.layout (parent t)) ≡ true → is_reached s (subtree_root s.layout t) ≡ true
own_root s n t true is level above named up =
    let there : is_available s (parent t) ≡ true = sym (at_own_level s n (parent t) (omega arith)) ∙ above in
    let bit = asked_of_root (is_subtree_root s.layout t) (child_bit s t) named is in
    ap (is_reached s) (root_of_root s.layout t is)
    ∙ reached_from s t is (child_low s t bit)
    (or_right (t.level == 0) (is_available s (parent t) && child_bit s t) (and_from (is_available s (parent t)) (child_bit s t) there bit))
own_root s n t false is level above named up = ap (is_reached s) (sym (root_of_inner s.layout t (omega arith) is)) ∙ up

-- the subtree of an available tile is reached
pub available_reached : (s : Scene) (n : ℕ) (t : Tile) → t.level ≡ n → available_at s n t ≡ true → is_reached s (subtree_root s.layout t) ≡ true
available_reached s zero t level h =
    ap (is_reached s) (root_of_root s.layout t (top_is_root s.layout t level))
    ∙ reached_from s t (top_is_root s.layout t level) (bit_low s t h) (or_left (t.level == 0) (is_available s (parent t) && child_bit s t) (eq-eqb t.level 0 level))
available_reached s (suc n) t level h =
    let parts = available_says s n t h in
    own_root s n t (is_subtree_root s.layout t) refl level parts.above parts.named (available_reached s n (parent t) (omega arith) parts.above)

pub own_root_reached : (s : Scene) (n : ℕ) (t : Tile) → t.level ≡ suc n → available_at s n (parent t) ≡ true
    → (not (is_subtree_root s.layout t) || child_bit s t) ≡ true → is_reached s (subtree_root s.layout t) ≡ true
own_root_reached s n t level above named =
    own_root s n t (is_subtree_root s.layout t) refl level above named (available_reached s n (parent t) (omega arith) above)

-- an available tile is there
there_at : (s : Scene) (n : ℕ) (t : Tile) → t.level ≡ n → available_at s n t ≡ true → IsThere s t
there_at s zero t level h = record {
  reached = available_reached s zero t level h;
  no_fault = bit_good s t h;
  bit = h;
  above = inl level;
}
there_at s (suc n) t level h =
    let parts = available_says s n t h in
    record {
      reached = available_reached s (suc n) t level h;
      no_fault = bit_good s t parts.bit;
      bit = parts.bit;
      above = inr (sym (at_own_level s n (parent t) (omega arith)) ∙ parts.above);
    }

parent_there : (s : Scene) (t : Tile) → 0 < t.level → (t.level ≡ 0) ⊎ (is_available s (parent t) ≡ true) → is_available s (parent t) ≡ true
parent_there s t below (inl top) = absurd (omega arith)
parent_there s t below (inr above) = above

from_there : (s : Scene) (n : ℕ) (t : Tile) → t.level ≡ n → IsThere s t → available_at s n t ≡ true
from_there s zero t level h = h.bit
from_there s (suc n) t level h =
    available_from s n t (record {
      above = at_own_level s n (parent t) (omega arith) ∙ parent_there s t (omega arith) h.above;
      named = asked_from (is_subtree_root s.layout t) (child_bit s t)
          (λ is. (reached_says s t (omega arith) (sym (ap (is_reached s) (root_of_root s.layout t is)) ∙ h.reached)).1);
      bit = h.bit;
    })

pub available_as_written : (s : Scene) (t : Tile) → (is_available s t ≡ true) ↔ IsThere s t
available_as_written s t = (there_at s t.level t refl, from_there s t.level t refl)

pub reached_as_written : (s : Scene) (r : Tile) → is_subtree_root s.layout r ≡ true → 0 < r.level → (is_reached s r ≡ true) ↔ IsNamed s r
reached_as_written s r is below = (
  λ h. let named = reached_says s r below h in
      let up = there_at s (parent r).level (parent r) refl named.0 in
      record { reached = up.reached; no_fault = up.no_fault; under = named.0; bit = named.1 },
  λ h. reached_from s r is (child_low s r h.bit)
      (or_right (r.level == 0) (is_available s (parent r) && child_bit s r) (and_from (is_available s (parent r)) (child_bit s r) h.under h.bit)),
)

pub root_is_reached : (s : Scene) → (is_reached s root ≡ true) ↔ (1 ≤ s.layout.levels)
root_is_reached s = (
  λ h. let parts = and_parts (is_subtree_root s.layout root && nat_lt 0 s.layout.levels) ((0 == 0) || (is_available s (parent root) && child_bit s root)) h in
      omega (arith, ltb-true 0 s.layout.levels (and_parts (is_subtree_root s.layout root) (nat_lt 0 s.layout.levels) parts.0).1),
  λ some. reached_from s root (top_is_root s.layout root refl) (lt-ltb 0 s.layout.levels (omega arith)) refl,
)

-- the bits of a tile and of those above it
bits_at : (s : Scene) (n : ℕ) (t : Tile) → t.level ≡ n → available_at s n t ≡ true → (k : ℕ) → k ≤ n → HasBits s (ancestor k t)
bits_at s zero t level h zero le = subst (HasBits s) (sym (ancestor_none t)) (record { own = h; named = λ is below. absurd (omega arith) })
bits_at s zero t level h (suc k) le = absurd (omega arith)
bits_at s (suc n) t level h zero le =
    let parts = available_says s n t h in
    subst (HasBits s) (sym (ancestor_none t)) (record { own = parts.bit; named = λ is below. asked_of_root (is_subtree_root s.layout t) (child_bit s t) parts.named is })
bits_at s (suc n) t level h (suc k) le =
    let up : ancestor k (parent t) ≡ ancestor (suc k) t = ancestor_more k t ∙ ap (λ j. ancestor j t) (omega arith) in
    subst (HasBits s) up (bits_at s n (parent t) (omega arith) (available_says s n t h).above k (omega arith))

from_bits : (s : Scene) (n : ℕ) (t : Tile) → t.level ≡ n → ((k : ℕ) → k ≤ n → HasBits s (ancestor k t)) → available_at s n t ≡ true
from_bits s zero t level h = (subst (HasBits s) (ancestor_none t) (h 0 (omega arith))).own
from_bits s (suc n) t level h =
    let own = subst (HasBits s) (ancestor_none t) (h 0 (omega arith)) in
    let up : (k : ℕ) → ancestor (suc k) t ≡ ancestor k (parent t) = λ k. sym (ancestor_more k t ∙ ap (λ j. ancestor j t) (omega arith)) in
    available_from s n t (record {
      above = from_bits s n (parent t) (omega arith) (λ k le. subst (HasBits s) (up k) (h (suc k) (omega arith)));
      named = asked_from (is_subtree_root s.layout t) (child_bit s t) (λ is. own.named is (omega arith));
      bit = own.own;
    })

pub available_by_bits : (s : Scene) (t : Tile) → (is_available s t ≡ true) ↔ ((k : ℕ) → k ≤ t.level → HasBits s (ancestor k t))
available_by_bits s t = (bits_at s t.level t refl, from_bits s t.level t refl)
