-- A paused walk stays within its bounds from step to step.
use Rattle.std.proofs.Common.{◌≡◌, ℕ, ◌+◌, ◌*◌, ◌≤◌, Bool, true, false, List, length, take, Option, Some, None, refl, sym, ap, subst, ◌∙◌, arith, length-append}
use Rattle.std.specs.Prelude.{nat_lt, ◌==◌, ◌&&◌, not}
use Rattle.std.proofs.lemmas.Bool.{ltb-false, eqb-true}
use Rattle.std.proofs.lemmas.List.{length-take}
use Rattle.implicit_tiling.specs.Answer.{most_tiles}
use Rattle.implicit_tiling.specs.Region.{Region}
use Rattle.implicit_tiling.specs.Scene.{Layout}
use Rattle.implicit_tiling.specs.Subtree.{Subtree}
use Rattle.implicit_tiling.specs.Nodes.{level_words, child_words}
use Rattle.tile_coords.specs.declared.walk_end.WalkEnd.{WalkEnd}
use Rattle.tile_coords.specs.declared.walk_end.WalkEnd.TheVariants.{Partial}
use Rattle.subtree_outcome.specs.declared.outcome.Outcome.{Outcome}
use Rattle.subtree_outcome.specs.declared.outcome.Outcome.TheVariants.{Good, Bad}
use Rattle.region_cursor.specs.Cursor.{Cursor, Fits, IsRootKey, cursor_key, local_level_of, is_last_local}
use Rattle.region_cursor.specs.Moves.{begun, over, level_after, pair_after, moved_on, end_by_key, room, children_if, counted, with_children, made_by, made}
use Rattle.region_cursor.proofs.Joined.{leaves_after}
use Rattle.walk_course.specs.Walk.{Walk, GoesOn, IsPaused, most_roots}
use Rattle.walk_course.specs.Spread.{IsSpread, IsLimited}
use Rattle.walk_course.proofs.Children.{few_children}
use Rattle.walk_course.proofs.Spread.{spread_made, spread_begun}

-- the end tells whether there is a next key
by_key : (key : Option ℕ) → GoesOn (end_by_key key) key
by_key None = refl
by_key (Some key) = refl

by_more : (more : Bool) (words : List ℕ) (c : Cursor) → GoesOn (made_by more words c).end (cursor_key (made_by more words c).after)
by_more true words c = refl
by_more false words c = by_key (cursor_key (moved_on c))

goes_on_made : (c : Cursor) (found : Outcome) → GoesOn (made c found).end (cursor_key (made c found).after)
goes_on_made c (Good st) = by_more (nat_lt (room c) (length (level_words st c.region (local_level_of c)))) (take (room c) (level_words st c.region (local_level_of c))) _
goes_on_made c (Bad number) = refl

-- the roots are few
record HasFew (c : Cursor) : Type 0 where
  pub roots : length c.roots ≤ most_roots
  pub below : length c.next_roots ≤ 8 * c.count

few_over : (c : Cursor) → HasFew (over c)
few_over c = record { roots = omega arith; below = omega arith }

few_level : (at_end last : Bool) (c : Cursor) → HasFew c → c.count ≤ most_tiles → HasFew (level_after at_end last c)
few_level true last c is few = few_over c
few_level false true c is few = record { roots = omega (arith, is.below, few); below = omega arith }
few_level false false c is few = record { roots = is.roots; below = is.below }

few_pair : (more : Bool) (c : Cursor) → HasFew c → c.count ≤ most_tiles → HasFew (pair_after more c)
few_pair true c is few = record { roots = is.roots; below = is.below }
few_pair false c is few = few_level (c.level == c.region.level) (is_last_local c) c is few

few_moved_on : (c : Cursor) → HasFew c → c.count ≤ most_tiles → HasFew (moved_on c)
few_moved_on c is few = few_pair (nat_lt (c.position + 1) (length c.roots)) c is few

-- the roots below, with those of a subtree whose words all found room
few_gained : (last : Bool) (roots children : List ℕ) (count more : ℕ) → length roots ≤ 8 * count → (last ≡ true → length children ≤ 8 * more) → length (children_if last roots children) ≤ 8 * (count + more)
few_gained true roots children count more few gained = omega (arith, few, gained refl, length-append roots children)
few_gained false roots children count more few gained = omega (arith, few)

few_made_by : (c : Cursor) (st : Subtree) (found : List ℕ) (more : Bool) → nat_lt (room c) (length found) ≡ more → found ≡ level_words st c.region (local_level_of c)
    → HasFew c → c.count ≤ most_tiles → 1 ≤ c.subtree_levels → st.levels ≡ c.subtree_levels
    → HasFew (made_by more (take (room c) found) (counted (take (room c) found) (with_children more c (child_words st c.region)))).after
few_made_by c st found true is same few count some levels = few_over (counted (take (room c) found) (with_children true c (child_words st c.region)))
few_made_by c st found false is same few count some levels =
    let all : length found ≤ room c = ltb-false (room c) (length found) is in
    let words = take (room c) found in
    let size : length words ≡ length found = omega (arith, length-take (room c) found, all) in
    let mid = counted words (with_children false c (child_words st c.region)) in
    few_moved_on mid (record {
      roots = few.roots;
      below = few_gained (not false && is_last_local c) c.next_roots (child_words st c.region) c.count (length words) few.below
          (λ last. let here : local_level_of c + 1 ≡ c.subtree_levels = eqb-true (local_level_of c + 1) c.subtree_levels last in
          omega (arith, few_children st c.region (local_level_of c) (levels ∙ sym here), ap length same, size));
    }) (omega (arith, count, size, all))

few_made : (c : Cursor) (found : Outcome) → HasFew c → c.count ≤ most_tiles → 1 ≤ c.subtree_levels → Fits c found → HasFew (made c found).after
few_made c (Good st) few count some fits =
    let all = level_words st c.region (local_level_of c) in
    few_made_by c st all (nat_lt (room c) (length all)) refl refl few count some fits.same_levels
few_made c (Bad number) few count some fits = few_over c

-- one step more
pub stays_within : (w : Walk) (found : Outcome) (words : List ℕ) (end : WalkEnd) (after : Cursor) (key : ℕ) → IsPaused w → 1 ≤ w.state.subtree_levels → w.state.count ≤ most_tiles
    → cursor_key w.state ≡ Some key → IsRootKey w.state key → IsLimited found → Fits w.state found → words ≡ (made w.state found).words → end ≡ (made w.state found).end → after ≡ (made w.state found).after
    → IsPaused (record { state = after; steps = w.steps + 1; end = end })
stays_within w found words end after key is some few_given at root limited fits words_are end_is after_is =
    let few = few_made w.state found (record { roots = is.few_roots; below = is.few_below }) few_given some fits in
    let here : HasFew after = subst HasFew (sym after_is) few in
    let going : GoesOn end (cursor_key after) =
    subst (λ (d : Cursor). GoesOn end (cursor_key d)) (sym after_is) (subst (λ (e : WalkEnd). GoesOn e (cursor_key (made w.state found).after)) (sym end_is) (goes_on_made w.state found)) in
    let leaves = leaves_after w.state after found key words at is.within after_is words_are in
    let lower = leaves.lower (2 * most_roots) (omega (arith, here.roots)) in
    record {
      goes_on = going;
      within = leaves.within;
      few_roots = here.roots;
      few_below = here.below;
      few_steps = omega (arith, is.few_steps, lower);
      spread = subst IsSpread (sym after_is) (spread_made w.state found key is.spread at root fits limited);
    }

-- before the first step
pub begins_within : (layout : Layout) (region : Region) → region.level ≤ 31 → IsPaused (record { state = begun layout region; steps = 0; end = Partial })
begins_within layout region low = record {
  goes_on = refl;
  within = omega arith;
  few_roots = omega arith;
  few_below = omega arith;
  few_steps = omega (arith, low);
  spread = spread_begun layout region;
}
