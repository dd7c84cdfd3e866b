-- The roots of a state from level to level.
use Rattle.std.proofs.Common.{◌≡◌, ℕ, ◌+◌, ◌-◌, ◌%◌, ◌^◌, ◌<◌, ◌≤◌, Bool, true, false, List, [], ◌++◌, Option, Some, None, length, take, refl, sym, ap, subst, ◌∙◌, arith}
use Rattle.std.specs.Prelude.{◌==◌, nat_lt, IfSome, IsSome}
use Rattle.std.specs.List.{All}
use Rattle.std.proofs.lemmas.Nat.{mod_below}
use Rattle.std.proofs.lemmas.Bool.{eqb-true, eqb-false}
use Rattle.std.proofs.lemmas.List.Elements.{All-append, All-same, All-nil}
use Rattle.std.proofs.lemmas.Option.{slice_get_within, get_or_from_slice_get}
use Rattle.implicit_tiling.specs.declared.Scheme.{Scheme}
use Rattle.implicit_tiling.specs.Region.{Region}
use Rattle.implicit_tiling.specs.Subtree.{Subtree, IsSubtree}
use Rattle.implicit_tiling.specs.Code.{word}
use Rattle.implicit_tiling.specs.Nodes.{level_words, child_words}
use Rattle.tile_coords.specs.declared.walk_end.WalkEnd.{WalkEnd}
use Rattle.subtree_outcome.specs.declared.outcome.Outcome.{Outcome}
use Rattle.subtree_outcome.specs.declared.outcome.Outcome.TheVariants.{Bad}
use Rattle.walk_laws.proofs.Segments.{at_start, local_low, local_of}
use Rattle.tile_word.proofs.Tiles.{level_of_word}
use Rattle.region_cursor.specs.Cursor.{Cursor, IsCursor, IsRootAt, IsRootKey, EndsAtKey, FitsSubtree, is_last_local, local_level_of, root_level_of, cursor_key}
use Rattle.region_cursor.specs.Moves.{moved_on, end_by_key, with_children, counted, room, made_by, made_good, made_bad}
use Rattle.region_cursor.proofs.Words.{child_words_are_words}
use Rattle.region_cursor.proofs.Passing.{begins_below}

-- within the subtrees the roots' level stays, and below them it is one subtree lower
pub same_root_level : (l n : ℕ) → 1 ≤ n → (l % n + 1 ≡ n → ⊥) → l + 1 - (l + 1) % n ≡ l - l % n
same_root_level l n some inner =
    let low = mod_below l n some in
    let there : l - l % n + (l % n + 1) ≡ l + 1 = omega (arith, local_low l n) in
    let local : (l + 1) % n ≡ l % n + 1 = ap (λ m. m % n) (sym there) ∙ local_of (l - l % n) (l % n + 1) n (at_start l n some) (omega (arith, low, inner)) in
    omega (arith, local, local_low l n)

pub next_root_level : (l n : ℕ) → 1 ≤ n → l % n + 1 ≡ n → l + 1 - (l + 1) % n ≡ l - l % n + n
next_root_level l n some last = omega (arith, begins_below l n some last, local_low l n)

pub roots_at : (scheme : Scheme) (roots : List ℕ) (l m : ℕ) → l ≡ m → All (IsRootAt scheme l) roots → All (IsRootAt scheme m) roots
roots_at scheme roots l m same are = subst (λ n. All (IsRootAt scheme n) roots) same are

-- the root of the next step
pub key_is_root : (c : Cursor) (key : ℕ) → IsCursor c → cursor_key c ≡ Some key → IsRootKey c key
key_is_root c key is at =
    let h = slice_get_within c.roots c.position key at in
    record {
      root = subst (IsRootAt c.scheme (root_level_of c)) (get_or_from_slice_get c.roots c.position key 0 at) (is.are_roots c.position 0 h);
      below = omega (arith, is.low, is.within);
      at_start = at_start c.level c.subtree_levels is.some_levels;
    }

-- the roots below a subtree that fits
pub children_are_next : (c : Cursor) (st : Subtree) (region : Region) → IsCursor c → FitsSubtree c st → IsSubtree st
    → All (IsRootAt c.scheme (root_level_of c + c.subtree_levels)) (child_words st region)
children_are_next c st region is fits limits =
    let short : 0 < 2 ^ 16 = omega arith in
    let own = level_of_word st.scheme st.root 0 (omega (arith, limits.root_below_cut, limits.few_levels_in_all)) short in
    let key = (key_is_root c (word st.scheme st.root 0) is fits.key).root in
    let level : st.root.level + st.levels ≡ root_level_of c + c.subtree_levels = omega (arith, own, key.at_level, fits.same_levels) in
    subst (λ (e : Scheme). All (IsRootAt e (root_level_of c + c.subtree_levels)) (child_words st region)) fits.same_scheme
    (roots_at st.scheme (child_words st region) (st.root.level + st.levels) (root_level_of c + c.subtree_levels) level (child_words_are_words st region limits))

-- the ends of a step, by its key
fault_at : (c : Cursor) (n : ℕ) (found : Option ℕ) → IsCursor c → cursor_key c ≡ found → IsSome found → EndsAtKey c (Bad n) (made_bad c n).end
fault_at c n None is at some = cc
fault_at c n (Some key) is at some = (subst (IsRootKey c) (sym (get_or_from_slice_get c.roots c.position key 0 at)) (key_is_root c key is at), refl)

pub faulty_ends : (c : Cursor) (n : ℕ) (end : WalkEnd) → IsCursor c → IsSome (cursor_key c) → end ≡ (made_bad c n).end → EndsAtKey c (Bad n) end
faulty_ends c n end is some made = subst (EndsAtKey c (Bad n)) (sym made) (fault_at c n (cursor_key c) is refl some)

by_key : (c : Cursor) (o : Outcome) (next : Option ℕ) → EndsAtKey c o (end_by_key next)
by_key c o None = tt
by_key c o (Some key) = tt

by_more : (c : Cursor) (o : Outcome) (more : Bool) (words : List ℕ) (after : Cursor) → EndsAtKey c o (made_by more words after).end
by_more c o true words after = tt
by_more c o false words after = by_key c o (cursor_key (moved_on after))

pub good_ends : (c : Cursor) (o : Outcome) (st : Subtree) (end : WalkEnd) → end ≡ (made_good c st).end → EndsAtKey c o end
good_ends c o st end made =
    let found = level_words st c.region (local_level_of c) in
    let words = take (room c) found in
    let more = nat_lt (room c) (length found) in
    subst (EndsAtKey c o) (sym made) (by_more c o more words (counted words (with_children more c (child_words st c.region))))

pub found_is_root : (c : Cursor) (found : Option ℕ) → found ≡ cursor_key c → IsCursor c → IfSome found (IsRootKey c)
found_is_root c None same is = tt
found_is_root c (Some key) same is = key_is_root c key is (sym same)

-- the states with more roots found, at the next level of the subtrees, and at the first level of those below, are ones
pub gained : (c : Cursor) (st : Subtree) (next_roots : List ℕ) → IsCursor c → FitsSubtree c st → IsSubtree st → next_roots ≡ c.next_roots ++ child_words st c.region
    → IsCursor (record c { next_roots = next_roots })
gained c st next_roots is fits limits found =
    let P : ℕ → Type 0 = IsRootAt c.scheme (root_level_of c + c.subtree_levels) in
    record {
      some_levels = is.some_levels;
      few_levels = is.few_levels;
      few_contents = is.few_contents;
      low = is.low;
      within = is.within;
      few = is.few;
      are_roots = is.are_roots;
      are_next_roots = All-same P next_roots (c.next_roots ++ child_words st c.region) found
          (All-append P c.next_roots (child_words st c.region) is.are_next_roots (children_are_next c st c.region is fits limits));
    }

pub above_last : (c now : Cursor) → c ≡ now → IsCursor c → (last : Bool) → last ≡ (now.level == now.region.level) → last ≡ false → c.level < c.region.level
above_last c now same is last by off =
    let apart = eqb-false c.level c.region.level (ap (λ (v : Cursor). v.level == v.region.level) same ∙ sym by ∙ off) in
    omega (arith, is.within, apart)

pub one_level_down : (c : Cursor) → IsCursor c → c.level < c.region.level → is_last_local c ≡ false → IsCursor (record c { level = c.level + 1; position = 0 })
one_level_down c is low inner =
    let n = c.subtree_levels in
    let same = same_root_level c.level n is.some_levels (eqb-false (c.level % n + 1) n inner) in
    record {
      some_levels = is.some_levels;
      few_levels = is.few_levels;
      few_contents = is.few_contents;
      low = is.low;
      within = omega arith;
      few = is.few;
      are_roots = roots_at c.scheme c.roots (c.level - c.level % n) (c.level + 1 - (c.level + 1) % n) (sym same) is.are_roots;
      are_next_roots = roots_at c.scheme c.next_roots (c.level - c.level % n + n) (c.level + 1 - (c.level + 1) % n + n) (ap (λ m. m + n) (sym same)) is.are_next_roots;
    }

pub one_subtree_down : (c : Cursor) (roots next_roots : List ℕ) → IsCursor c → c.level < c.region.level → is_last_local c ≡ true → roots ≡ c.next_roots → next_roots ≡ []
    → IsCursor (record c { level = c.level + 1; position = 0; roots = roots; next_roots = next_roots })
one_subtree_down c roots next_roots is low last are none =
    let n = c.subtree_levels in
    let level = next_root_level c.level n is.some_levels (eqb-true (c.level % n + 1) n last) in
    let P : ℕ → Type 0 = IsRootAt c.scheme (c.level + 1 - (c.level + 1) % n + n) in
    record {
      some_levels = is.some_levels;
      few_levels = is.few_levels;
      few_contents = is.few_contents;
      low = is.low;
      within = omega arith;
      few = is.few;
      are_roots = roots_at c.scheme roots (c.level - c.level % n + n) (c.level + 1 - (c.level + 1) % n) (sym level)
          (All-same (IsRootAt c.scheme (c.level - c.level % n + n)) roots c.next_roots are is.are_next_roots);
      are_next_roots = All-same P next_roots [] none (All-nil P);
    }
