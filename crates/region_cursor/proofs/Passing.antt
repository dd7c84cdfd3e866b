-- From one pair of a walk to the next.
use Rattle.std.proofs.Common.{◌≡◌, ℕ, suc, ◌+◌, ◌-◌, ◌%◌, ◌<◌, ◌≤◌, Bool, true, false, List, [], ◌∷◌, ◌++◌, Some, None, length, get_or, take, drop, map, refl, sym, ap, subst, ◌∙◌, arith, append-nil, length-append}
use Rattle.std.specs.Prelude.{◌==◌, nat_lt, slice_get}
use Rattle.std.specs.List.{flat_map, range_with_len}
use Rattle.std.proofs.Math.Seq.{drop-cons}
use Rattle.std.proofs.Math.ListN.{drop_of_length-le}
use Rattle.std.proofs.lemmas.Nat.{mod_below}
use Rattle.std.proofs.lemmas.Bool.{ltb-true, ltb-false, eqb-true, eqb-false}
use Rattle.std.proofs.lemmas.List.{take_all, length-map, nil_from_length}
use Rattle.std.proofs.lemmas.Option.{slice_get-get_or}
use Rattle.implicit_tiling.specs.Tile.{Tile, root}
use Rattle.implicit_tiling.specs.Region.{Region}
use Rattle.implicit_tiling.specs.Scene.{Scene}
use Rattle.implicit_tiling.specs.Steps.{Pair, pair_of, walk_roots, partial, last_or_not, steps}
use Rattle.tile_coords.specs.Ends.{end_seen}
use Rattle.walk_laws.specs.Children.{roots_below}
use Rattle.walk_laws.specs.Pairs.{level_pairs, pairs_above, NoPairFaults, tiles_of_pairs}
use Rattle.walk_laws.proofs.Segments.{at_start, local_low}
use Rattle.walk_laws.proofs.Children.{roots_go_down, next_level as next_start}
use Rattle.walk_laws.proofs.Pairs.{pairs_go_down, pairs_above_come_first, pairs_end, roots_of_inner_levels}
use Rattle.region_cursor.specs.Cursor.{Cursor, IsWalkOf, cursor_key, is_last_local}
use Rattle.region_cursor.specs.Moves.{over, level_after, pair_after, moved_on, end_by_key}
use Rattle.region_cursor.specs.Walked.{root_word, pairs_done, found_below, IsUnderWay, IsAtBy, IsAt}
use Rattle.region_cursor.proofs.Places.{row, rest_here, later}

-- nothing is below no roots
pub nothing_below : (last : Bool) (s : Scene) (region : Region) → found_below last s region [] ≡ []
nothing_below true s region = refl
nothing_below false s region = refl

-- the pairs that are done where a level is done
all_done : (s : Scene) (region : Region) (level n : ℕ) → length (walk_roots s region level) ≤ n → pairs_done s region level n ≡ pairs_above s region (level + 1)
all_done s region level n many =
    ap (λ w. pairs_above s region level ++ map (pair_of level) w) (take_all n (walk_roots s region level) many) ∙ sym (pairs_go_down s region level)

none_done : (s : Scene) (region : Region) (level : ℕ) → pairs_done s region level 0 ≡ pairs_above s region level
none_done s region level = append-nil (pairs_above s region level)

-- the roots of the next level: those of this one within the subtrees, and those below them after their last level
same_row : (s : Scene) (region : Region) (l : ℕ) → 1 ≤ s.layout.subtree_levels → (l % s.layout.subtree_levels + 1 ≡ s.layout.subtree_levels → ⊥)
    → walk_roots s region (l + 1) ≡ walk_roots s region l
same_row s region l some inner =
    let n = s.layout.subtree_levels in
    let k = l % n in
    let low = mod_below l n some in
    let start = at_start l n some in
    let here : l - k + k ≡ l = omega (arith, local_low l n) in
    let there : l - k + (k + 1) ≡ l + 1 = omega (arith, local_low l n) in
    ap (walk_roots s region) (sym there)
    ∙ roots_of_inner_levels s region (l - k) (k + 1) start (omega (arith, low, inner))
    ∙ sym (roots_of_inner_levels s region (l - k) k start low)
    ∙ ap (walk_roots s region) here

row_below : (s : Scene) (region : Region) (l : ℕ) → 1 ≤ s.layout.subtree_levels → l % s.layout.subtree_levels + 1 ≡ s.layout.subtree_levels
    → walk_roots s region (l + 1) ≡ flat_map (roots_below s region) (walk_roots s region l)
row_below s region l some last =
    let n = s.layout.subtree_levels in
    let k = l % n in
    let low = mod_below l n some in
    let start = at_start l n some in
    let here : l - k + k ≡ l = omega (arith, local_low l n) in
    let there : l - k + n ≡ l + 1 = omega (arith, local_low l n, last) in
    ap (walk_roots s region) (sym there)
    ∙ roots_go_down s region (l - k) some start
    ∙ ap (flat_map (roots_below s region)) (sym (roots_of_inner_levels s region (l - k) k start low) ∙ ap (walk_roots s region) here)

pub begins_below : (l n : ℕ) → 1 ≤ n → l % n + 1 ≡ n → (l + 1) % n ≡ 0
begins_below l n some last =
    let there : l - l % n + n ≡ l + 1 = omega (arith, local_low l n, last) in
    ap (λ m. m % n) (sym there) ∙ next_start (l - l % n) n some (at_start l n some)

-- what is to be shown of the state after a step: where it stands, and that its end is that of the pairs that follow
pub record Stands (s : Scene) (region : Region) (k : ℕ) (rest : List Pair) (c : Cursor) : Type 0 where
  pub at : IsAt s region k c
  pub end : end_seen s.layout.scheme (end_by_key (cursor_key c)) ≡ last_or_not rest

stands_with : (s : Scene) (region : Region) (k : ℕ) (rest : List Pair) (c : Cursor) (key : ℕ) → cursor_key c ≡ Some key → IsUnderWay s region k c → partial ≡ last_or_not rest
    → Stands s region k rest c
stands_with s region k rest c key at on more = record {
  at = subst (λ o. IsAtBy o s region k c) (sym at) on;
  end = ap (λ o. end_seen s.layout.scheme (end_by_key o)) at ∙ more;
}

stands_without : (s : Scene) (region : Region) (k : ℕ) (rest : List Pair) (c : Cursor) → cursor_key c ≡ None → k ≡ length (steps s region) → rest ≡ []
    → Stands s region k rest c
stands_without s region k rest c at all none = record {
  at = subst (λ o. IsAtBy o s region k c) (sym at) all;
  end = ap (λ o. end_seen s.layout.scheme (end_by_key o)) at ∙ ap last_or_not (sym none);
}

-- the key of a state at the first of some roots
first_key : (s : Scene) (c : Cursor) (roots : List Tile) → c.position ≡ 0 → c.roots ≡ map (root_word s) roots → 0 < length roots → (key : ℕ) × (cursor_key c ≡ Some key)
first_key s c roots first are some =
    let there : 0 < length c.roots = omega (arith, ap length are, length-map roots (root_word s), some) in
    (get_or c.roots 0 0, ap (slice_get c.roots) first ∙ slice_get-get_or c.roots 0 0 there)

-- the pairs that follow a level
follow : (s : Scene) (region : Region) (level : ℕ) → level < region.level → 0 < length (walk_roots s region (level + 1)) → partial ≡ last_or_not (later s region level)
follow s region level low some =
    let f = level_pairs s region in
    let roots = walk_roots s region (level + 1) in
    let n = region.level - level - 1 in
    let after = flat_map f (range_with_len (level + 1 + 1) n) in
    let count : region.level - level ≡ suc n = omega arith in
    let parts : roots ≡ get_or roots 0 root ∷ drop 1 roots = drop-cons roots 0 root some in
    sym (ap (λ m. last_or_not (flat_map f (range_with_len (level + 1) m))) count ∙ ap (λ w. last_or_not (map (pair_of (level + 1)) w ++ after)) parts)

-- no pairs follow a level below which no roots are on the walk
none_follow : (s : Scene) (region : Region) (level : ℕ) → 1 ≤ s.layout.subtree_levels → level < region.level → (level + 1) % s.layout.subtree_levels ≡ 0
    → walk_roots s region (level + 1) ≡ [] → later s region level ≡ []
none_follow s region level some low begins none =
    let count : region.level - level ≡ region.level + 1 - (level + 1) = omega arith in
    let all = pairs_end s region (level + 1) some (omega arith) begins none in
    let parts = pairs_above_come_first s region (level + 1) (omega arith) in
    nil_from_length (later s region level)
    (ap (λ m. length (flat_map (level_pairs s region) (range_with_len (level + 1) m))) count
    ∙ omega (arith, ap length all, ap length parts, length-append (pairs_above s region (level + 1)) (flat_map (level_pairs s region) (range_with_len (level + 1) (region.level + 1 - (level + 1))))))

-- a state whose pair is done and counted, but which stands there still
pub record Counted (s : Scene) (region : Region) (k : ℕ) (c : Cursor) : Type 0 where
  pub place : c.position < length (row s region c)
  pub on : IsUnderWay s region k (record c { position = c.position + 1 })
  pub ends : rest_here s region c ≡ [] → k ≡ length (steps s region)

-- the next root of the level
to_next_root : (s : Scene) (region : Region) (k : ℕ) (c : Cursor) → Counted s region k c → c.position + 1 < length c.roots
    → Stands s region k (rest_here s region c) (record c { position = c.position + 1 })
to_next_root s region k c is more =
    let there : suc c.position < length (row s region c) = omega (arith, more, ap length is.on.roots, length-map (row s region c) (root_word s)) in
    let parts = drop-cons (row s region c) (suc c.position) root there in
    stands_with s region k (rest_here s region c) (record c { position = c.position + 1 }) (get_or c.roots (c.position + 1) 0)
    (slice_get-get_or c.roots (c.position + 1) 0 more) is.on
    (sym (ap (λ w. last_or_not (map (pair_of c.level) w ++ later s region c.level)) parts))

-- what is known where the last root of a level is done
record LevelDone (s : Scene) (region : Region) (k : ℕ) (c : Cursor) : Type 0 where
  pub some : 0 < length (row s region c)
  pub of_scene : IsWalkOf s.layout region c
  pub within : c.level ≤ region.level
  pub rest : rest_here s region c ≡ later s region c.level
  pub done : pairs_done s region c.level (c.position + 1) ≡ pairs_above s region (c.level + 1)
  pub all : take (c.position + 1) (row s region c) ≡ row s region c

level_done : (s : Scene) (region : Region) (k : ℕ) (c : Cursor) → Counted s region k c → length c.roots ≤ c.position + 1 → LevelDone s region k c
level_done s region k c is no_more =
    let roots = row s region c in
    let size = length-map roots (root_word s) in
    let many : length roots ≤ c.position + 1 = omega (arith, no_more, ap length is.on.roots, size) in
    record {
      some = omega (arith, is.place);
      of_scene = record {
        same_scheme = is.on.of_scene.same_scheme;
        same_subtree_levels = is.on.of_scene.same_subtree_levels;
        same_levels = is.on.of_scene.same_levels;
        same_contents = is.on.of_scene.same_contents;
        same_region = is.on.of_scene.same_region;
        some_levels = is.on.of_scene.some_levels;
        few_levels = is.on.of_scene.few_levels;
      };
      within = is.on.within;
      rest = ap (λ w. map (pair_of c.level) w ++ later s region c.level) (drop_of_length-le roots {i = suc c.position} (omega (arith, many)));
      done = all_done s region c.level (c.position + 1) many;
      all = take_all (c.position + 1) roots many;
    }

-- a state at the first root of the next level
abbrev at_next : Cursor → List ℕ → List ℕ → Cursor
at_next c roots next_roots = record c { level = c.level + 1; position = 0; roots = roots; next_roots = next_roots }

next_goes_on : (s : Scene) (region : Region) (k : ℕ) (c : Cursor) (roots next_roots : List ℕ) → Counted s region k c → LevelDone s region k c → c.level < region.level
    → roots ≡ map (root_word s) (walk_roots s region (c.level + 1)) → next_roots ≡ [] → IsUnderWay s region k (at_next c roots next_roots)
next_goes_on s region k c roots next_roots is d low are none =
    let same : pairs_done s region c.level (c.position + 1) ≡ pairs_done s region (c.level + 1) 0 = d.done ∙ sym (none_done s region (c.level + 1)) in
    record {
      of_scene = record {
        same_scheme = d.of_scene.same_scheme;
        same_subtree_levels = d.of_scene.same_subtree_levels;
        same_levels = d.of_scene.same_levels;
        same_contents = d.of_scene.same_contents;
        same_region = d.of_scene.same_region;
        some_levels = d.of_scene.some_levels;
        few_levels = d.of_scene.few_levels;
      };
      within = omega (arith, low);
      done = is.on.done ∙ ap length same;
      no_fault = subst (NoPairFaults s) same is.on.no_fault;
      roots = are;
      next_roots = none ∙ sym (ap (map (root_word s)) (nothing_below (is_last_local (at_next c roots next_roots)) s region));
      count = is.on.count ∙ ap (λ w. length (tiles_of_pairs s region w)) same;
      few = is.on.few;
    }

-- the last level of the region, one within the subtrees, and the last one of the subtrees
region_ends : (s : Scene) (region : Region) (k : ℕ) (c : Cursor) → Counted s region k c → LevelDone s region k c → c.level ≡ region.level
    → Stands s region k (rest_here s region c) (over c)
region_ends s region k c is d last =
    let count : region.level - c.level ≡ 0 = omega arith in
    let none = d.rest ∙ ap (λ m. flat_map (level_pairs s region) (range_with_len (c.level + 1) m)) count in
    stands_without s region k (rest_here s region c) (over c) refl (is.ends none) none

within_subtrees : (s : Scene) (region : Region) (k : ℕ) (c : Cursor) → Counted s region k c → LevelDone s region k c → c.level < region.level → is_last_local c ≡ false
    → Stands s region k (rest_here s region c) (record c { level = c.level + 1; position = 0 })
within_subtrees s region k c is d low inner =
    let e : Cursor = record c { level = c.level + 1; position = 0 } in
    let n = s.layout.subtree_levels in
    let not_last : c.level % n + 1 ≡ n → ⊥ = subst (λ m. c.level % m + 1 ≡ m → ⊥) d.of_scene.same_subtree_levels (eqb-false (c.level % c.subtree_levels + 1) c.subtree_levels inner) in
    let same = same_row s region c.level d.of_scene.some_levels not_last in
    let roots : c.roots ≡ map (root_word s) (walk_roots s region (c.level + 1)) = is.on.roots ∙ ap (map (root_word s)) (sym same) in
    let none : c.next_roots ≡ [] = is.on.next_roots ∙ ap (λ b. map (root_word s) (found_below b s region (take (c.position + 1) (row s region c)))) inner in
    let some : 0 < length (walk_roots s region (c.level + 1)) = omega (arith, d.some, ap length same) in
    let on = next_goes_on s region k c c.roots c.next_roots is d low roots none in
    let key = first_key s e (walk_roots s region (c.level + 1)) refl roots some in
    stands_with s region k (rest_here s region c) e key.0 key.1 on (follow s region c.level low some ∙ ap last_or_not (sym d.rest))

-- by the roots below, if there are any
below_of : (s : Scene) (region : Region) (k : ℕ) (c : Cursor) → Counted s region k c → LevelDone s region k c → c.level < region.level
    → c.level % s.layout.subtree_levels + 1 ≡ s.layout.subtree_levels → c.next_roots ≡ map (root_word s) (walk_roots s region (c.level + 1))
    → (below : List Tile) → walk_roots s region (c.level + 1) ≡ below
    → Stands s region k (rest_here s region c) (record c { level = c.level + 1; position = 0; roots = c.next_roots; next_roots = [] })
below_of s region k c is d low ends roots [] are =
    let e : Cursor = record c { level = c.level + 1; position = 0; roots = c.next_roots; next_roots = [] } in
    let begins = begins_below c.level s.layout.subtree_levels d.of_scene.some_levels ends in
    let none = d.rest ∙ none_follow s region c.level d.of_scene.some_levels low begins are in
    let key : cursor_key e ≡ None = ap (λ w. slice_get w 0) (roots ∙ ap (map (root_word s)) are) in
    stands_without s region k (rest_here s region c) e key (is.ends none) none
below_of s region k c is d low ends roots (x ∷ xs) are =
    let e : Cursor = record c { level = c.level + 1; position = 0; roots = c.next_roots; next_roots = [] } in
    let some : 0 < length (walk_roots s region (c.level + 1)) = omega (arith, ap length are) in
    let on = next_goes_on s region k c c.next_roots [] is d low roots refl in
    let key = first_key s e (walk_roots s region (c.level + 1)) refl roots some in
    stands_with s region k (rest_here s region c) e key.0 key.1 on (follow s region c.level low some ∙ ap last_or_not (sym d.rest))

below_subtrees : (s : Scene) (region : Region) (k : ℕ) (c : Cursor) → Counted s region k c → LevelDone s region k c → c.level < region.level → is_last_local c ≡ true
    → Stands s region k (rest_here s region c) (record c { level = c.level + 1; position = 0; roots = c.next_roots; next_roots = [] })
below_subtrees s region k c is d low last =
    let n = s.layout.subtree_levels in
    let ends : c.level % n + 1 ≡ n = subst (λ m. c.level % m + 1 ≡ m) d.of_scene.same_subtree_levels (eqb-true (c.level % c.subtree_levels + 1) c.subtree_levels last) in
    let found = row_below s region c.level d.of_scene.some_levels ends in
    let roots : c.next_roots ≡ map (root_word s) (walk_roots s region (c.level + 1)) =
    is.on.next_roots
    ∙ ap (λ b. map (root_word s) (found_below b s region (take (c.position + 1) (row s region c)))) last
    ∙ ap (λ w. map (root_word s) (flat_map (roots_below s region) w)) d.all
    ∙ ap (map (root_word s)) (sym found) in
    below_of s region k c is d low ends roots (walk_roots s region (c.level + 1)) refl

-- the next level
to_next_level : (s : Scene) (region : Region) (k : ℕ) (c : Cursor) → Counted s region k c → LevelDone s region k c
    → (at_end last : Bool) → (c.level == region.level) ≡ at_end → is_last_local c ≡ last → Stands s region k (rest_here s region c) (level_after at_end last c)
to_next_level s region k c is d true last at_end by = region_ends s region k c is d (eqb-true c.level region.level at_end)
to_next_level s region k c is d false true at_end by = below_subtrees s region k c is d (omega (arith, d.within, eqb-false c.level region.level at_end)) by
to_next_level s region k c is d false false at_end by = within_subtrees s region k c is d (omega (arith, d.within, eqb-false c.level region.level at_end)) by

to_next_pair : (s : Scene) (region : Region) (k : ℕ) (c : Cursor) → Counted s region k c
    → (more : Bool) → nat_lt (c.position + 1) (length c.roots) ≡ more → Stands s region k (rest_here s region c) (pair_after more c)
to_next_pair s region k c is true more = to_next_root s region k c is (ltb-true (c.position + 1) (length c.roots) more)
to_next_pair s region k c is false more =
    let d = level_done s region k c is (ltb-false (c.position + 1) (length c.roots) more) in
    to_next_level s region k c is d (c.level == c.region.level) (is_last_local c) (ap (λ (r : Region). c.level == r.level) (sym d.of_scene.same_region)) refl

-- from a pair that is done and counted to the next one
pub to_next : (s : Scene) (region : Region) (k : ℕ) (c : Cursor) → Counted s region k c → Stands s region k (rest_here s region c) (moved_on c)
to_next s region k c is = to_next_pair s region k c is (nat_lt (c.position + 1) (length c.roots)) refl
