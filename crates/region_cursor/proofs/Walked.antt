-- A step from an outcome of a scene is the step of the walk over the scene.
use Rattle.std.proofs.Common.{◌≡◌, ℕ, ◌+◌, ◌-◌, ◌%◌, ◌^◌, ◌<◌, ◌≤◌, Bool, true, false, List, [], ◌∷◌, ◌++◌, Option, Some, None, length, get_or, take, map, refl, sym, ap, subst, ◌∙◌, arith, append-nil, length-append, inl, inr}
use Rattle.std.specs.Prelude.{◌&&◌, nat_lt, slice_index, IsSome, IsSomeAnd}
use Rattle.std.specs.List.{flat_map, range_with_len, Contains}
use Rattle.std.proofs.lemmas.Nat.{mod_below}
use Rattle.std.proofs.lemmas.Bool.{and_parts, ltb-true, ltb-false, lt-ltb, le-ltb, eqb-true, cases_eq}
use Rattle.std.proofs.lemmas.List.{take_more, take_all, take-map, map-append, length-map, get_or-map}
use Rattle.std.proofs.lemmas.List.Elements.{All-push, All-same, All-nil, All-contains, Contains-get_or, Contains-append_left, Contains-append_right}
use Rattle.std.proofs.lemmas.Grind.{flat_map-append}
use Rattle.std.proofs.lemmas.Option.{get_or_from_slice_get}
use Rattle.implicit_tiling.specs.declared.Scheme.{Scheme}
use Rattle.implicit_tiling.specs.Limits.{most_levels}
use Rattle.implicit_tiling.specs.Tile.{Tile, root}
use Rattle.implicit_tiling.specs.Region.{Region, Plan}
use Rattle.implicit_tiling.specs.Scene.{Layout, Scene, good, bad, fault_of}
use Rattle.implicit_tiling.specs.Availability.{local_level, is_subtree_root, is_reached}
use Rattle.implicit_tiling.specs.Answer.{most_tiles, too_many, fault}
use Rattle.implicit_tiling.specs.Subtree.{Subtree, IsSubtree, IsOf, bits_of}
use Rattle.implicit_tiling.specs.Code.{word, word_tile, tile_word}
use Rattle.implicit_tiling.specs.Nodes.{level_words, child_words}
use Rattle.implicit_tiling.specs.Steps.{pair_of, walk_roots, segment, pair_fault, last_or_not, ended, Step, step_then, steps, steps_from}
use Rattle.tile_coords.specs.Ends.{end_seen}
use Rattle.tile_coords.specs.declared.walk_end.WalkEnd.{WalkEnd}
use Rattle.tile_coords.specs.declared.walk_end.WalkEnd.TheVariants.{TooMany, Fault}
use Rattle.tile_word.specs.Words.{HasWord}
use Rattle.tile_word.proofs.Tiles.{tile_of_word}
use Rattle.walk_laws.specs.Regions.{IsRegion}
use Rattle.walk_laws.specs.Children.{roots_below}
use Rattle.walk_laws.specs.Decoded.{IsDecoded}
use Rattle.walk_laws.specs.Pairs.{level_pairs, pairs_above, tiles_of_pairs}
use Rattle.walk_laws.proofs.Segments.{local_low}
use Rattle.walk_laws.proofs.Decoded.{node_words}
use Rattle.walk_laws.proofs.Regions.{roots_begin_at_the_root, accepted_is_a_region}
use Rattle.walk_laws.proofs.WalkRoots.{child_words_are_root_words}
use Rattle.walk_laws.proofs.Pairs.{pairs_more, pairs_go_down, roots_of_inner_levels, fault_at_own_level, no_fault_of_good}
use Rattle.subtree_outcome.specs.declared.outcome.Outcome.{Outcome}
use Rattle.subtree_outcome.specs.declared.outcome.Outcome.TheVariants.{Good, Bad}
use Rattle.region_cursor.specs.Cursor.{Cursor, local_level_of, is_last_local, cursor_key, next_root, FitsSubtree, Fits}
use Rattle.walk_laws.specs.Plans.{FitsLayout}
use Rattle.region_cursor.specs.Moves.{begun, over, moved_on, end_by_key, Made, went_on, children_if, with_children, counted, room, made_by, made_good, made_bad, made}
use Rattle.subtree_outcome.specs.Outcomes.{outcome_seen, HasNoOrphans}
use Rattle.region_cursor.specs.Walked.{root_word, pairs_done, found_below, IsUnderWay, IsAt, GivesStep}
use Rattle.region_cursor.proofs.Places.{row, root_here, pair_here, rest_here, done_here, done_more, place_of_key, key_here, is_under_way, IsStep, step_here, root_is_on_walk}
use Rattle.region_cursor.proofs.Passing.{nothing_below, Counted, to_next}

-- what is to be shown of a step
pub record MakesStep (s : Scene) (region : Region) (k : ℕ) (m : Made) : Type 0 where
  pub given : GivesStep s region k m.words m.end
  pub after : IsAt s region (k + 1) m.after

gives : (s : Scene) (region : Region) (k : ℕ) (words : List ℕ) (end : WalkEnd) (x : Step) (xs : List Step) → IsStep s region k x xs
    → words ≡ map (tile_word s) x.tiles → end_seen s.layout.scheme end ≡ x.end → GivesStep s region k words end
gives s region k words end x xs is tiles ends =
    let P : Option Step → Type 0 = λ o. IsSomeAnd o (λ step. (words ≡ map (tile_word s) step.tiles) × (end_seen s.layout.scheme end ≡ step.end)) in
    subst P (sym is.step) (tiles, ends)

abbrev tiles_here : Scene → Region → Cursor → List Tile
tiles_here s region c = segment s region (pair_here s region c)

-- the first of the steps from here, by the fault of its pair and by its tiles
abbrev first_step : Scene → Region → Cursor → Option ℕ → Bool → List Step
first_step s region c found cut =
    let seg = tiles_here s region c in
    step_then (root_here s region c) found cut c.count seg (last_or_not (rest_here s region c)) (steps_from s region (c.count + length seg) (rest_here s region c))

step_by : (s : Scene) (region : Region) (k : ℕ) (c : Cursor) (found : Option ℕ) (cut : Bool) (x : Step) (xs : List Step) → IsUnderWay s region k c → c.position < length (row s region c)
    → pair_fault s (pair_here s region c) ≡ found → nat_lt most_tiles (c.count + length (tiles_here s region c)) ≡ cut → first_step s region c found cut ≡ x ∷ xs
    → IsStep s region k x xs
step_by s region k c found cut x xs on h tells many is =
    step_here s region k c x xs on h
    (ap (λ o. first_step s region c o (nat_lt most_tiles (c.count + length (tiles_here s region c)))) tells ∙ ap (first_step s region c found) many ∙ is)

-- a faulty root
makes_fault : (s : Scene) (region : Region) (k : ℕ) (c : Cursor) (n : ℕ) → IsUnderWay s region k c → c.position < length (row s region c)
    → pair_fault s (pair_here s region c) ≡ Some n → word_tile s.layout.scheme (slice_index c.roots c.position) ≡ root_here s region c
    → MakesStep s region k (made_bad c n)
makes_fault s region k c n on h found same =
    let x : Step = record { tiles = []; end = ended (fault (root_here s region c) n) } in
    let is = step_by s region k c (Some n) (nat_lt most_tiles (c.count + length (tiles_here s region c))) x [] on h found refl refl in
    record {
      given = gives s region k [] (Fault (slice_index c.roots c.position) n) x [] is refl (ap (λ (r : Tile). ended (fault r n)) same);
      after = sym is.count;
    }

-- too many tiles
makes_cut : (s : Scene) (region : Region) (k : ℕ) (c c2 : Cursor) (words : List ℕ) → IsUnderWay s region k c → c.position < length (row s region c)
    → pair_fault s (pair_here s region c) ≡ None → most_tiles < c.count + length (tiles_here s region c)
    → words ≡ map (tile_word s) (take (most_tiles - c.count) (tiles_here s region c)) → MakesStep s region k (made_by true words c2)
makes_cut s region k c c2 words on h none many are =
    let x : Step = record { tiles = take (most_tiles - c.count) (tiles_here s region c); end = ended too_many } in
    let is = step_by s region k c None true x [] on h none (lt-ltb most_tiles (c.count + length (tiles_here s region c)) many) refl in
    record { given = gives s region k words TooMany x [] is are refl; after = sym is.count }

-- a step that goes on: its pair is done and counted
counted_here : (s : Scene) (region : Region) (k : ℕ) (c : Cursor) (count : ℕ) (next_roots : List ℕ) → IsUnderWay s region k c → c.position < length (row s region c)
    → pair_fault s (pair_here s region c) ≡ None → count ≡ c.count + length (tiles_here s region c) → count ≤ most_tiles
    → next_roots ≡ map (root_word s) (found_below (is_last_local c) s region (take (c.position + 1) (row s region c)))
    → (rest_here s region c ≡ [] → k + 1 ≡ length (steps s region))
    → Counted s region (k + 1) (record c { count = count; next_roots = next_roots })
counted_here s region k c count next_roots on h none tiles few found ends =
    let done = done_here s region c in
    let p = pair_here s region c in
    let more = done_more s region c h in
    let parts = flat_map-append (segment s region) done (p ∷ []) in
    record {
      place = h;
      on = record {
        of_scene = record {
          same_scheme = on.of_scene.same_scheme;
          same_subtree_levels = on.of_scene.same_subtree_levels;
          same_levels = on.of_scene.same_levels;
          same_contents = on.of_scene.same_contents;
          same_region = on.of_scene.same_region;
          some_levels = on.of_scene.some_levels;
          few_levels = on.of_scene.few_levels;
        };
        within = on.within;
        done = omega (arith, on.done, ap length more, length-append done (p ∷ []));
        no_fault = All-same (λ q. pair_fault s q ≡ None) (pairs_done s region c.level (c.position + 1)) (done ++ p ∷ []) more
            (All-push (λ q. pair_fault s q ≡ None) done p on.no_fault none);
        roots = on.roots;
        next_roots = found;
        count =
            let all : length (tiles_of_pairs s region (pairs_done s region c.level (c.position + 1))) ≡ length (tiles_of_pairs s region done ++ (tiles_here s region c ++ [])) =
            ap (λ w. length (tiles_of_pairs s region w)) more ∙ ap length parts in
            let last : length (tiles_here s region c ++ []) ≡ length (tiles_here s region c) = ap length (append-nil (tiles_here s region c)) in
            omega (arith, tiles, on.count, all, last, length-append (tiles_of_pairs s region done) (tiles_here s region c ++ []));
        few = few;
      };
      ends = ends;
    }

makes_on : (s : Scene) (region : Region) (k : ℕ) (c : Cursor) (words : List ℕ) (count : ℕ) (next_roots : List ℕ) → IsUnderWay s region k c → c.position < length (row s region c)
    → pair_fault s (pair_here s region c) ≡ None → count ≡ c.count + length (tiles_here s region c) → count ≤ most_tiles
    → next_roots ≡ map (root_word s) (found_below (is_last_local c) s region (take (c.position + 1) (row s region c)))
    → words ≡ map (tile_word s) (tiles_here s region c)
    → MakesStep s region k (went_on words (record c { count = count; next_roots = next_roots }))
makes_on s region k c words count next_roots on h none tiles few found are =
    let seg = tiles_here s region c in
    let rest = rest_here s region c in
    let c2 : Cursor = record c { count = count; next_roots = next_roots } in
    let x : Step = record { tiles = seg; end = last_or_not rest } in
    let xs = steps_from s region (c.count + length seg) rest in
    let is = step_by s region k c None false x xs on h none (le-ltb most_tiles (c.count + length seg) (omega (arith, tiles, few))) refl in
    let ends : rest ≡ [] → k + 1 ≡ length (steps s region) = λ nothing. omega (arith, is.count, ap (λ w. length (steps_from s region (c.count + length seg) w)) nothing) in
    let stands = to_next s region (k + 1) c2 (counted_here s region k c count next_roots on h none tiles few found ends) in
    record { given = gives s region k words (end_by_key (cursor_key (moved_on c2))) x xs is are stands.end; after = stands.at }

-- the root of the next step is that of its key's word
root_has_word : (s : Scene) (region : Region) (k : ℕ) (c : Cursor) → IsUnderWay s region k c → c.position < length (row s region c) → HasWord s.layout.scheme (root_here s region c)
root_has_word s region k c on h =
    let r = root_here s region c in
    let is = root_is_on_walk s region c h in
    let parts = and_parts (is_subtree_root s.layout r && nat_lt r.level s.layout.levels) _ is.reached in
    let low = ltb-true r.level s.layout.levels (and_parts (is_subtree_root s.layout r) (nat_lt r.level s.layout.levels) parts.0).1 in
    record { is_tile = is.tile; within = omega (arith, low, on.of_scene.few_levels) }

short : 0 < 2 ^ 16
short = omega arith

root_of_key : (s : Scene) (region : Region) (k : ℕ) (c : Cursor) → IsUnderWay s region k c → c.position < length (row s region c)
    → word_tile s.layout.scheme (slice_index c.roots c.position) ≡ root_here s region c
root_of_key s region k c on h =
    ap (word_tile s.layout.scheme) (get_or_from_slice_get c.roots c.position (root_word s (root_here s region c)) 0 (key_here s region k c on h))
    ∙ tile_of_word s.layout.scheme (root_here s region c) 0 (root_has_word s region k c on h) short

next_root_is : (s : Scene) (region : Region) (k : ℕ) (c : Cursor) → IsUnderWay s region k c → c.position < length (row s region c) → next_root c ≡ root_here s region c
next_root_is s region k c on h =
    ap (λ (e : Scheme). word_tile e (slice_index c.roots c.position)) on.of_scene.same_scheme ∙ root_of_key s region k c on h

-- the roots that are found with those below one more
one_more_found : (last : Bool) (s : Scene) (region : Region) (first : List Tile) (r : Tile) (next_roots children : List ℕ)
    → next_roots ≡ map (root_word s) (found_below last s region first) → children ≡ map (root_word s) (roots_below s region r)
    → children_if last next_roots children ≡ map (root_word s) (found_below last s region (first ++ r ∷ []))
one_more_found true s region first r next_roots children found own =
    let f = roots_below s region in
    ap (λ w. w ++ children) found
    ∙ ap (λ w. map (root_word s) (flat_map f first) ++ w) (own ∙ ap (map (root_word s)) (sym (append-nil (f r))))
    ∙ sym (ap (map (root_word s)) (flat_map-append f first (r ∷ [])) ∙ map-append (root_word s) (flat_map f first) (f r ++ []))
one_more_found false s region first r next_roots children found own = found

found_here : (s : Scene) (region : Region) (k : ℕ) (c : Cursor) (children : List ℕ) → IsUnderWay s region k c → c.position < length (row s region c)
    → children ≡ map (root_word s) (roots_below s region (root_here s region c))
    → children_if (is_last_local c) c.next_roots children ≡ map (root_word s) (found_below (is_last_local c) s region (take (c.position + 1) (row s region c)))
found_here s region k c children on h own =
    one_more_found (is_last_local c) s region (take c.position (row s region c)) (root_here s region c) c.next_roots children on.next_roots own
    ∙ ap (λ w. map (root_word s) (found_below (is_last_local c) s region w)) (sym (take_more (row s region c) c.position root h))

-- the levels of the step
level_here : (s : Scene) (region : Region) (k : ℕ) (c : Cursor) → IsUnderWay s region k c → c.position < length (row s region c)
    → c.level ≡ (root_here s region c).level + local_level_of c
level_here s region k c on h =
    let is = root_is_on_walk s region c h in
    omega (arith, is.level, local_low c.level s.layout.subtree_levels, ap (λ n. c.level % n) on.of_scene.same_subtree_levels)

local_is_low : (s : Scene) (region : Region) (k : ℕ) (c : Cursor) → IsUnderWay s region k c → local_level_of c < s.layout.subtree_levels
local_is_low s region k c on =
    omega (arith, mod_below c.level s.layout.subtree_levels on.of_scene.some_levels, ap (λ n. c.level % n) on.of_scene.same_subtree_levels)

-- a subtree
subtree_root_is : (s : Scene) (region : Region) (k : ℕ) (c : Cursor) (st : Subtree) → IsUnderWay s region k c → c.position < length (row s region c)
    → FitsSubtree c st → IsSubtree st → st.root ≡ root_here s region c
subtree_root_is s region k c st on h fits is =
    let r = root_here s region c in
    let same : word st.scheme st.root 0 ≡ root_word s r = cc (fits.key, key_here s region k c on h) in
    let own : HasWord st.scheme st.root = record { is_tile = is.root_is_tile; within = omega (arith, is.root_below_cut, is.few_levels_in_all) } in
    sym (tile_of_word st.scheme st.root 0 own short)
    ∙ ap (word_tile st.scheme) same
    ∙ ap (λ (e : Scheme). word_tile e (root_word s r)) (fits.same_scheme ∙ on.of_scene.same_scheme)
    ∙ tile_of_word s.layout.scheme r 0 (root_has_word s region k c on h) short

of_layout_here : (s : Scene) (region : Region) (k : ℕ) (c : Cursor) (st : Subtree) → IsUnderWay s region k c → FitsSubtree c st → IsOf s.layout st
of_layout_here s region k c st on fits = record {
  same_scheme = fits.same_scheme ∙ on.of_scene.same_scheme;
  same_levels = fits.same_levels ∙ on.of_scene.same_subtree_levels;
  same_cut = fits.same_cut ∙ on.of_scene.same_levels;
  contents_named = omega (arith, fits.contents_named, on.of_scene.same_contents);
  root_at_start = sym (ap (λ n. st.root.level % n) on.of_scene.same_subtree_levels) ∙ fits.root_at_start;
}

is_decoded : (s : Scene) (region : Region) (k : ℕ) (c : Cursor) (st : Subtree) → IsUnderWay s region k c → c.position < length (row s region c)
    → FitsSubtree c st → HasNoOrphans s → IsSubtree st → good (bits_of st) ≡ s.outcome (next_root c) → IsDecoded s st
is_decoded s region k c st on h fits whole is same =
    let here = subtree_root_is s region k c st on h fits is in
    let of = of_layout_here s region k c st on fits in
    let bits : s.outcome st.root ≡ good (bits_of st) = ap s.outcome (here ∙ sym (next_root_is s region k c on h)) ∙ sym same in
    record {
      within_limits = is;
      of_layout = of;
      no_orphan = whole st of bits;
      same_bits = bits;
      reached = ap (is_reached s) here ∙ (root_is_on_walk s region c h).reached;
    }

record SubtreeHere (s : Scene) (region : Region) (c : Cursor) (st : Subtree) : Type 0 where
  none : pair_fault s (pair_here s region c) ≡ None
  words : level_words st c.region (local_level_of c) ≡ map (tile_word s) (tiles_here s region c)
  children : child_words st c.region ≡ map (root_word s) (roots_below s region (root_here s region c))

subtree_here : (s : Scene) (region : Region) (k : ℕ) (c : Cursor) (st : Subtree) → IsUnderWay s region k c → c.position < length (row s region c)
    → FitsSubtree c st → HasNoOrphans s → IsSubtree st → good (bits_of st) ≡ s.outcome (next_root c) → SubtreeHere s region c st
subtree_here s region k c st on h fits whole is same =
    let here = subtree_root_is s region k c st on h fits is in
    let decoded = is_decoded s region k c st on h fits whole is same in
    let local = local_level_of c in
    let low : local < st.levels = omega (arith, local_is_low s region k c on, fits.same_levels, on.of_scene.same_subtree_levels) in
    let level : st.root.level + local ≡ c.level = omega (arith, level_here s region k c on h, ap (λ (t : Tile). t.level) here) in
    record {
      none = no_fault_of_good s c.level (root_here s region c) (ap fault_of (ap s.outcome (sym here) ∙ decoded.same_bits));
      words =
          ap (λ (e : Region). level_words st e local) on.of_scene.same_region
          ∙ sym (node_words s region st local decoded low)
          ∙ ap (λ l. map (tile_word s) (segment s region (pair_of l st.root))) level
          ∙ ap (λ (r : Tile). map (tile_word s) (segment s region (pair_of c.level r))) here;
      children =
          ap (λ (e : Region). child_words st e) on.of_scene.same_region
          ∙ sym (child_words_are_root_words s region st decoded)
          ∙ ap (λ (r : Tile). map (root_word s) (roots_below s region r)) here;
    }

makes_of : (s : Scene) (region : Region) (k : ℕ) (c : Cursor) (st : Subtree) (more : Bool) → IsUnderWay s region k c → c.position < length (row s region c) → SubtreeHere s region c st
    → nat_lt (room c) (length (level_words st c.region (local_level_of c))) ≡ more
    → MakesStep s region k (made_by more (take (room c) (level_words st c.region (local_level_of c)))
    (counted (take (room c) (level_words st c.region (local_level_of c))) (with_children more c (child_words st c.region))))
makes_of s region k c st true on h is over =
    let found = level_words st c.region (local_level_of c) in
    let seg = tiles_here s region c in
    let size : length found ≡ length seg = ap length is.words ∙ length-map seg (tile_word s) in
    makes_cut s region k c (counted (take (room c) found) (with_children true c (child_words st c.region))) (take (room c) found) on h is.none
    (omega (arith, ltb-true (room c) (length found) over, size, on.few))
    (ap (take (room c)) is.words ∙ take-map (tile_word s) (room c) seg)
makes_of s region k c st false on h is over =
    let found = level_words st c.region (local_level_of c) in
    let seg = tiles_here s region c in
    let children = child_words st c.region in
    let size : length found ≡ length seg = ap length is.words ∙ length-map seg (tile_word s) in
    let few = ltb-false (room c) (length found) over in
    let all : take (room c) found ≡ found = take_all (room c) found few in
    makes_on s region k c (take (room c) found) (c.count + length (take (room c) found)) (children_if (is_last_local c) c.next_roots children) on h is.none
    (omega (arith, ap length all, size)) (omega (arith, ap length all, few, on.few))
    (found_here s region k c children on h is.children)
    (all ∙ is.words)

makes_good : (s : Scene) (region : Region) (k : ℕ) (c : Cursor) (st : Subtree) → IsUnderWay s region k c → c.position < length (row s region c)
    → FitsSubtree c st → HasNoOrphans s → IsSubtree st → good (bits_of st) ≡ s.outcome (next_root c) → MakesStep s region k (made_good c st)
makes_good s region k c st on h fits whole is same =
    makes_of s region k c st (nat_lt (room c) (length (level_words st c.region (local_level_of c)))) on h (subtree_here s region k c st on h fits whole is same) refl

-- below its own level a root on the walk has no faulty file: the pair of that level is done, and told no fault
own_pair_told_none : (s : Scene) (region : Region) (k : ℕ) (c : Cursor) → IsUnderWay s region k c → c.position < length (row s region c) → (local_level_of c ≡ 0 → ⊥)
    → pair_fault s (pair_of (root_here s region c).level (root_here s region c)) ≡ None
own_pair_told_none s region k c on h inner =
    let r = root_here s region c in
    let l = r.level in
    let local = local_level_of c in
    let level = level_here s region k c on h in
    let start = eqb-true (local_level s.layout r) 0 (root_is_on_walk s region c h).starts in
    let roots = walk_roots s region l in
    let more : l + local ≡ c.level = omega (arith, level) in
    let same : roots ≡ row s region c = sym (roots_of_inner_levels s region l local start (local_is_low s region k c on)) ∙ ap (walk_roots s region) more in
    let own = level_pairs s region l in
    let low : c.position < length roots = omega (arith, h, ap length same) in
    let p = get_or own c.position (pair_of l root) in
    let at : Contains own p = Contains-get_or own c.position (pair_of l root) (omega (arith, low, length-map roots (pair_of l))) in
    let down : l + 1 + (local - 1) ≡ c.level = omega (arith, level, inner) in
    let in_own : Contains (pairs_above s region (l + 1)) p = subst (λ ps. Contains ps p) (sym (pairs_go_down s region l)) (Contains-append_right (pairs_above s region l) own p at) in
    let in_above : Contains (pairs_above s region c.level) p =
    subst (λ m. Contains (pairs_above s region m) p) down (subst (λ ps. Contains ps p) (sym (pairs_more s region (l + 1) (local - 1)))
    (Contains-append_left (pairs_above s region (l + 1)) (flat_map (level_pairs s region) (range_with_len (l + 1) (local - 1))) p in_own)) in
    let in_done : Contains (done_here s region c) p = Contains-append_left (pairs_above s region c.level) (map (pair_of c.level) (take c.position (row s region c))) p in_above in
    let is : p ≡ pair_of l r = get_or-map (pair_of l) roots c.position root (pair_of l root) low ∙ ap (λ ts. pair_of l (get_or ts c.position root)) same in
    subst (λ q. pair_fault s q ≡ None) is (All-contains (λ q. pair_fault s q ≡ None) (done_here s region c) p on.no_fault in_done)

-- so a faulty file is met at its root's own level
makes_bad : (s : Scene) (region : Region) (k : ℕ) (c : Cursor) (n : ℕ) → IsUnderWay s region k c → c.position < length (row s region c)
    → s.outcome (root_here s region c) ≡ bad n → MakesStep s region k (made_bad c n)
makes_bad s region k c n on h faulty =
    let r = root_here s region c in
    let told : fault_of (s.outcome r) ≡ Some n = ap fault_of faulty in
    elim (cases_eq (local_level_of c) 0) [
      | inl start ↦ let own : c.level ≡ r.level = omega (arith, level_here s region k c on h, start) in
          makes_fault s region k c n on h (fault_at_own_level s c.level r own ∙ told) (root_of_key s region k c on h)
      | inr inner ↦ let none = own_pair_told_none s region k c on h inner in
          let own = fault_at_own_level s r.level r refl in cc
    ]

-- the limits of an outcome's subtree
abbrev pub HasLimits : Outcome → Type 0
HasLimits (Good st) = IsSubtree st
HasLimits (Bad n) = Unit {0}

makes_by : (s : Scene) (region : Region) (k : ℕ) (c : Cursor) (key : ℕ) (o : Outcome) → IsAt s region k c → cursor_key c ≡ Some key
    → Fits c o → HasNoOrphans s → HasLimits o → outcome_seen o ≡ s.outcome (next_root c) → MakesStep s region k (made c o)
makes_by s region k c key (Good st) is at fits whole limits same =
    let on = is_under_way s region k c key is at in
    makes_good s region k c st on (place_of_key s region k c key on at) fits whole limits same
makes_by s region k c key (Bad n) is at fits whole limits same =
    let on = is_under_way s region k c key is at in
    let h = place_of_key s region k c key on at in
    let faulty = ap s.outcome (sym (next_root_is s region k c on h)) ∙ sym same in
    makes_bad s region k c n on h faulty

-- the step of any state at which there is a key
some_key : (found : Option ℕ) → IsSome found → (key : ℕ) × (found ≡ Some key)
some_key (Some key) is = (key, refl)
some_key None is = cc

pub makes_step : (s : Scene) (region : Region) (k : ℕ) (c : Cursor) (o : Outcome) → IsAt s region k c → IsSome (cursor_key c)
    → Fits c o → HasNoOrphans s → HasLimits o → outcome_seen o ≡ s.outcome (next_root c) → MakesStep s region k (made c o)
makes_step s region k c o is some fits whole limits same =
    let key = some_key (cursor_key c) some in
    makes_by s region k c key.0 o is key.1 fits whole limits same

-- the beginning
pub begins : (s : Scene) (region : Region) → 1 ≤ s.layout.subtree_levels → 1 ≤ s.layout.levels → s.layout.levels ≤ most_levels s.layout.scheme → IsRegion region
    → IsAt s region 0 (begun s.layout region)
begins s region some some_levels few_levels is = record {
  of_scene = record { same_scheme = refl; same_subtree_levels = refl; same_levels = refl; same_contents = refl; same_region = refl; some_levels = some; few_levels = few_levels };
  within = omega arith;
  done = refl;
  no_fault = All-nil (λ q. pair_fault s q ≡ None);
  roots = ap (map (root_word s)) (sym (roots_begin_at_the_root s region some_levels is));
  next_roots = sym (ap (map (root_word s)) (nothing_below (is_last_local (begun s.layout region)) s region));
  count = refl;
  few = omega arith;
}

-- a step as it was made
pub makes_as_given : (s : Scene) (region : Region) (k : ℕ) (c : Cursor) (o : Outcome) (words : List ℕ) (end : WalkEnd) (after : Cursor)
    → words ≡ (made c o).words → end ≡ (made c o).end → after ≡ (made c o).after
    → IsAt s region k c → IsSome (cursor_key c) → Fits c o → HasNoOrphans s → HasLimits o → outcome_seen o ≡ s.outcome (next_root c)
    → GivesStep s region k words end × IsAt s region (k + 1) after
makes_as_given s region k c o words end after words_are end_is after_is is some fits whole limits same =
    let m = makes_step s region k c o is some fits whole limits same in (
      subst (λ w. GivesStep s region k w end) (sym words_are) (subst (λ e. GivesStep s region k (made c o).words e) (sym end_is) m.given),
      subst (λ a. IsAt s region (k + 1) a) (sym after_is) m.after,
    )

pub begins_as_given : (s : Scene) (layout : Layout) (plan : Plan) (c : Cursor) → c ≡ begun layout plan.region → s.layout ≡ layout
    → 1 ≤ layout.subtree_levels → 1 ≤ layout.levels → layout.levels ≤ most_levels layout.scheme → FitsLayout layout plan → IsAt s plan.region 0 c
begins_as_given s layout plan c begin same some some_levels few_levels fits =
    let region = plan.region in
    let is = (accepted_is_a_region layout.levels region.level region.lo region.hi region fits.accepted).0 in
    let own = begins s region (subst (λ (l : Layout). 1 ≤ l.subtree_levels) (sym same) some) (subst (λ (l : Layout). 1 ≤ l.levels) (sym same) some_levels)
    (subst (λ (l : Layout). l.levels ≤ most_levels l.scheme) (sym same) few_levels) is in
    subst (λ a. IsAt s region 0 a) (sym begin) (subst (λ l. IsAt s region 0 (begun l region)) same own)
