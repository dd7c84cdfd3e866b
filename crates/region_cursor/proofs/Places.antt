-- The pair that a walk stands at, and its step.
use Rattle.std.proofs.Common.{◌≡◌, ℕ, suc, ◌+◌, ◌-◌, ◌<◌, ◌≤◌, Bool, true, false, List, [], ◌∷◌, ◌++◌, Option, Some, None, length, get_or, take, drop, map, refl, sym, ap, subst, ◌∙◌, arith, append_assoc}
use Rattle.std.specs.Prelude.{nat_lt, slice_get, IsSomeAnd}
use Rattle.std.specs.List.{flat_map, range_with_len}
use Rattle.std.proofs.lemmas.List.{take_more, map-append, length-map, get_or-map}
use Rattle.std.proofs.lemmas.Option.{slice_get_within, slice_get-get_or}
use Rattle.implicit_tiling.specs.Tile.{Tile, root}
use Rattle.implicit_tiling.specs.Region.{Region}
use Rattle.implicit_tiling.specs.Scene.{Scene}
use Rattle.implicit_tiling.specs.Answer.{most_tiles}
use Rattle.implicit_tiling.specs.Steps.{Pair, pair_of, walk_roots, pairs, segment, pair_fault, last_or_not, StepEnd, Step, step_then, steps, steps_from}
use Rattle.walk_laws.specs.Children.{IsWalkRoot}
use Rattle.walk_laws.specs.Pairs.{level_pairs, pairs_above, tiles_of_pairs, step_on}
use Rattle.walk_laws.proofs.PairLevels.{pairs_at_a_root}
use Rattle.walk_laws.proofs.PairAnswers.{steps_follow_the_pairs}
use Rattle.walk_laws.proofs.WalkRoots.{roots_are_on_the_walk}
use Rattle.region_cursor.specs.Cursor.{Cursor, cursor_key}
use Rattle.region_cursor.specs.Walked.{root_word, pairs_done, IsUnderWay, IsAtBy, IsAt, IsNextKey}
use Rattle.region_cursor.proofs.Lists.{split_at, get_at, length_at}

-- the root of the next step, its pair, and the pairs after it
abbrev pub row : Scene → Region → Cursor → List Tile
row s region c = walk_roots s region c.level

abbrev pub root_here : Scene → Region → Cursor → Tile
root_here s region c = get_or (row s region c) c.position root

abbrev pub pair_here : Scene → Region → Cursor → Pair
pair_here s region c = pair_of c.level (root_here s region c)

abbrev pub later : Scene → Region → ℕ → List Pair
later s region level = flat_map (level_pairs s region) (range_with_len (level + 1) (region.level - level))

abbrev pub rest_here : Scene → Region → Cursor → List Pair
rest_here s region c = map (pair_of c.level) (drop (suc c.position) (row s region c)) ++ later s region c.level

abbrev pub done_here : Scene → Region → Cursor → List Pair
done_here s region c = pairs_done s region c.level c.position

pub pairs_here : (s : Scene) (region : Region) (c : Cursor) → c.level ≤ region.level → c.position < length (row s region c)
    → pairs s region ≡ done_here s region c ++ pair_here s region c ∷ rest_here s region c
pairs_here s region c within h =
    pairs_at_a_root s region c.level (take c.position (row s region c)) (root_here s region c) (drop (suc c.position) (row s region c)) within
    (split_at (row s region c) c.position root h)

-- one pair more
pub done_more : (s : Scene) (region : Region) (c : Cursor) → c.position < length (row s region c)
    → pairs_done s region c.level (c.position + 1) ≡ done_here s region c ++ pair_here s region c ∷ []
done_more s region c h =
    let first = take c.position (row s region c) in
    let above = pairs_above s region c.level in
    ap (λ w. above ++ map (pair_of c.level) w) (take_more (row s region c) c.position root h)
    ∙ ap (λ w. above ++ w) (map-append (pair_of c.level) first (root_here s region c ∷ []))
    ∙ sym (append_assoc above (map (pair_of c.level) first) (pair_here s region c ∷ []))

-- where there is a key, the place is among the roots
pub place_of_key : (s : Scene) (region : Region) (k : ℕ) (c : Cursor) (key : ℕ) → IsUnderWay s region k c → cursor_key c ≡ Some key → c.position < length (row s region c)
place_of_key s region k c key on at =
    omega (arith, slice_get_within c.roots c.position key at, ap length on.roots, length-map (row s region c) (root_word s))

pub key_here : (s : Scene) (region : Region) (k : ℕ) (c : Cursor) → IsUnderWay s region k c → c.position < length (row s region c)
    → cursor_key c ≡ Some (root_word s (root_here s region c))
key_here s region k c on h =
    let there : c.position < length (map (root_word s) (row s region c)) = omega (arith, h, length-map (row s region c) (root_word s)) in
    ap (λ w. slice_get w c.position) on.roots
    ∙ slice_get-get_or (map (root_word s) (row s region c)) c.position 0 there
    ∙ ap {B = Option ℕ} (λ w. Some w) (get_or-map (root_word s) (row s region c) c.position root 0 h)

pub is_under_way : (s : Scene) (region : Region) (k : ℕ) (c : Cursor) (key : ℕ) → IsAt s region k c → cursor_key c ≡ Some key → IsUnderWay s region k c
is_under_way s region k c key is at = subst (λ o. IsAtBy o s region k c) at is

-- the steps from here on
pub steps_here : (s : Scene) (region : Region) (k : ℕ) (c : Cursor) → IsUnderWay s region k c → c.position < length (row s region c)
    → steps s region ≡ map (step_on s region) (done_here s region c) ++ steps_from s region c.count (pair_here s region c ∷ rest_here s region c)
steps_here s region k c on h =
    let done = done_here s region c in
    let few : length (tiles_of_pairs s region done) ≤ most_tiles = omega (arith, on.few, on.count) in
    steps_follow_the_pairs s region done (pair_here s region c) (rest_here s region c) (pairs_here s region c on.within h) on.no_fault few
    ∙ ap (λ n. map (step_on s region) done ++ steps_from s region n (pair_here s region c ∷ rest_here s region c)) (sym on.count)

-- step k is the first of them
pub record IsStep (s : Scene) (region : Region) (k : ℕ) (x : Step) (xs : List Step) : Type 0 where
  pub step : slice_get (steps s region) k ≡ Some x
  pub count : length (steps s region) ≡ k + suc (length xs)

pub step_here : (s : Scene) (region : Region) (k : ℕ) (c : Cursor) (x : Step) (xs : List Step) → IsUnderWay s region k c → c.position < length (row s region c)
    → steps_from s region c.count (pair_here s region c ∷ rest_here s region c) ≡ x ∷ xs → IsStep s region k x xs
step_here s region k c x xs on h first =
    let done = map (step_on s region) (done_here s region c) in
    let parts = steps_here s region k c on h ∙ ap (λ w. done ++ w) first in
    let at : k ≡ length done = omega (arith, on.done, length-map (done_here s region c) (step_on s region)) in
    record { step = get_at (steps s region) done x xs k parts at; count = length_at (steps s region) done x xs k parts at }

-- there is a step for each root
some_step : (r : Tile) (found : Option ℕ) (cut : Bool) (n : ℕ) (tiles : List Tile) (end : StepEnd) (rest : List Step)
    → (x : Step) × ((xs : List Step) × (step_then r found cut n tiles end rest ≡ x ∷ xs))
some_step r (Some n') cut n tiles end rest = (_, ([], refl))
some_step r None true n tiles end rest = (_, ([], refl))
some_step r None false n tiles end rest = (_, (rest, refl))

key_is_next : (s : Scene) (region : Region) (k : ℕ) (c : Cursor) (key : ℕ) → cursor_key c ≡ Some key → IsUnderWay s region k c → IsNextKey s region k (Some key)
key_is_next s region k c key at on =
    let h = place_of_key s region k c key on at in
    let p = pair_here s region c in
    let rest = rest_here s region c in
    let seg = segment s region p in
    let found = some_step p.root (pair_fault s p) (nat_lt most_tiles (c.count + length seg)) c.count seg (last_or_not rest) (steps_from s region (c.count + length seg) rest) in
    let is = step_here s region k c found.0 found.1.0 on h found.1.1 in
    let there : slice_get (pairs s region) k ≡ Some p = get_at (pairs s region) (done_here s region c) p rest k (pairs_here s region c on.within h) on.done in
    let same : key ≡ root_word s p.root = cc (at, key_here s region k c on h) in
    let P : Option Pair → Type 0 = λ o. IsSomeAnd o (λ q. key ≡ root_word s q.root) in
    (omega (arith, is.count), subst P (sym there) same)

next_key_by : (s : Scene) (region : Region) (k : ℕ) (c : Cursor) (found : Option ℕ) → cursor_key c ≡ found → IsAtBy found s region k c → IsNextKey s region k found
next_key_by s region k c None at is = is
next_key_by s region k c (Some key) at is = key_is_next s region k c key at is

pub next_key_is : (s : Scene) (region : Region) (k : ℕ) (c : Cursor) → IsAt s region k c → IsNextKey s region k (cursor_key c)
next_key_is s region k c is = next_key_by s region k c (cursor_key c) refl is

-- the root of the next step is on the walk, and its word is the key's
pub root_is_on_walk : (s : Scene) (region : Region) (c : Cursor) → c.position < length (row s region c) → IsWalkRoot s region c.level (root_here s region c)
root_is_on_walk s region c h = roots_are_on_the_walk s region c.level c.position root h
