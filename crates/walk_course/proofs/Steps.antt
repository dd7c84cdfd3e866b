-- A step of a paused walk is one of its course.
use Rattle.std.proofs.Common.{◌≡◌, ℕ, zero, suc, ◌+◌, ◌<◌, ◌≤◌, Bool, true, false, List, [], ◌∷◌, ◌++◌, length, take, drop, map, Option, Some, None, refl, sym, ap, subst, ◌∙◌, arith, length-append}
use Rattle.std.specs.Prelude.{nat_lt, slice_get, slice_index, IfSome, IsSome, IsSomeAnd}
use Rattle.std.specs.List.{All, flat_map}
use Rattle.std.proofs.Math.Seq.{drop-cons}
use Rattle.std.proofs.Math.ListN.{take-append-drop}
use Rattle.std.proofs.lemmas.List.{take_more, length-map, map-append}
use Rattle.std.proofs.lemmas.Grind.{flat_map-append}
use Rattle.std.proofs.lemmas.Option.{slice_get-get_or, slice_get_within, get_or_from_slice_get}
use Rattle.implicit_tiling.specs.declared.Scheme.{Scheme}
use Rattle.implicit_tiling.specs.Files.{Files}
use Rattle.implicit_tiling.specs.Tile.{Tile}
use Rattle.implicit_tiling.specs.Region.{Region}
use Rattle.implicit_tiling.specs.Scene.{Layout, Scene}
use Rattle.implicit_tiling.specs.Answer.{most_tiles, answer}
use Rattle.implicit_tiling.specs.Code.{tile_word, word_tile, word_level}
use Rattle.implicit_tiling.specs.Nodes.{level_words}
use Rattle.implicit_tiling.specs.Steps.{StepEnd, partial, Step, steps}
use Rattle.implicit_tileset.specs.Scene.{scene_of}
use Rattle.walk_laws.specs.Stepped.{last_end}
use Rattle.walk_laws.proofs.StepLaw.{steps_have_the_tiles}
use Rattle.tile_word.specs.Roots.{IsRootWord}
use Rattle.tile_coords.specs.Ends.{end_seen}
use Rattle.tile_coords.specs.declared.walk_end.WalkEnd.{WalkEnd}
use Rattle.tile_coords.specs.declared.walk_end.WalkEnd.TheVariants.{Partial}
use Rattle.subtree_outcome.specs.declared.outcome.Outcome.{Outcome}
use Rattle.subtree_outcome.specs.declared.outcome.Outcome.TheVariants.{Good, Bad}
use Rattle.subtree_outcome.specs.Outcomes.{outcome_seen, IsOutcomeAt, HasNoOrphans}
use Rattle.subtree_outcome.specs.Found.{IsTileWord, EndsWithin}
use Rattle.subtree_outcome.proofs.Orphans.{files_have_none}
use Rattle.region_cursor.specs.Cursor.{Cursor, cursor_key, next_root, local_level_of, Fits as FitsStep, IsRootKey, IsWalkOf, IsSameWalk}
use Rattle.region_cursor.specs.Moves.{moved_on, end_by_key, room, made_by, made}
use Rattle.region_cursor.specs.Walked.{IsAt, IsNextKey, GivesStep}
use Rattle.region_cursor.proofs.Callers.{walk_stays, next_root_of_key, outcome_fits, words_of_the_layout, key_is}
use Rattle.region_cursor.proofs.Joined.{leaves_after}
use Rattle.walk_course.specs.Spread.{places, IsLimited}
use Rattle.walk_course.proofs.Counting.{few_in}
use Rattle.walk_course.specs.Walk.{Walk, GoesOn, IsPaused, IsReadFor}
use Rattle.walk_course.specs.Course.{IsAnswerWord, IsAfter, IsHead, Fits, IsNextRoot, IsToldFor, MakesStep}
use Rattle.walk_course.specs.declared.tag.WalkTag.{WalkTag}
use Rattle.walk_course.proofs.Bounds.{stays_within}

-- what is so where something is told
pub if_told : {X : Type 0} (told : Option X) (P Q : X → Type 0) → ((x : X) → P x → Q x) → IfSome told P → IfSome told Q
if_told None P Q f p = tt
if_told (Some x) P Q f p = f x p

if_both : {X : Type 0} (told : Option X) (P Q : X → Type 0) → IfSome told P → IfSome told Q → IfSome told (λ x. P x × Q x)
if_both None P Q p q = tt
if_both (Some x) P Q p q = (p, q)

-- the root of the next key
next_root_in : (tag : WalkTag) (k n : ℕ) (e : WalkEnd) (w : Walk) (key : ℕ) → IsRootKey w.state key
    → ((s : Scene) (j : ℕ) → IsAt s w.state.region j w.state → IsNextKey s w.state.region j (Some key)) → Fits tag k n e w → IsNextRoot tag k key
next_root_in tag k n e w key root follow fits = record {
  of_layout = key_is tag.layout tag.region w.state key fits.of_plan root;
  of_steps = if_told tag.told (λ all. IsAt (scene_of all tag.layout) tag.region k w.state) (λ all. IsNextKey (scene_of all tag.layout) tag.region k (Some key))
      (λ all at. let s = scene_of all tag.layout in
      subst (λ (r : Region). IsNextKey s r k (Some key)) fits.of_plan.same_region (follow s k (subst (λ (r : Region). IsAt s r k w.state) (sym fits.of_plan.same_region) at)))
      fits.of_steps;
}

pub next_root_is : (tag : WalkTag) (k n : ℕ) (e : WalkEnd) (w : Walk) (found : Option ℕ) → IfSome found (IsRootKey w.state)
    → ((s : Scene) (j : ℕ) → IsAt s w.state.region j w.state → IsNextKey s w.state.region j found) → Fits tag k n e w → IfSome found (IsNextRoot tag k)
next_root_is tag k n e w None root follow fits = tt
next_root_is tag k n e w (Some key) root follow fits = next_root_in tag k n e w key root follow fits

-- a walk that goes on has a key
none_is_not_some : IsSome {T = ℕ} None → ⊥
none_is_not_some some = cc

with_key : (found : Option ℕ) → IsSome found → (key : ℕ) × (found ≡ Some key)
with_key None some = absurd (none_is_not_some some)
with_key (Some key) some = (key, refl)

pub has_key : (w : Walk) → IsPaused w → w.end ≡ Partial → IsSome (cursor_key w.state)
has_key w is partial_end = subst (λ (e : WalkEnd). GoesOn e (cursor_key w.state)) partial_end is.goes_on

root_of_key : (c : Cursor) (key : ℕ) (found : Option ℕ) → found ≡ cursor_key c → cursor_key c ≡ Some key → IfSome found (IsRootKey c) → IsRootKey c key
root_of_key c key found same at root = subst (λ (o : Option ℕ). IfSome o (IsRootKey c)) (same ∙ at) root

-- what is read for a walk fits its next step
read_at_key : (w : Walk) (found : Outcome) (key : ℕ) → cursor_key w.state ≡ Some key → (read : IsReadFor w found) → IsOutcomeAt read.layout (word_tile read.layout.scheme key) found
read_at_key w found key at read =
    let same : next_root w.state ≡ word_tile read.layout.scheme key =
    next_root_of_key w.state key at ∙ ap (λ (e : Scheme). word_tile e key) read.of_plan.same_scheme in
    subst (λ (t : Tile). IsOutcomeAt read.layout t found) same read.read

fits_with_key : (w : Walk) (found : Outcome) (key : ℕ) → cursor_key w.state ≡ Some key → IsRootKey w.state key → IsReadFor w found → FitsStep w.state found
fits_with_key w found key at root read = outcome_fits read.layout read.region w.state key found read.of_plan at root (read_at_key w found key at read)

pub fits_step : (w : Walk) (found : Outcome) (next : Option ℕ) → next ≡ cursor_key w.state → IfSome next (IsRootKey w.state) → IsSome (cursor_key w.state) → IsReadFor w found → FitsStep w.state found
fits_step w found next same root some read =
    let key = with_key (cursor_key w.state) some in
    fits_with_key w found key.0 key.1 (root_of_key w.state key.0 next same key.1 root) read

-- the end of a step is one of the layout
end_by : (layout : Layout) (found : Option ℕ) → EndsWithin layout (end_by_key found)
end_by layout None = tt
end_by layout (Some key) = tt

end_by_more : (layout : Layout) (more : Bool) (words : List ℕ) (c : Cursor) → EndsWithin layout (made_by more words c).end
end_by_more layout true words c = tt
end_by_more layout false words c = end_by layout (cursor_key (moved_on c))

end_is_of : (layout own : Layout) (region : Region) (c : Cursor) (found : Outcome) (key : ℕ) (t : Tile) → IsWalkOf layout region c → cursor_key c ≡ Some key → IsRootKey c key
    → IsOutcomeAt own t found → EndsWithin layout (made c found).end
end_is_of layout own region c (Good st) key t of_plan at root read =
    end_by_more layout (nat_lt (room c) (length (level_words st c.region (local_level_of c)))) (take (room c) (level_words st c.region (local_level_of c))) _
end_is_of layout own region c (Bad number) key t of_plan at root read =
    record { root = subst (λ w. IsRootWord layout (word_level w) w) (sym (get_or_from_slice_get c.roots c.position key 0 at)) (key_is layout region c key of_plan root); some = read.0; most = read.1 }

-- one step more over a scene
last_of : (e : StepEnd) (xs : List Step) (x : Step) → last_end e (xs ++ x ∷ []) ≡ x.end
last_of e [] x = refl
last_of e (y ∷ ys) x = last_of y.end ys x

abbrev tiles_of : List Step → List Tile
tiles_of done = flat_map (λ step. step.tiles) done

-- a list in the midst of a list
behind : (xs ys : List ℕ) (i : ℕ) → slice_get (xs ++ ys) (length xs + i) ≡ slice_get ys i
behind [] ys i = ap (slice_get ys) (omega arith)
behind (x ∷ xs) ys i =
    let one : suc (length xs) + i ≡ suc (length xs + i) = omega arith in
    ap (slice_get (x ∷ (xs ++ ys))) one ∙ behind xs ys i

before : (xs ys : List ℕ) (i : ℕ) → i < length xs → slice_get (xs ++ ys) i ≡ slice_get xs i
before [] ys i low = absurd (omega (arith, low))
before (x ∷ xs) ys zero low = refl
before (x ∷ xs) ys (suc i) low = before xs ys i (omega (arith, low))

record IsNext (s : Scene) (region : Region) (k n : ℕ) (words : List ℕ) (end : WalkEnd) : Type 0 where
  pub after : IsAfter s region (k + 1) (n + length words) end
  pub words_are : (i : ℕ) → i < length words → IsAnswerWord s region (n + i) (slice_index words i)

next_by : (s : Scene) (region : Region) (k n : ℕ) (words : List ℕ) (end : WalkEnd) (x : Step) → 1 ≤ s.layout.subtree_levels → IsAfter s region k n Partial
    → slice_get (steps s region) k ≡ Some x → words ≡ map (tile_word s) x.tiles → end_seen s.layout.scheme end ≡ x.end → IsNext s region k n words end
next_by s region k n words end x some after at tiles end_is =
    let all = steps s region in
    let low = slice_get_within all k x at in
    let here = get_or_from_slice_get all k x x at in
    let done = take k all in
    let taken : take (k + 1) all ≡ done ++ x ∷ [] = take_more all k x low ∙ ap (λ y. done ++ y ∷ []) here in
    let rest = drop (suc k) all in
    let whole : all ≡ done ++ x ∷ rest =
    sym (take-append-drop k all) ∙ ap (λ w. done ++ w) (drop-cons all k x low ∙ ap (λ y. y ∷ rest) here) in
    let f = tile_word s in
    let parts : map f (answer s region).tiles ≡ map f (tiles_of done) ++ (words ++ map f (tiles_of rest)) =
    ap (map f) (sym (steps_have_the_tiles s region some) ∙ ap tiles_of whole ∙ flat_map-append (λ step. step.tiles) done (x ∷ rest))
    ∙ map-append f (tiles_of done) (x.tiles ++ tiles_of rest)
    ∙ ap (λ w. map f (tiles_of done) ++ w) (map-append f x.tiles (tiles_of rest) ∙ ap (λ w. w ++ map f (tiles_of rest)) (sym tiles)) in
    let size : length (map f (tiles_of done)) ≡ n = omega (arith, length-map (tiles_of done) f, after.count_is) in
    record {
      after = record {
        within = omega (arith, low);
        count_is = omega (
          arith,
          after.count_is,
          ap length tiles,
          length-map x.tiles f,
          ap (λ w. length (tiles_of w)) taken,
          ap length (flat_map-append (λ step. step.tiles) done (x ∷ [])),
          length-append (tiles_of done) (tiles_of (x ∷ [])),
          length-append x.tiles [],
        );
        end_is = end_is ∙ sym (last_of partial done x) ∙ ap (last_end partial) (sym taken);
      };
      words_are = λ i in_words.
          ap (λ w. slice_get w (n + i)) parts
          ∙ ap (λ m. slice_get (map f (tiles_of done) ++ (words ++ map f (tiles_of rest))) (m + i)) (sym size)
          ∙ behind (map f (tiles_of done)) (words ++ map f (tiles_of rest)) i
          ∙ before words (map f (tiles_of rest)) i in_words
          ∙ slice_get-get_or words i 0 in_words;
    }

next_of : (s : Scene) (region : Region) (k n : ℕ) (words : List ℕ) (end : WalkEnd) (here : Option Step) → 1 ≤ s.layout.subtree_levels → IsAfter s region k n Partial
    → slice_get (steps s region) k ≡ here → IsSomeAnd here (λ step. (words ≡ map (tile_word s) step.tiles) × (end_seen s.layout.scheme end ≡ step.end)) → IsNext s region k n words end
next_of s region k n words end None some after at gives = absurd gives
next_of s region k n words end (Some x) some after at gives = next_by s region k n words end x some after at gives.0 gives.1

-- what a step of the state gives
pub record Stepped (c after : Cursor) (found : Outcome) (words : List ℕ) (end : WalkEnd) : Type 0 where
  pub words_are : words ≡ (made c found).words
  pub end_is : end ≡ (made c found).end
  pub after_is : after ≡ (made c found).after
  pub few : c.count + length words ≤ most_tiles
  pub are_words : All (IsTileWord c.scheme c.levels c.contents) words
  pub same : IsSameWalk c after
  pub scene : (s : Scene) (k : ℕ) → HasNoOrphans s → IsAt s c.region k c → outcome_seen found ≡ s.outcome (next_root c)
      → GivesStep s c.region k words end × IsAt s c.region (k + 1) after

-- where files are told: the walk after the step
told_step : (tag : WalkTag) (k n : ℕ) (w : Walk) (found : Outcome) (words : List ℕ) (end : WalkEnd) (after : Cursor) → Stepped w.state after found words end
    → IsHead tag k n Partial → Fits tag k n Partial w → IsToldFor tag w found
    → IfSome tag.told (λ all. IsNext (scene_of all tag.layout) tag.region k n words end × IsAt (scene_of all tag.layout) tag.region (k + 1) after)
told_step tag k n w found words end after stepped head fits told =
    if_told tag.told
    (λ all. IsAfter (scene_of all tag.layout) tag.region k n Partial × (IsAt (scene_of all tag.layout) tag.region k w.state
    × ((scene_of all tag.layout).outcome (next_root w.state) ≡ outcome_seen found)))
    (λ all. IsNext (scene_of all tag.layout) tag.region k n words end × IsAt (scene_of all tag.layout) tag.region (k + 1) after)
    (λ all is. let s = scene_of all tag.layout in
    let region = fits.of_plan.same_region in
    let made_here = stepped.scene s k (files_have_none all tag.layout) (subst (λ (r : Region). IsAt s r k w.state) (sym region) is.1.0) (sym is.1.1) in
    let gives = subst (λ (r : Region). GivesStep s r k words end) region made_here.0 in
    (next_of s tag.region k n words end (slice_get (steps s tag.region) k) fits.of_plan.some_levels is.0 refl gives, subst (λ (r : Region). IsAt s r (k + 1) after) region made_here.1))
    (if_both tag.told _ _ head.of_steps (if_both tag.told _ _ fits.of_steps told))

-- a word of the layout
word_of_layout : (layout : Layout) (region : Region) (c : Cursor) (words : List ℕ) (i : ℕ) → IsWalkOf layout region c → All (IsTileWord c.scheme c.levels c.contents) words → i < length words
    → IsTileWord layout.scheme layout.levels (length layout.contents) (slice_index words i)
word_of_layout layout region c words i of_plan are low = words_of_the_layout layout region c words of_plan are i 0 low

made_with_key : (tag : WalkTag) (k n : ℕ) (w : Walk) (found : Outcome) (words : List ℕ) (end : WalkEnd) (after : Cursor) (key : ℕ) → Stepped w.state after found words end
    → IsPaused (record { state = after; steps = w.steps + 1; end = end }) → cursor_key w.state ≡ Some key → IsRootKey w.state key → w.state.level ≤ w.state.region.level
    → IsReadFor w found → IsHead tag k n Partial → Fits tag k n Partial w → IsToldFor tag w found
    → MakesStep tag k n words end (record { state = after; steps = w.steps + 1; end = end })
made_with_key tag k n w found words end after key stepped paused at root within read head fits told =
    let steps_told = told_step tag k n w found words end after stepped head fits told in
    let next = λ (all : Files). IsNext (scene_of all tag.layout) tag.region k n words end × IsAt (scene_of all tag.layout) tag.region (k + 1) after in
    let leaves = leaves_after w.state after found key words at within stepped.after_is stepped.words_are in
    let end_of = end_is_of tag.layout read.layout tag.region w.state found key (next_root w.state) fits.of_plan at root read.read in
    record {
      words_are = λ i low. record {
        of_layout = word_of_layout tag.layout tag.region w.state words i fits.of_plan stepped.are_words low;
        of_answer = if_told tag.told next (λ all. IsAnswerWord (scene_of all tag.layout) tag.region (n + i) (slice_index words i)) (λ all is. is.0.words_are i low) steps_told;
      };
      head = record {
        few_steps = omega (arith, paused.few_steps, fits.steps_are);
        few_words = omega (arith, stepped.few, fits.count_is);
        in_region = subst (λ (r : Region). n + length words ≤ places r) (stepped.same.same_region ∙ fits.of_plan.same_region)
            (omega (arith, few_in after.region paused.spread.given paused.spread.once paused.spread.in_region, paused.spread.count, leaves.count, fits.count_is));
        of_layout = subst (λ (e : WalkEnd). EndsWithin tag.layout e) (sym stepped.end_is) end_of;
        at_first = λ none. absurd (omega (arith, none));
        of_steps = if_told tag.told next (λ all. IsAfter (scene_of all tag.layout) tag.region (k + 1) (n + length words) end) (λ all is. is.0.after) steps_told;
      };
      fits = record {
        of_plan = walk_stays tag.layout tag.region w.state after fits.of_plan stepped.same;
        steps_are = ap (λ m. m + 1) fits.steps_are;
        count_is = leaves.count ∙ ap (λ m. m + length words) fits.count_is;
        end_is = refl;
        of_steps = if_told tag.told next (λ all. IsAt (scene_of all tag.layout) tag.region (k + 1) after) (λ all is. is.1) steps_told;
      };
    }

-- the walk after a step is within its bounds
pub paused_after : (w : Walk) (found : Outcome) (words : List ℕ) (end : WalkEnd) (after : Cursor) (next : Option ℕ) → next ≡ cursor_key w.state → IfSome next (IsRootKey w.state) → IsPaused w
    → w.end ≡ Partial → IsReadFor w found → IsLimited found → Stepped w.state after found words end → IsPaused (record { state = after; steps = w.steps + 1; end = end })
paused_after w found words end after next same root is going read limited stepped =
    let some = has_key w is going in
    let key = with_key (cursor_key w.state) some in
    let fits = fits_step w found next same root some read in
    let levels : 1 ≤ w.state.subtree_levels = omega (arith, read.of_plan.some_levels, read.of_plan.same_subtree_levels) in
    stays_within w found words end after key.0 is levels (omega (arith, stepped.few)) key.1 (root_of_key w.state key.0 next same key.1 root) limited fits stepped.words_are stepped.end_is stepped.after_is

-- and it is one of its course
pub makes_step : (w : Walk) (found : Outcome) (words : List ℕ) (end : WalkEnd) (after : Cursor) (next : Option ℕ) → next ≡ cursor_key w.state → IfSome next (IsRootKey w.state) → IsPaused w
    → w.end ≡ Partial → IsReadFor w found → IsLimited found → Stepped w.state after found words end → (tag : WalkTag) (k n : ℕ) → IsHead tag k n Partial → Fits tag k n Partial w → IsToldFor tag w found
    → MakesStep tag k n words end (record { state = after; steps = w.steps + 1; end = end })
makes_step w found words end after next same root is going read limited stepped tag k n head fits told =
    let key = with_key (cursor_key w.state) (has_key w is going) in
    made_with_key tag k n w found words end after key.0 stepped (paused_after w found words end after next same root is going read limited stepped) key.1
    (root_of_key w.state key.0 next same key.1 root) is.within read head fits told
