-- The state of a walk from step to step.
use Rattle.std.proofs.Common.{◌≡◌, ◌∙◌, ℕ, ◌+◌, ◌-◌, ◌*◌, ◌%◌, ◌<◌, ◌≤◌, Bool, true, false, List, [], ◌∷◌, ◌++◌, length, take, map, get_or, Option, Some, None, refl, sym, ap, subst, add-zero, append-nil, arith, length-append}
use Rattle.std.specs.Prelude.{nat_lt, ◌==◌, slice_get, IsSomeAnd}
use Rattle.std.specs.List.{All}
use Rattle.std.proofs.lemmas.Bool.{ltb-true, eqb-false}
use Rattle.std.proofs.lemmas.List.{take_more, take_all, map-append}
use Rattle.std.proofs.lemmas.List.Elements.{All-append}
use Rattle.std.proofs.lemmas.Grind.{flat_map-append}
use Rattle.std.proofs.lemmas.Option.{slice_get_within, get_or_from_slice_get}
use Rattle.implicit_tiling.specs.declared.Scheme.{Scheme}
use Rattle.implicit_tiling.specs.Region.{Region}
use Rattle.implicit_tiling.specs.Scene.{Layout, Scene}
use Rattle.implicit_tiling.specs.Code.{IsWord, word_level, tile_word}
use Rattle.implicit_tiling.specs.Answer.{most_tiles, answer}
use Rattle.implicit_tiling.specs.Nodes.{level_words, child_words}
use Rattle.implicit_tiling.specs.Steps.{StepEnd, partial, ended, Step, steps}
use Rattle.tile_coords.specs.Ends.{end_seen, EndsAtRoot}
use Rattle.tile_coords.specs.declared.walk_end.WalkEnd.{WalkEnd}
use Rattle.tile_coords.specs.declared.walk_end.WalkEnd.TheVariants.{Partial}
use Rattle.walk_laws.specs.Stepped.{last_end}
use Rattle.walk_laws.proofs.StepLaw.{steps_have_the_tiles, steps_end_as_the_answer}
use Rattle.subtree_outcome.specs.declared.outcome.Outcome.{Outcome}
use Rattle.subtree_outcome.specs.declared.outcome.Outcome.TheVariants.{Good, Bad}
use Rattle.region_cursor.specs.Cursor.{Cursor, IsWalkOf, IsRootKey, cursor_key, local_level_of, is_last_local}
use Rattle.region_cursor.specs.Moves.{over, level_after, pair_after, moved_on, end_by_key, room, counted, with_children, made_by, made}
use Rattle.tile_word.specs.Roots.{IsRootWord}
use Rattle.walk_laws.specs.Plans.{IsRegionOf}
use Rattle.tile_word.specs.Answers.{IsAnswer}
use Rattle.subtree_outcome.specs.Found.{IsTileWord, AreTilesOf, EndsWithin}
use Rattle.subtree_outcome.proofs.Found.{tiles_more, ends_at_root}
use Rattle.region_cursor.proofs.Callers.{words_of_the_layout}
use Rattle.tile_word.proofs.Ends.{end_of_words}
use Rattle.region_cursor.specs.Walked.{IsAt, IsNextKey, GivesStep}
use Rattle.region_cursor.specs.Joined.{tiles_of_steps, HasWalked}

-- a step that leaves no key has ended the walk
by_key : (found : Option ℕ) → end_by_key found ≡ Partial → found ≡ None → ⊥
by_key None is none = cc
by_key (Some key) is none = cc

by_more : (more : Bool) (words : List ℕ) (c : Cursor) → (made_by more words c).end ≡ Partial → cursor_key (made_by more words c).after ≡ None → ⊥
by_more true words c is none = cc
by_more false words c is none = by_key (cursor_key (moved_on c)) is none

pub not_partial : (c : Cursor) (found : Outcome) → (made c found).end ≡ Partial → cursor_key (made c found).after ≡ None → ⊥
not_partial c (Good st) is none =
    by_more (nat_lt (room c) (length (level_words st c.region (local_level_of c)))) (take (room c) (level_words st c.region (local_level_of c))) _ is none
not_partial c (Bad number) is none = cc

-- the state after a step without its words: within the region, and lower
pub record Falls (c after : Cursor) : Type 0 where
  pub same_region : after.region ≡ c.region
  pub within : after.level ≤ c.region.level
  pub count : after.count ≡ c.count
  pub lower : (most : ℕ) → length after.roots < most → (c.region.level - after.level) * most + (length after.roots - after.position) < (c.region.level - c.level) * most + (length c.roots - c.position)

lower_level : (y most a b : ℕ) → a < most → y * most + a < (y + 1) * most + b
lower_level y most a b h = omega arith

down : (levels level most a b : ℕ) → level < levels → a < most → (levels - (level + 1)) * most + a < (levels - level) * most + b
down levels level most a b low h =
    let one : levels - (level + 1) + 1 ≡ levels - level = omega arith in
    subst (λ n. (levels - (level + 1)) * most + a < n * most + b) one (lower_level (levels - (level + 1)) most a b h)

falls_over : (c : Cursor) → c.level ≤ c.region.level → c.position < length c.roots → Falls c (over c)
falls_over c low h = record { same_region = refl; within = low; count = refl; lower = λ most few. omega arith }

falls_down : (c : Cursor) (at_end last : Bool) → (c.level == c.region.level) ≡ at_end → c.level ≤ c.region.level → c.position < length c.roots → Falls c (level_after at_end last c)
falls_down c true last is low h = falls_over c low h
falls_down c false true is low h =
    let less : c.level < c.region.level = omega (arith, low, eqb-false c.level c.region.level is) in
    record { same_region = refl; within = omega arith; count = refl; lower = λ most few. down c.region.level c.level most (length c.next_roots - 0) (length c.roots - c.position) less (omega arith) }
falls_down c false false is low h =
    let less : c.level < c.region.level = omega (arith, low, eqb-false c.level c.region.level is) in
    record { same_region = refl; within = omega arith; count = refl; lower = λ most few. down c.region.level c.level most (length c.roots - 0) (length c.roots - c.position) less (omega arith) }

falls_on : (c : Cursor) (more : Bool) → nat_lt (c.position + 1) (length c.roots) ≡ more → c.level ≤ c.region.level → c.position < length c.roots → Falls c (pair_after more c)
falls_on c true is low h =
    let next = ltb-true (c.position + 1) (length c.roots) is in
    record { same_region = refl; within = low; count = refl; lower = λ most few. omega arith }
falls_on c false is low h = falls_down c (c.level == c.region.level) (is_last_local c) refl low h

pub falls_moved_on : (c : Cursor) → c.level ≤ c.region.level → c.position < length c.roots → Falls c (moved_on c)
falls_moved_on c low h = falls_on c (nat_lt (c.position + 1) (length c.roots)) refl low h

-- what a step leaves, with its words counted
pub record Leaves (c after : Cursor) (words : List ℕ) : Type 0 where
  pub within : after.level ≤ after.region.level
  pub count : after.count ≡ c.count + length words
  pub lower : (most : ℕ) → length after.roots < most → (after.region.level - after.level) * most + (length after.roots - after.position) < (c.region.level - c.level) * most + (length c.roots - c.position)

leaves : (c mid after : Cursor) (words : List ℕ) → mid.region ≡ c.region → mid.level ≡ c.level → mid.roots ≡ c.roots → mid.position ≡ c.position → mid.count ≡ c.count + length words
    → Falls mid after → Leaves c after words
leaves c mid after words region level roots position count f =
    let R = ap (λ (r : Region). r.level) (f.same_region ∙ region) in
    let M = ap (λ (r : Region). r.level) region in
    record {
      within = omega (arith, f.within, R, M);
      count = f.count ∙ count;
      lower = λ most few.
          subst (λ n. (n - after.level) * most + (length after.roots - after.position) < (c.region.level - c.level) * most + (length c.roots - c.position)) (sym R)
          (subst (λ n. (n - after.level) * most + (length after.roots - after.position) < (n - c.level) * most + (length c.roots - c.position)) M
          (subst (λ n. (mid.region.level - after.level) * most + (length after.roots - after.position) < (mid.region.level - n) * most + (length c.roots - c.position)) level
          (subst (λ n. (mid.region.level - after.level) * most + (length after.roots - after.position) < (mid.region.level - mid.level) * most + (length c.roots - n)) position
          (subst (λ (xs : List ℕ). (mid.region.level - after.level) * most + (length after.roots - after.position) < (mid.region.level - mid.level) * most + (length xs - mid.position)) roots
          (f.lower most few)))));
    }

leaves_more : (c mid : Cursor) (words : List ℕ) (more : Bool) → mid.region ≡ c.region → mid.level ≡ c.level → mid.roots ≡ c.roots → mid.position ≡ c.position → mid.count ≡ c.count + length words
    → c.level ≤ c.region.level → c.position < length c.roots → Leaves c (made_by more words mid).after (made_by more words mid).words
leaves_more c mid words more region level roots position count low h =
    let l : mid.level ≤ mid.region.level = omega (arith, low, level, ap (λ (r : Region). r.level) region) in
    let p : mid.position < length mid.roots = omega (arith, h, position, ap length roots) in
    elim more as (λ b. Leaves c (made_by b words mid).after (made_by b words mid).words) [
      | true ↦ leaves c mid (over mid) words region level roots position count (falls_over mid l p)
      | false ↦ leaves c mid (moved_on mid) words region level roots position count (falls_moved_on mid l p)
    ]

pub step_leaves : (c : Cursor) (found : Outcome) (key : ℕ) → cursor_key c ≡ Some key → c.level ≤ c.region.level → Leaves c (made c found).after (made c found).words
step_leaves c (Good st) key at low =
    let all = level_words st c.region (local_level_of c) in
    let more = nat_lt (room c) (length all) in
    let words = take (room c) all in
    leaves_more c (counted words (with_children more c (child_words st c.region))) words more refl refl refl refl refl low (slice_get_within c.roots c.position key at)
step_leaves c (Bad number) key at low = leaves c c (over c) [] refl refl refl refl (sym (add-zero c.count)) (falls_over c low (slice_get_within c.roots c.position key at))

-- the words that are found
pub found_more : (layout : Layout) (region : Region) (c : Cursor) (words more all : List ℕ) → AreTilesOf layout words → c.count ≡ length words → IsWalkOf layout region c
    → All (IsTileWord c.scheme c.levels c.contents) more → c.count + length more ≤ most_tiles → all ≡ words ++ more → AreTilesOf layout all
found_more layout region c words more all found counts of are few is =
    tiles_more layout words more all found (words_of_the_layout layout region c more of are) (omega (arith, few, counts)) is

-- the end of a list with one step more
last_of : (e : StepEnd) (xs : List Step) (x : Step) → last_end e (xs ++ x ∷ []) ≡ x.end
last_of e [] x = refl
last_of e (y ∷ ys) x = last_of y.end ys x

taken : (xs : List Step) (k : ℕ) (x : Step) → slice_get xs k ≡ Some x → take (k + 1) xs ≡ take k xs ++ x ∷ []
taken xs k x at = take_more xs k x (slice_get_within xs k x at) ∙ ap (λ y. take k xs ++ y ∷ []) (get_or_from_slice_get xs k x x at)

-- one step more
one_more : (s : Scene) (region : Region) (c after : Cursor) (next later : Option ℕ) (words more : List ℕ) (end last : WalkEnd) (w : HasWalked s region c next words end) (x : Step)
    → slice_get (steps s region) w.made ≡ Some x → more ≡ map (tile_word s) x.tiles → end_seen s.layout.scheme last ≡ x.end
    → IsAt s region (w.made + 1) after → IsNextKey s region (w.made + 1) later → (all : List ℕ) → all ≡ words ++ more → HasWalked s region after later all last
one_more s region c after next later words more end last w x at tiles ends stands key all is =
    let done = take w.made (steps s region) in
    let parts = taken (steps s region) w.made x at in
    record {
      made = w.made + 1;
      at = stands;
      next_is = key;
      words_are =
          let both : tiles_of_steps (take (w.made + 1) (steps s region)) ≡ tiles_of_steps done ++ x.tiles =
          ap tiles_of_steps parts ∙ flat_map-append (λ step. step.tiles) done (x ∷ []) ∙ ap (λ ts. tiles_of_steps done ++ ts) (append-nil x.tiles) in
          is ∙ ap (λ ws. ws ++ more) w.words_are ∙ ap (λ ws. map (tile_word s) (tiles_of_steps done) ++ ws) tiles
          ∙ sym (map-append (tile_word s) (tiles_of_steps done) x.tiles) ∙ ap (map (tile_word s)) (sym both);
      end_is = ends ∙ sym (last_of partial done x) ∙ ap (last_end partial) (sym parts);
    }

one_more_by : (s : Scene) (region : Region) (c after : Cursor) (next later : Option ℕ) (words more : List ℕ) (end last : WalkEnd) (w : HasWalked s region c next words end) (here : Option Step)
    → slice_get (steps s region) w.made ≡ here → IsSomeAnd here (λ step. (more ≡ map (tile_word s) step.tiles) × (end_seen s.layout.scheme last ≡ step.end))
    → IsAt s region (w.made + 1) after → IsNextKey s region (w.made + 1) later → (all : List ℕ) → all ≡ words ++ more → HasWalked s region after later all last
one_more_by s region c after next later words more end last w None at gives stands key all is = absurd gives
one_more_by s region c after next later words more end last w (Some x) at gives stands key all is =
    one_more s region c after next later words more end last w x at gives.0 gives.1 stands key all is

pub walked_on : (s : Scene) (region : Region) (c after : Cursor) (next later : Option ℕ) (words more : List ℕ) (end last : WalkEnd) (w : HasWalked s region c next words end)
    → GivesStep s region w.made more last → IsAt s region (w.made + 1) after → IsNextKey s region (w.made + 1) later → (all : List ℕ) → all ≡ words ++ more
    → HasWalked s region after later all last
walked_on s region c after next later words more end last w gives stands key all is =
    one_more_by s region c after next later words more end last w (slice_get (steps s region) w.made) refl gives stands key all is

one_more_made : (s : Scene) (region : Region) (c after : Cursor) (next later : Option ℕ) (words more : List ℕ) (end last : WalkEnd) (w : HasWalked s region c next words end) (here : Option Step)
    → (at : slice_get (steps s region) w.made ≡ here) (gives : IsSomeAnd here (λ step. (more ≡ map (tile_word s) step.tiles) × (end_seen s.layout.scheme last ≡ step.end)))
    → (stands : IsAt s region (w.made + 1) after) (key : IsNextKey s region (w.made + 1) later) (all : List ℕ) (is : all ≡ words ++ more)
    → (one_more_by s region c after next later words more end last w here at gives stands key all is).made ≡ w.made + 1
unfolding one_more_by one_more
one_more_made s region c after next later words more end last w None at gives stands key all is = absurd gives
one_more_made s region c after next later words more end last w (Some x) at gives stands key all is = refl

-- a walk without a next key has the answer
pub is_answer : (s : Scene) (region : Region) (c : Cursor) (words : List ℕ) (end : WalkEnd) → HasWalked s region c None words end → EndsWithin s.layout end → 1 ≤ s.layout.subtree_levels → IsRegionOf s.layout region
    → IsAnswer s region words end
is_answer s region c words end w root some is =
    let all : take w.made (steps s region) ≡ steps s region = take_all w.made (steps s region) (omega (arith, w.next_is)) in
    let end_is : end_seen s.layout.scheme end ≡ ended (answer s region).end =
    w.end_is ∙ ap (last_end partial) all ∙ steps_end_as_the_answer s region some (omega (arith, is.below)) is.is_region in
    record {
      words_are = w.words_are ∙ ap (λ xs. map (tile_word s) (tiles_of_steps xs)) all ∙ ap (map (tile_word s)) (steps_have_the_tiles s region some);
      end_is = end_is;
      end_by_word = end_of_words s.layout.scheme end (answer s region).end (ends_at_root s.layout end root) end_is;
    }

pub leaves_after : (c after : Cursor) (found : Outcome) (key : ℕ) (words : List ℕ) → cursor_key c ≡ Some key → c.level ≤ c.region.level → after ≡ (made c found).after → words ≡ (made c found).words
    → Leaves c after words
leaves_after c after found key words at low is given =
    subst (λ (d : Cursor). Leaves c d words) (sym is) (subst (λ (ws : List ℕ). Leaves c (made c found).after ws) (sym given) (step_leaves c found key at low))

-- a step over a scene
pub goes_on : (s : Scene) (region : Region) (c after : Cursor) (next later : Option ℕ) (words more all : List ℕ) (end last : WalkEnd) → c.region ≡ region → after.region ≡ region
    → ((k : ℕ) → IsAt s c.region k c → GivesStep s c.region k more last × IsAt s c.region (k + 1) after)
    → ((k : ℕ) → IsAt s after.region k after → IsNextKey s after.region k later)
    → all ≡ words ++ more → HasWalked s region c next words end → HasWalked s region after later all last
goes_on s region c after next later words more all end last same too step follow is w =
    let made_here = step w.made (subst (λ (r : Region). IsAt s r w.made c) (sym same) w.at) in
    let gives = subst (λ (r : Region). GivesStep s r w.made more last) same made_here.0 in
    let stands = subst (λ (r : Region). IsAt s r (w.made + 1) after) same made_here.1 in
    let key = subst (λ (r : Region). IsNextKey s r (w.made + 1) later) too (follow (w.made + 1) (subst (λ (r : Region). IsAt s r (w.made + 1) after) (sym too) stands)) in
    walked_on s region c after next later words more end last w gives stands key all is

-- it makes one step more
pub goes_on_by_one : (s : Scene) (region : Region) (c after : Cursor) (next later : Option ℕ) (words more all : List ℕ) (end last : WalkEnd) → c.region ≡ region → after.region ≡ region
    → ((k : ℕ) → IsAt s c.region k c → GivesStep s c.region k more last × IsAt s c.region (k + 1) after)
    → ((k : ℕ) → IsAt s after.region k after → IsNextKey s after.region k later)
    → all ≡ words ++ more → (w : HasWalked s region c next words end) → (v : HasWalked s region after later all last) × (v.made ≡ w.made + 1)
unfolding goes_on walked_on
goes_on_by_one s region c after next later words more all end last same too step follow is w = (
  goes_on s region c after next later words more all end last same too step follow is w,
  one_more_made s region c after next later words more end last w (slice_get (steps s region) w.made) refl _ _ _ all is,
)
