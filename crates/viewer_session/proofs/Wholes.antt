-- A head with an end has all of the answer, and words that stand at all places of an answer are its words.
use Rattle.std.proofs.Math.Logic.{⊎_elim}
use Rattle.std.proofs.Common.{◌≡◌, ◌≢◌, ◌∙◌, ℕ, zero, suc, zero-add, ◌+◌, ◌-◌, ◌<◌, ◌≤◌, List, [], ◌∷◌, length, take, drop, map, ◌++◌, Option, Some, None, refl, sym, ap, subst, inl, inr, arith}
use Rattle.std.specs.Prelude.{slice_index, min, IfSome}
use Rattle.std.specs.List.{AllPairs, flat_map, slice_index_or}
use Rattle.std.proofs.Math.Nat.{eq-or-lt_of_le}
use Rattle.std.proofs.Math.Seq.{take-append_seam}
use Rattle.std.proofs.lemmas.List.{take_all, ext_get_or, length-map}
use Rattle.std.proofs.lemmas.List.Elements.{All-from_get_or}
use Rattle.std.proofs.lemmas.Option.{get_or_from_slice_get}
use Rattle.implicit_tiling.specs.declared.Scheme.{Scheme}
use Rattle.implicit_tiling.specs.Files.{Files}
use Rattle.implicit_tiling.specs.Region.{Region, Plan}
use Rattle.implicit_tiling.specs.Scene.{Layout, Scene}
use Rattle.implicit_tiling.specs.Code.{tile_word}
use Rattle.implicit_tiling.specs.Answer.{answer}
use Rattle.implicit_tiling.specs.Steps.{StepEnd, partial, Step, steps}
use Rattle.implicit_tileset.specs.Scene.{scene_of}
use Rattle.walk_laws.specs.Regions.{IsRegion}
use Rattle.walk_laws.specs.Plans.{FitsLayout}
use Rattle.walk_laws.specs.Stepped.{last_end}
use Rattle.walk_laws.proofs.Regions.{accepted_is_a_region}
use Rattle.walk_laws.proofs.StepLaw.{steps_have_the_tiles, steps_end_as_the_answer, earlier_steps_are_partial}
use Rattle.tile_coords.specs.Ends.{end_seen}
use Rattle.tile_coords.specs.declared.walk_end.WalkEnd.{WalkEnd}
use Rattle.tile_coords.specs.declared.walk_end.WalkEnd.TheVariants.{Partial, Complete, TooMany, Fault}
use Rattle.published_prefix.specs.Heads.{NoFurther}
use Rattle.published_prefix.specs.Seats.{looked}
use Rattle.tile_word.specs.Answers.{IsAnswer}
use Rattle.tile_word.proofs.Ends.{end_of_words}
use Rattle.subtree_outcome.specs.Found.{EndsWithin, IsTileWord, AreTilesOf}
use Rattle.subtree_outcome.proofs.Found.{ends_at_root}
use Rattle.walk_course.specs.Course.{IsAfter, IsHead, IsWordAt, IsAnswerWord}
use Rattle.walk_course.specs.declared.tag.WalkTag.{WalkTag}
use Rattle.plan_registry.specs.Registries.{CursorSeen, cursor_on}
use Rattle.viewer_session.specs.Sessions.{SceneSeen, tag_in, IsWholeAt}

-- the end of the first steps is that of the last of them
last_at : (e : StepEnd) (xs : List Step) (n : ℕ) (d : Step) → n < length xs → last_end e (take (suc n) xs) ≡ (slice_index_or xs n d).end
last_at e [] n d below = absurd (omega (arith, below))
last_at e (x ∷ xs) zero d below = refl
last_at e (x ∷ xs) (suc n) d below = last_at x.end xs n d (omega (arith, below))

-- steps that others follow are partial
first_are_partial : (xs : List Step) (n : ℕ) → AllPairs (λ earlier later. earlier.end ≡ partial) xs → n < length xs → last_end partial (take n xs) ≡ partial
first_are_partial xs zero pairs below = refl
first_are_partial xs (suc n) pairs below =
    let d : Step = record { tiles = []; end = partial } in
    last_at partial xs n d (omega (arith, below)) ∙ pairs n (suc n) d (omega arith) below

is_partial : (scheme : Scheme) (end : WalkEnd) → end_seen scheme end ≡ partial → end ≡ Partial
is_partial scheme Partial is = refl
is_partial scheme Complete is = absurd (cc)
is_partial scheme TooMany is = absurd (cc)
is_partial scheme (Fault root number) is = absurd (cc)

pub whole_at : (s : Scene) (region : Region) (made count : ℕ) (end : WalkEnd) → 1 ≤ s.layout.subtree_levels → 1 ≤ s.layout.levels → IsRegion region
    → IsAfter s region made count end → IsWholeAt s region count end
whole_at s region made count end some some_levels is after = λ over.
    elim (eq-or-lt_of_le after.within) [
      | inl all ↦
          let taken : take made (steps s region) ≡ steps s region = take_all made (steps s region) (omega (arith, all)) in (
            after.count_is ∙ ap (λ xs. length (flat_map (λ step. step.tiles) xs)) taken ∙ ap length (steps_have_the_tiles s region some),
            after.end_is ∙ ap (last_end partial) taken ∙ steps_end_as_the_answer s region some some_levels is,
          )
      | inr fewer ↦ absurd (over (is_partial s.layout.scheme end (after.end_is ∙ first_are_partial (steps s region) made (earlier_steps_are_partial s region) fewer)))
    ]

-- where files are told
whole_by : (told : Option Files) (layout : Layout) (region : Region) (made count : ℕ) (end : WalkEnd) → 1 ≤ layout.subtree_levels → 1 ≤ layout.levels → IsRegion region
    → IfSome told (λ all. IsAfter (scene_of all layout) region made count end) → IfSome told (λ all. IsWholeAt (scene_of all layout) region count end)
whole_by None layout region made count end some some_levels is after = tt
whole_by (Some all) layout region made count end some some_levels is after = whole_at (scene_of all layout) region made count end some some_levels is after

pub head_is_whole : (tag : WalkTag) (plan : Plan) (made count : ℕ) (end : WalkEnd) → 1 ≤ tag.layout.subtree_levels → 1 ≤ tag.layout.levels → tag.region ≡ plan.region → FitsLayout tag.layout plan
    → IsHead tag made count end → IfSome tag.told (λ all. IsWholeAt (scene_of all tag.layout) tag.region count end)
head_is_whole tag plan made count end some some_levels of fits head =
    let is = (accepted_is_a_region tag.layout.levels plan.region.level plan.region.lo plan.region.hi plan.region fits.accepted).0 in
    whole_by tag.told tag.layout tag.region made count end some some_levels (subst IsRegion (sym of) is) head.of_steps

-- words that stand at all places of an answer
answer_words : (s : Scene) (region : Region) (words : List ℕ) → length words ≡ length (answer s region).tiles
    → ((i : ℕ) → i < length words → IsAnswerWord s region i (slice_index words i)) → words ≡ map (tile_word s) (answer s region).tiles
answer_words s region words same at =
    let all = map (tile_word s) (answer s region).tiles in
    ext_get_or 0 words all (same ∙ sym (length-map (answer s region).tiles (tile_word s)))
    (λ i below. sym (get_or_from_slice_get all i (slice_index words i) 0 (at i below)))

pub whole_answer : (s : Scene) (region : Region) (words : List ℕ) (end : WalkEnd) → IsWholeAt s region (length words) end → end ≢ Partial → EndsWithin s.layout end
    → ((i : ℕ) → i < length words → IsAnswerWord s region i (slice_index words i)) → IsAnswer s region words end
whole_answer s region words end whole over within at =
    let w = whole over in record {
      words_are = answer_words s region words w.0 at;
      end_is = w.1;
      end_by_word = end_of_words s.layout.scheme end (answer s region).end (ends_at_root s.layout end within) w.1;
    }

-- the words of a head that was read whole
pub tiles_of_head : (tag : WalkTag) (made count : ℕ) (end : WalkEnd) (words : List ℕ) → IsHead tag made count end → length words ≡ count
    → ((i : ℕ) → i < count → IsWordAt tag i (slice_index words i)) → AreTilesOf tag.layout words
tiles_of_head tag made count end words head same at = record {
  are_words = All-from_get_or (IsTileWord tag.layout.scheme tag.layout.levels (length tag.layout.contents)) words 0 (λ i below. (at i (omega (arith, below, same))).of_layout);
  few = omega (arith, head.few_words, same);
}

answer_by : (told : Option Files) (layout : Layout) (region : Region) (count : ℕ) (end : WalkEnd) (words : List ℕ) → end ≢ Partial → EndsWithin layout end → length words ≡ count
    → IfSome told (λ all. IsWholeAt (scene_of all layout) region count end) → ((i : ℕ) → i < count → IfSome told (λ all. IsAnswerWord (scene_of all layout) region i (slice_index words i)))
    → IfSome told (λ all. IsAnswer (scene_of all layout) region words end)
answer_by None layout region count end words over within same whole at = tt
answer_by (Some all) layout region count end words over within same whole at =
    let s = scene_of all layout in
    whole_answer s region words end (subst (λ n. IsWholeAt s region n end) (sym same) whole) over within (λ i below. at i (omega (arith, below, same)))

pub answer_of_head : (tag : WalkTag) (made count : ℕ) (end : WalkEnd) (words : List ℕ) → end ≢ Partial → IsHead tag made count end → length words ≡ count
    → IfSome tag.told (λ all. IsWholeAt (scene_of all tag.layout) tag.region count end) → ((i : ℕ) → i < count → IsWordAt tag i (slice_index words i))
    → IfSome tag.told (λ all. IsAnswer (scene_of all tag.layout) tag.region words end)
answer_of_head tag made count end words over head same whole at = answer_by tag.told tag.layout tag.region count end words over head.of_layout same whole (λ i below. (at i below).of_answer)

-- all words of a head were read
pub read_whole : (tag : WalkTag) (count len : ℕ) (words : List ℕ) → length words ≡ len → count ≡ min (length words) (len - 0)
    → ((i : ℕ) → i < count → IsWordAt tag (0 + i) (slice_index words i)) → (i : ℕ) → i < len → IsWordAt tag i (slice_index words i)
read_whole tag count len words same many at i below =
    subst (λ j. IsWordAt tag j (slice_index words i)) (zero-add i) (at i (omega (arith, below, same, many)))

-- an end that was seen is the end of each later head
pub same_end : (k n : ℕ) (e : WalkEnd) (k' n' : ℕ) (e' : WalkEnd) → e ≢ Partial → NoFurther k n e k' n' e' → (n' ≡ n) × (e' ≡ e)
same_end k n e k' n' e' over near = ⊎_elim (λ (x : (e ≡ Partial) × (k < k') × (n ≤ n')). absurd (over x.0)) (λ (x : (k ≡ k') × (n ≡ n') × (e ≡ e')). (sym x.1, sym x.2)) near

-- what stands in a list after its first numbers were written
pub written : (out items : List ℕ) (len : ℕ) → length out ≡ len → take len (out ++ drop (length out) items) ≡ out
written out items len same = ap (λ n. take n (out ++ drop (length out) items)) (sym same) ∙ take-append_seam out (drop (length out) items)

-- A walk that had ended was read twice, first for its length: all its words were read
pub all_read : (scene : SceneSeen) (a b : CursorSeen WalkTag) (k1 n1 : ℕ) (e1 : WalkEnd) (k2 n2 : ℕ) (e2 : WalkEnd) (count len : ℕ) (out : List ℕ) → a.seat.end ≢ Partial
    → b ≡ cursor_on a.plan (looked a.seat k1 n1 e1) → NoFurther a.seat.steps a.seat.length a.seat.end k1 n1 e1 → NoFurther b.seat.steps b.seat.length b.seat.end k2 n2 e2
    → IsHead (tag_in scene b.plan) k2 n2 e2 → len ≡ n1 → length out ≡ len → count ≡ min len (n2 - 0) → ((i : ℕ) → i < count → IsWordAt (tag_in scene b.plan) (0 + i) (slice_index out i))
    → IfSome scene.tileset.told (λ all. IsWholeAt (scene_of all scene.tileset.layout) b.plan.region n2 e2)
    → AreTilesOf scene.tileset.layout out × IfSome scene.tileset.told (λ all. IsAnswer (scene_of all scene.tileset.layout) a.plan.region out e2)
all_read scene a b k1 n1 e1 k2 n2 e2 count len out over head near nearer course long same many words whole =
    let plan = ap (λ (c : CursorSeen WalkTag). c.plan) head in
    let length_is = ap (λ (c : CursorSeen WalkTag). c.seat.length) head in
    let end_is = ap (λ (c : CursorSeen WalkTag). c.seat.end) head in
    let first = same_end a.seat.steps a.seat.length a.seat.end k1 n1 e1 over near in
    let over_then : b.seat.end ≢ Partial = λ is. over (sym first.1 ∙ sym end_is ∙ is) in
    let second = same_end b.seat.steps b.seat.length b.seat.end k2 n2 e2 over_then nearer in
    let over_last : e2 ≢ Partial = λ is. over_then (sym second.1 ∙ is) in
    let n_same : n2 ≡ n1 = second.0 ∙ length_is in
    let all : length out ≡ n2 = same ∙ long ∙ sym n_same in
    let tag = tag_in scene b.plan in
    let at = read_whole tag count n2 out all (many ∙ ap (λ l. min l (n2 - 0)) (sym same)) words in (
      tiles_of_head tag k2 n2 e2 out course all at,
      subst (λ (p : Plan). IfSome scene.tileset.told (λ all. IsAnswer (scene_of all scene.tileset.layout) p.region out e2)) plan
          (answer_of_head tag k2 n2 e2 out over_last course all whole at),
    )
