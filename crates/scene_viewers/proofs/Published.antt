-- What is read of a walk is the text of the first words that are published of it.
use Rattle.std.proofs.Math.Logic.{⊎_elim}
use Rattle.std.proofs.Common.{◌≡◌, ◌∙◌, ◌⊎◌, ℕ, zero, suc, zero-add, ◌+◌, ◌-◌, ◌<◌, ◌≤◌, List, [], ◌∷◌, ◌++◌, length, take, drop, map, refl, sym, ap, subst, arith}
use Rattle.std.specs.Prelude.{Option, Some, None, slice_get, slice_index, min, IfSome}
use Rattle.std.proofs.Math.Seq.{take-append_seam}
use Rattle.std.proofs.lemmas.List.Elements.{All-from_get_or}
use Rattle.implicit_tiling.specs.Files.{Files}
use Rattle.implicit_tiling.specs.Region.{Region, Plan}
use Rattle.implicit_tiling.specs.Scene.{Layout, Scene}
use Rattle.implicit_tiling.specs.Code.{tile_word}
use Rattle.implicit_tiling.specs.Answer.{answer}
use Rattle.implicit_tiling.specs.Text.{words_text}
use Rattle.implicit_tileset.specs.Scene.{scene_of}
use Rattle.tile_coords.specs.Ends.{end_seen}
use Rattle.tile_coords.specs.declared.walk_end.WalkEnd.{WalkEnd}
use Rattle.tile_coords.specs.declared.walk_end.WalkEnd.TheVariants.{Partial}
use Rattle.published_prefix.specs.Heads.{NoFurther}
use Rattle.published_prefix.specs.Seats.{looked}
use Rattle.plan_registry.specs.Registries.{CursorSeen, cursor_on}
use Rattle.subtree_outcome.specs.Found.{AreTilesOf, EndsWithin, IsTileWord}
use Rattle.walk_course.specs.Course.{IsHead, IsWordAt, IsAnswerWord}
use Rattle.walk_course.specs.declared.tag.WalkTag.{WalkTag}
use Rattle.viewer_session.specs.Sessions.{SceneSeen, IsCursorOf, IsSameWalk, IsWholeAt, tag_in}
use Rattle.scene_viewers.specs.Replies.{IsFrontText, IsPublishedText}

-- ---- words that stand at the first places of a list

some_is : (x y : ℕ) → Some x ≡ Some y → x ≡ y
some_is x y h = cc

first_words : (words all : List ℕ) → ((i : ℕ) → i < length words → slice_get all i ≡ Some (slice_index words i)) → words ≡ take (length words) all
first_words [] all at = refl
first_words (w ∷ ws) [] at = let h = at zero (omega arith) in absurd (cc)
first_words (w ∷ ws) (x ∷ xs) at =
    ap (λ v. v ∷ ws) (sym (some_is x w (at zero (omega arith))))
    ∙ ap (λ vs. x ∷ vs) (first_words ws xs (λ i below. at (suc i) (omega (arith, below))))

front_is : (s : Scene) (region : Region) (words : List ℕ) (count : ℕ) → length words ≡ count → ((i : ℕ) → i < count → IsAnswerWord s region i (slice_index words i))
    → words ≡ take count (map (tile_word s) (answer s region).tiles)
front_is s region words count same at =
    let all = map (tile_word s) (answer s region).tiles in
    first_words words all (λ i below. at i (omega (arith, below, same))) ∙ ap (λ n. take n all) same

-- where the files are told
front_by : (told : Option Files) (layout : Layout) (region : Region) (words : List ℕ) (count : ℕ) (end : WalkEnd) → length words ≡ count
    → IfSome told (λ all. IsWholeAt (scene_of all layout) region count end) → ((i : ℕ) → i < count → IfSome told (λ all. IsAnswerWord (scene_of all layout) region i (slice_index words i)))
    → IfSome told (λ all. (words ≡ take count (map (tile_word (scene_of all layout)) (answer (scene_of all layout) region).tiles)) × IsWholeAt (scene_of all layout) region count end)
front_by None layout region words count end same whole at = tt
front_by (Some all) layout region words count end same whole at = (front_is (scene_of all layout) region words count same at, whole)

-- the words of a head that were read
tiles_of_head : (tag : WalkTag) (made count : ℕ) (end : WalkEnd) (words : List ℕ) → IsHead tag made count end → length words ≡ count
    → ((i : ℕ) → i < count → IsWordAt tag i (slice_index words i)) → AreTilesOf tag.layout words
tiles_of_head tag made count end words head same at = record {
  are_words = All-from_get_or (IsTileWord tag.layout.scheme tag.layout.levels (length tag.layout.contents)) words 0 (λ i below. (at i (omega (arith, below, same))).of_layout);
  few = omega (arith, head.few_words, same);
}

-- what stands in a list after its first numbers were written
pub written : (out items : List ℕ) (len : ℕ) → length out ≡ len → take len (out ++ drop (length out) items) ≡ out
written out items len same = ap (λ n. take n (out ++ drop (length out) items)) (sym same) ∙ take-append_seam out (drop (length out) items)

-- ---- a walk that was read twice, first for its length

-- at least as many words are seen later
no_fewer : (k n : ℕ) (e : WalkEnd) (k' n' : ℕ) (e' : WalkEnd) → NoFurther k n e k' n' e' → n ≤ n'
no_fewer k n e k' n' e' near = ⊎_elim (λ (x : (e ≡ Partial) × (k < k') × (n ≤ n')). x.2) (λ (x : (k ≡ k') × (n ≡ n') × (e ≡ e')). omega (arith, x.1)) near

-- a cursor between two calls stays so when it looks
pub looked_cursor : (scene : SceneSeen) (a b : CursorSeen WalkTag) (k n : ℕ) (e : WalkEnd) → IsCursorOf scene a → b ≡ cursor_on a.plan (looked a.seat k n e) → IsCursorOf scene b × IsSameWalk a b
looked_cursor scene a b k n e of is =
    subst (λ (c : CursorSeen WalkTag). IsCursorOf scene c × IsSameWalk a c) (sym is) (record { of_scene = of.of_scene; fits = of.fits; at_rest = of.at_rest }, (refl, refl, refl))

pub front_read : (scene : SceneSeen) (a b d : CursorSeen WalkTag) (k1 n1 : ℕ) (e1 : WalkEnd) (k2 n2 : ℕ) (e2 : WalkEnd) (count : ℕ) (out : List ℕ) → IsCursorOf scene a
    → b ≡ cursor_on a.plan (looked a.seat k1 n1 e1) → d ≡ cursor_on b.plan (looked b.seat k2 n2 e2) → NoFurther a.seat.steps a.seat.length a.seat.end k1 n1 e1 → NoFurther b.seat.steps b.seat.length b.seat.end k2 n2 e2
    → IsHead (tag_in scene a.plan) k1 n1 e1 → IfSome scene.tileset.told (λ all. IsWholeAt (scene_of all scene.tileset.layout) a.plan.region n1 e1)
    → length out ≡ n1 → count ≡ min n1 (n2 - 0) → ((i : ℕ) → i < count → IsWordAt (tag_in scene b.plan) (0 + i) (slice_index out i))
    → IsPublishedText scene.tileset.told scene.tileset.layout a d (words_text scene.tileset.layout out (end_seen scene.tileset.layout.scheme e1))
    × AreTilesOf scene.tileset.layout out × EndsWithin scene.tileset.layout e1
front_read scene a b d k1 n1 e1 k2 n2 e2 count out of first second near nearer course whole long many words =
    let tag = tag_in scene a.plan in
    let same_plan : b.plan ≡ a.plan = ap (λ (c : CursorSeen WalkTag). c.plan) first in
    let steps_are : b.seat.steps ≡ k1 = ap (λ (c : CursorSeen WalkTag). c.seat.steps) first in
    let length_is : b.seat.length ≡ n1 = ap (λ (c : CursorSeen WalkTag). c.seat.length) first in
    let end_is : b.seat.end ≡ e1 = ap (λ (c : CursorSeen WalkTag). c.seat.end) first in
    let later : NoFurther k1 n1 e1 k2 n2 e2 =
    subst (λ e. NoFurther k1 n1 e k2 n2 e2) end_is (subst (λ n. NoFurther k1 n b.seat.end k2 n2 e2) length_is (subst (λ k. NoFurther k b.seat.length b.seat.end k2 n2 e2) steps_are nearer)) in
    let more = no_fewer k1 n1 e1 k2 n2 e2 later in
    let at : (i : ℕ) → i < n1 → IsWordAt tag i (slice_index out i) = λ i below.
    subst (λ p. IsWordAt (tag_in scene p) i (slice_index out i)) same_plan (subst (λ j. IsWordAt (tag_in scene b.plan) j (slice_index out i)) (zero-add i) (words i (omega (arith, below, many, more)))) in
    let tiles = tiles_of_head tag k1 n1 e1 out course long at in
    let went_on = looked_cursor scene a b k1 n1 e1 of first in
    let went_on_again = looked_cursor scene b d k2 n2 e2 went_on.0 second in
    let seen : NoFurther k1 n1 e1 d.seat.steps d.seat.length d.seat.end = subst (λ (c : CursorSeen WalkTag). NoFurther k1 n1 e1 c.seat.steps c.seat.length c.seat.end) (sym second) later in (
      record {
        steps = k1;
        count = n1;
        end = e1;
        text = record {
          words = out;
          count_is = long;
          of_layout = (tiles, course.of_layout);
          of_answer = front_by scene.tileset.told scene.tileset.layout a.plan.region out n1 e1 long whole (λ i below. (at i below).of_answer);
          text_is = refl;
        };
        same = (went_on_again.1.0 ∙ went_on.1.0, went_on_again.1.1 ∙ went_on.1.1, went_on_again.1.2 ∙ went_on.1.2);
        since = near;
        until = seen;
      },
      tiles,
      course.of_layout,
    )
