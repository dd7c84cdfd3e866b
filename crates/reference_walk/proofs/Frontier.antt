-- The frontier of a walk, from level to level.
use Rattle.std.proofs.Common.{◌≡◌, ◌≢◌, ℕ, ◌+◌, ◌%◌, ◌<◌, ◌≤◌, Bool, true, false, List, [], ◌∷◌, ◌++◌, length, map, get_or, None, refl, sym, ap, subst, ◌∙◌, arith, lit<, inl, inr}
use Rattle.std.specs.Prelude.{filter}
use Rattle.std.specs.List.{flat_map, All}
use Rattle.std.proofs.Math.Nat.{zero-mod}
use Rattle.std.proofs.lemmas.Nat.{mod_below}
use Rattle.std.proofs.lemmas.List.{get_or-map, length-map}
use Rattle.std.proofs.lemmas.Bool.{eqb-true, eqb-false, cases_eq}
use Rattle.std.proofs.lemmas.List.Elements.{All-nil, All-cons, filter_passes}
use Rattle.implicit_tiling.specs.declared.Scheme.{Scheme}
use Rattle.implicit_tiling.specs.declared.Scheme.TheVariants.{Quad, Oct}
use Rattle.implicit_tiling.specs.Limits.{most_levels}
use Rattle.implicit_tiling.specs.Tile.{Tile, IsTile, tiles_of_level, root}
use Rattle.implicit_tiling.specs.Region.{Region}
use Rattle.implicit_tiling.specs.Scene.{Layout, Scene, fault_of}
use Rattle.implicit_tiling.specs.Answer.{is_on_walk}
use Rattle.implicit_tiling.specs.Code.{word, word_tile, word_level, word_index}
use Rattle.implicit_tiling.specs.Steps.{root_level, walk_roots, pair_fault}
use Rattle.tile_word.specs.Words.{HasWord}
use Rattle.tile_word.proofs.Tiles.{words_have_their_parts}
use Rattle.tiling_laws.proofs.TileAt.{tile_at_level}
use Rattle.walk_laws.specs.Children.{roots_below}
use Rattle.walk_laws.specs.Regions.{IsRegion}
use Rattle.walk_laws.specs.Pairs.{pairs_above}
use Rattle.walk_laws.proofs.Lists.{flat_map_same, flat_map-map}
use Rattle.walk_laws.proofs.Segments.{local_low, at_start, local_of}
use Rattle.walk_laws.proofs.Children.{roots_go_down, next_level}
use Rattle.walk_laws.proofs.Pairs.{fault_at_own_level, roots_of_inner_levels}
use Rattle.walk_laws.proofs.Regions.{roots_begin_at_the_root}
use Rattle.tile_coords.specs.declared.walk_end.WalkEnd.TheVariants.{Partial}
use Rattle.tile_word.specs.Roots.{IsRootWord, AreRoots}
use Rattle.reference_walk.specs.Walks.{word_pair, GoesOn, next_roots, if_last, is_last, frontier_if, IsWalked}
use Rattle.tile_walk.proofs.Roots.{first_tiles, of_map, on_walk}
use Rattle.reference_walk.proofs.Walks.{one_level_more}

-- a walk above a level, with the roots of that level
pub record IsAt (s : Scene) (region : Region) (level : ℕ) (roots words : List ℕ) : Type 0 where
  pub goes : GoesOn s region (pairs_above s region level) [] words
  pub tiles : map (word_tile s.layout.scheme) roots ≡ walk_roots s region level
  pub walked : All (IsWalked s region level) roots

walked_at_start : (s : Scene) (region : Region) (level : ℕ) (roots : List ℕ) → level % s.layout.subtree_levels ≡ 0 → map (word_tile s.layout.scheme) roots ≡ walk_roots s region level
    → All (IsWalked s region level) roots
walked_at_start s region level roots start is = λ k d low. record { on_walk = on_walk s region level roots is k d low; no_fault = λ inner. absurd (inner start) }

-- a walk begins at the root
pub begins : (s : Scene) (region : Region) (scheme : Scheme) (roots words : List ℕ) → scheme ≡ s.layout.scheme → 1 ≤ s.layout.levels → IsRegion region → roots ≡ word scheme root 0 ∷ []
    → words ≡ [] → IsAt s region 0 roots words
begins s region scheme roots words same some is first none =
    let tiles = first_tiles s region scheme roots same some is first in
    record {
      goes = record { no_fault = All-nil (λ p. pair_fault s p ≡ None); words = none; few = omega (arith, ap (length {A = ℕ}) none) };
      tiles = tiles;
      walked = walked_at_start s region 0 roots (zero-mod s.layout.subtree_levels) tiles;
    }

-- the last level of a subtree, and the level after it
last_local : (layout : Layout) (level : ℕ) → is_last layout level ≡ true → level + 1 ≡ root_level layout level + layout.subtree_levels
last_local layout level last = omega (arith, eqb-true (level % layout.subtree_levels + 1) layout.subtree_levels last, local_low level layout.subtree_levels)

starts_next : (layout : Layout) (level : ℕ) → 1 ≤ layout.subtree_levels → is_last layout level ≡ true → (level + 1) % layout.subtree_levels ≡ 0
starts_next layout level some last =
    ap (λ l. l % layout.subtree_levels) (last_local layout level last) ∙ next_level (root_level layout level) layout.subtree_levels some (at_start level layout.subtree_levels some)

-- another level is in the same subtrees
inner_next : (layout : Layout) (level : ℕ) → 1 ≤ layout.subtree_levels → is_last layout level ≡ false → root_level layout (level + 1) ≡ root_level layout level
inner_next layout level some inner =
    let n = layout.subtree_levels in
    let k = level % n in
    let not_last : k + 1 ≢ n = eqb-false (k + 1) n inner in
    let low = mod_below level n some in
    let whole : level + 1 ≡ root_level layout level + (k + 1) = omega (arith, local_low level n) in
    let local : (level + 1) % n ≡ k + 1 = ap (λ l. l % n) whole ∙ local_of (root_level layout level) (k + 1) n (at_start level n some) (omega (arith, low, not_last)) in
    omega (arith, local, local_low level n)

pub roots_if_next : (layout : Layout) (level : ℕ) (last : Bool) (roots next frontier : List ℕ) → 1 ≤ layout.subtree_levels → is_last layout level ≡ last
    → AreRoots layout (root_level layout level) roots → AreRoots layout (level + 1) next → frontier ≡ frontier_if last roots next → AreRoots layout (root_level layout (level + 1)) frontier
roots_if_next layout level true roots next frontier some last are found is =
    let P : ℕ → Type 0 = λ l. AreRoots layout l next in
    let Q : List ℕ → Type 0 = AreRoots layout (root_level layout (level + 1)) in
    let start : level + 1 ≡ root_level layout (level + 1) = omega (arith, starts_next layout level some last) in
    subst Q (sym is) (subst P start found)
roots_if_next layout level false roots next frontier some last are found is =
    let P : ℕ → Type 0 = λ l. AreRoots layout l roots in
    let Q : List ℕ → Type 0 = AreRoots layout (root_level layout (level + 1)) in
    subst Q (sym is) (subst P (sym (inner_next layout level some last)) are)

-- a root whose pair told no fault has none
stays_good : (s : Scene) (region : Region) (level w : ℕ) → IsRootWord s.layout (root_level s.layout level) w → IsWalked s region level w
    → pair_fault s (word_pair s.layout.scheme level w) ≡ None → fault_of (s.outcome (word_tile s.layout.scheme w)) ≡ None
stays_good s region level w is walked none =
    let at : (word_tile s.layout.scheme w).level ≡ word_level w = tile_at_level s.layout.scheme (word_level w) (word_index w) in
    elim (cases_eq (level % s.layout.subtree_levels) 0) [
      | inl start ↦ sym (fault_at_own_level s level (word_tile s.layout.scheme w) (omega (arith, at, is.at_level, start))) ∙ none
      | inr inner ↦ walked.no_fault inner
    ]

-- in the same subtrees
stays : (s : Scene) (region : Region) (level : ℕ) (roots words after : List ℕ) → 1 ≤ s.layout.subtree_levels → is_last s.layout level ≡ false → AreRoots s.layout (root_level s.layout level) roots
    → IsAt s region level roots words → GoesOn s region (map (word_pair s.layout.scheme level) roots) words after → IsAt s region (level + 1) roots after
stays s region level roots words after some inner are is goes =
    let same : walk_roots s region (level + 1) ≡ walk_roots s region level =
    ap (λ l. filter (is_on_walk s region) (tiles_of_level s.layout.scheme l)) (inner_next s.layout level some inner) in
    let faults = of_map (λ p. pair_fault s p ≡ None) (word_pair s.layout.scheme level) roots goes.no_fault in
    record {
      goes = one_level_more s region level roots words after Partial is.tiles is.goes goes;
      tiles = is.tiles ∙ sym same;
      walked = λ k d low. record {
        on_walk = (is.walked k d low).on_walk;
        no_fault = λ not. stays_good s region level (get_or roots k d) (are k d low) (is.walked k d low) (faults k d low);
      };
    }

-- in new ones
goes_down : (s : Scene) (region : Region) (level : ℕ) (roots next words after : List ℕ) → 1 ≤ s.layout.subtree_levels → is_last s.layout level ≡ true
    → IsAt s region level roots words → GoesOn s region (map (word_pair s.layout.scheme level) roots) words after
    → map (word_tile s.layout.scheme) next ≡ flat_map (λ w. next_roots s region level (word_tile s.layout.scheme w)) roots → IsAt s region (level + 1) next after
goes_down s region level roots next words after some last is goes found =
    let n = s.layout.subtree_levels in
    let start = root_level s.layout level in
    let f = word_tile s.layout.scheme in
    let whole : start + level % n ≡ level = omega (arith, local_low level n) in
    let same : walk_roots s region level ≡ walk_roots s region start =
    ap (walk_roots s region) (sym whole) ∙ roots_of_inner_levels s region start (level % n) (at_start level n some) (mod_below level n some) in
    let tiles : map f next ≡ walk_roots s region (level + 1) =
    found ∙ flat_map_same (λ w. next_roots s region level (f w)) (λ w. roots_below s region (f w)) roots (λ k d low. ap (λ b. if_last b (roots_below s region (f (get_or roots k d)))) last)
    ∙ sym (flat_map-map (roots_below s region) f roots)
    ∙ ap (flat_map (roots_below s region)) (is.tiles ∙ same)
    ∙ sym (roots_go_down s region start some (at_start level n some))
    ∙ ap (walk_roots s region) (sym (last_local s.layout level last)) in
    record {
      goes = one_level_more s region level roots words after Partial is.tiles is.goes goes;
      tiles = tiles;
      walked = walked_at_start s region (level + 1) next (starts_next s.layout level some last) tiles;
    }

pub is_at_next : (s : Scene) (region : Region) (level : ℕ) (last : Bool) (roots next frontier none words after : List ℕ) → 1 ≤ s.layout.subtree_levels → is_last s.layout level ≡ last
    → AreRoots s.layout (root_level s.layout level) roots → IsAt s region level roots words → GoesOn s region (map (word_pair s.layout.scheme level) roots) words after → none ≡ []
    → map (word_tile s.layout.scheme) next ≡ map (word_tile s.layout.scheme) none ++ flat_map (λ w. next_roots s region level (word_tile s.layout.scheme w)) roots
    → frontier ≡ frontier_if last roots next → IsAt s region (level + 1) frontier after
is_at_next s region level true roots next frontier none words after some last are is goes empty found same =
    let P : List ℕ → Type 0 = λ ws. IsAt s region (level + 1) ws after in
    let new = found ∙ ap (λ ws. map (word_tile s.layout.scheme) ws ++ flat_map (λ w. next_roots s region level (word_tile s.layout.scheme w)) roots) empty in
    subst P (sym same) (goes_down s region level roots next words after some last is goes new)
is_at_next s region level false roots next frontier none words after some last are is goes empty found same =
    let P : List ℕ → Type 0 = λ ws. IsAt s region (level + 1) ws after in
    subst P (sym same) (stays s region level roots words after some last are is goes)
