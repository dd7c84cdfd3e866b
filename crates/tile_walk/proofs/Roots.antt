-- Subtree roots as words: the first one, those of child roots, and what their files hold.
use Rattle.std.proofs.Common.{◌≡◌, ℕ, zero, suc, ◌+◌, ◌%◌, ◌<◌, ◌≤◌, true, List, [], ◌∷◌, ◌++◌, length, map, take, get_or, refl, sym, ap, subst, ◌∙◌, arith, lit<, append_assoc, append-nil}
use Rattle.std.specs.List.{flat_map, All}
use Rattle.std.proofs.lemmas.List.{get_or-map, length-map, take_more}
use Rattle.std.proofs.lemmas.Grind.{flat_map-append}
use Rattle.std.proofs.Math.Nat.{zero-mod}
use Rattle.std.proofs.lemmas.Bool.{and_parts}
use Rattle.std.proofs.lemmas.List.Elements.{All-nil, All-cons, All-take, filter_passes}
use Rattle.implicit_tiling.specs.declared.Scheme.{Scheme}
use Rattle.implicit_tiling.specs.declared.Scheme.TheVariants.{Quad, Oct}
use Rattle.implicit_tiling.specs.Limits.{most_levels}
use Rattle.implicit_tiling.specs.Tile.{Tile, tiles_of_level, root}
use Rattle.implicit_tiling.specs.Region.{Region, is_in}
use Rattle.implicit_tiling.specs.Scene.{Layout, Scene, good}
use Rattle.implicit_tiling.specs.Availability.{is_reached}
use Rattle.implicit_tiling.specs.Answer.{is_on_walk}
use Rattle.implicit_tiling.specs.Subtree.{Subtree, IsSubtree, IsOf, bits_of}
use Rattle.implicit_tiling.specs.Code.{word, word_tile, word_level, word_index, IsWord}
use Rattle.implicit_tiling.specs.Steps.{root_level, walk_roots}
use Rattle.tiling_laws.proofs.TileAt.{root_is_tile, tile_at_level}
use Rattle.walk_laws.specs.Decoded.{IsDecoded}
use Rattle.walk_laws.specs.Regions.{IsRegion}
use Rattle.walk_laws.proofs.Children.{next_level}
use Rattle.walk_laws.proofs.Regions.{roots_begin_at_the_root}
use Rattle.region_scan.specs.NodeLaws.{IsNodeWord}
use Rattle.tile_word.specs.Words.{HasWord}
use Rattle.tile_word.specs.Roots.{IsRootWord, AreRoots}
use Rattle.tile_word.proofs.Tiles.{words_have_their_parts}
use Rattle.subtree_outcome.specs.Outcomes.{IsFoundAt}
use Rattle.tile_walk.proofs.Words.{tile_of_word}

-- the root's word
root_within : (scheme : Scheme) → 0 < most_levels scheme
root_within Quad = lit< tt
root_within Oct = lit< tt

pub root_has_word : (scheme : Scheme) → HasWord scheme root
root_has_word scheme = record { is_tile = root_is_tile scheme; within = root_within scheme }

first_word : (layout : Layout) (scheme : Scheme) → scheme ≡ layout.scheme → 1 ≤ layout.levels → IsRootWord layout 0 (word scheme root 0)
first_word layout scheme same some =
    let parts = words_have_their_parts layout.scheme root 0 (root_has_word layout.scheme) (lit< tt) in
    let P : Scheme → Type 0 = λ e. IsRootWord layout 0 (word e root 0) in
    subst P (sym same) (record {
      is_word = parts.is_word;
      no_mask = parts.mask;
      at_level = sym (tile_at_level layout.scheme (word_level (word layout.scheme root 0)) (word_index (word layout.scheme root 0))) ∙ ap (λ (t : Tile). t.level) parts.tile;
      below = some;
      at_start = zero-mod layout.subtree_levels;
    })

pub first_roots_are : (layout : Layout) (scheme : Scheme) (roots : List ℕ) → scheme ≡ layout.scheme → 1 ≤ layout.levels → roots ≡ word scheme root 0 ∷ [] → AreRoots layout 0 roots
first_roots_are layout scheme roots same some is =
    let P : List ℕ → Type 0 = AreRoots layout 0 in
    subst P (sym is) (All-cons (IsRootWord layout 0) (word scheme root 0) [] (first_word layout scheme same some) (All-nil (IsRootWord layout 0)))

-- its tile is the one root of level 0
pub first_tiles : (s : Scene) (region : Region) (scheme : Scheme) (roots : List ℕ) → scheme ≡ s.layout.scheme → 1 ≤ s.layout.levels → IsRegion region → roots ≡ word scheme root 0 ∷ []
    → map (word_tile s.layout.scheme) roots ≡ walk_roots s region 0
first_tiles s region scheme roots same some is first =
    ap (map (word_tile s.layout.scheme)) (first ∙ ap (λ e. word e root 0 ∷ []) same)
    ∙ ap (λ t. t ∷ []) (tile_of_word s.layout.scheme root (root_has_word s.layout.scheme)) ∙ sym (roots_begin_at_the_root s region some is)

-- the words of child roots are root words of the next level
pub child_is_root : (layout : Layout) (st : Subtree) (region : Region) (level w : ℕ) → IsOf layout st → 1 ≤ layout.subtree_levels → st.root.level + st.levels ≡ level + 1
    → IsNodeWord st region st.levels 1 w → IsRootWord layout (level + 1) w
child_is_root layout st region level w of some next is = record {
  is_word = let P : Scheme → Type 0 = λ e. IsWord e w in subst P of.same_scheme is.is_word;
  no_mask = omega (arith, is.mask);
  at_level = is.level ∙ next;
  below = omega (arith, is.below_cut, is.level, next, of.same_cut);
  at_start = let whole : st.root.level + layout.subtree_levels ≡ level + 1 = omega (arith, of.same_levels, next) in
      ap (λ l. l % layout.subtree_levels) (sym whole) ∙ next_level st.root.level layout.subtree_levels some of.root_at_start;
}

-- what a good file makes of a root on the walk
pub decoded : (s : Scene) (region : Region) (w : ℕ) (st : Subtree) (r : Tile) → IsSubtree st → IsFoundAt s.layout r st → r ≡ word_tile s.layout.scheme w
    → is_on_walk s region (word_tile s.layout.scheme w) ≡ true → s.outcome r ≡ good (bits_of st) → IsDecoded s st
decoded s region w st r limits found same walked is = record {
  within_limits = limits;
  of_layout = found.of_layout;
  no_orphan = found.no_orphan;
  same_bits = ap s.outcome found.at_root ∙ is;
  reached = ap (is_reached s) (found.at_root ∙ same) ∙ (and_parts (is_reached s (word_tile s.layout.scheme w)) (is_in region (word_tile s.layout.scheme w)) walked).0;
}

-- what holds of what is made of some elements holds of those
pub of_map : {X Y : Type 0} (P : Y → Type 0) (f : X → Y) (xs : List X) → All P (map f xs) → All (λ x. P (f x)) xs
of_map P f xs all = λ k d low. subst P (get_or-map f xs k d (f d) low) (all k (f d) (omega (arith, low, length-map xs f)))

-- roots on the walk
pub on_walk : (s : Scene) (region : Region) (level : ℕ) (roots : List ℕ) → map (word_tile s.layout.scheme) roots ≡ walk_roots s region level
    → All (λ w. is_on_walk s region (word_tile s.layout.scheme w) ≡ true) roots
on_walk s region level roots is =
    let P : List Tile → Type 0 = All (λ r. is_on_walk s region r ≡ true) in
    of_map (λ r. is_on_walk s region r ≡ true) (word_tile s.layout.scheme) roots
    (subst P (sym is) (filter_passes (is_on_walk s region) (tiles_of_level s.layout.scheme (root_level s.layout level))))

-- and those that are kept of such roots
pub kept_on_walk : (s : Scene) (region : Region) (level n : ℕ) (roots : List ℕ) → map (word_tile s.layout.scheme) roots ≡ take n (walk_roots s region level)
    → All (λ w. is_on_walk s region (word_tile s.layout.scheme w) ≡ true) roots
kept_on_walk s region level n roots is =
    let P : List Tile → Type 0 = All (λ r. is_on_walk s region r ≡ true) in
    of_map (λ r. is_on_walk s region r ≡ true) (word_tile s.layout.scheme) roots
    (subst P (sym is) (All-take (λ r. is_on_walk s region r ≡ true) n (walk_roots s region level)
    (filter_passes (is_on_walk s region) (tiles_of_level s.layout.scheme (root_level s.layout level)))))

-- what one root more brings
one_more : (f : ℕ → Tile) (g : ℕ → List Tile) (roots old : List ℕ) (i : ℕ) → i < length roots
    → (map f old ++ flat_map g (take i roots)) ++ g (get_or roots i 0) ≡ map f old ++ flat_map g (take (i + 1) roots)
one_more f g roots old i low =
    let r = get_or roots i 0 in
    append_assoc (map f old) (flat_map g (take i roots)) (g r)
    ∙ ap (λ w. map f old ++ w) (ap (λ w. flat_map g (take i roots) ++ w) (sym (append-nil (g r))) ∙ sym (flat_map-append g (take i roots) (r ∷ [])) ∙ ap (flat_map g) (sym (take_more roots i 0 low)))

-- the roots that follow, root by root
pub one_next_more : (f : ℕ → Tile) (g : ℕ → List Tile) (roots old mid new : List ℕ) (i : ℕ) → i < length roots
    → map f mid ≡ map f old ++ flat_map g (take i roots) → map f new ≡ map f mid ++ g (get_or roots i 0) → map f new ≡ map f old ++ flat_map g (take (i + 1) roots)
one_next_more f g roots old mid new i low so is = is ∙ ap (λ w. w ++ g (get_or roots i 0)) so ∙ one_more f g roots old i low

-- what is kept of some elements and then of more is what is kept of all
kept_more : {X : Type 0} (n : ℕ) (xs ys : List X) → take n (take n xs ++ ys) ≡ take n (xs ++ ys)
kept_more zero xs ys = refl
kept_more (suc n) [] ys = refl
kept_more (suc n) (x ∷ xs) ys = ap (λ zs. x ∷ zs) (kept_more n xs ys)

-- those of them that are kept, root by root
pub one_kept_more : (f : ℕ → Tile) (g : ℕ → List Tile) (n : ℕ) (roots old mid new : List ℕ) (i : ℕ) → i < length roots
    → map f mid ≡ take n (map f old ++ flat_map g (take i roots)) → map f new ≡ take n (map f mid ++ g (get_or roots i 0)) → map f new ≡ take n (map f old ++ flat_map g (take (i + 1) roots))
one_kept_more f g n roots old mid new i low so is =
    let r = get_or roots i 0 in
    is ∙ ap (λ w. take n (w ++ g r)) so ∙ kept_more n (map f old ++ flat_map g (take i roots)) (g r) ∙ ap (take n) (one_more f g roots old i low)
