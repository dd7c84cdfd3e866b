-- The words of the tiles in the subtree of a root: level by level they are those that are under it.
use Rattle.std.proofs.Common.{◌≡◌, ℕ, ◌+◌, ◌%◌, ◌<◌, ◌≤◌, true, List, ◌∷◌, [], ◌++◌, map, get_or, sym, ap, subst, ◌∙◌, append-nil, zero-add, arith}
use Rattle.std.specs.List.{All, flat_map, range_with_len, list_any}
use Rattle.std.proofs.Math.Nat.{add-mod_right}
use Rattle.std.proofs.lemmas.Bool.{eqb-true, eq-eqb}
use Rattle.std.proofs.lemmas.Grind.{flat_map-append}
use Rattle.std.proofs.lemmas.Nat.{mod_below}
use Rattle.std.proofs.lemmas.List.Folds.{Any-from_list_any, list_any_at}
use Rattle.std.proofs.lemmas.List.FromFn.{map-range_with_len_more, get_or-range_with_len, length-range_with_len}
use Rattle.implicit_tiling.specs.Tile.{Tile, ancestor}
use Rattle.implicit_tiling.specs.Scene.{Layout}
use Rattle.implicit_tiling.specs.Availability.{local_level, subtree_root, is_subtree_root}
use Rattle.implicit_tiling.specs.Code.{word_level, word_index}
use Rattle.tiling_laws.proofs.Nodes.{range_more}
use Rattle.tiling_laws.proofs.TileAt.{tile_at_is_tile}
use Rattle.tiling_laws.proofs.Walk.{filter_same}
use Rattle.walk_laws.proofs.Lists.{of_range}
use Rattle.walk_laws.proofs.Plain.{same_test}
use Rattle.walk_laws.proofs.Segments.{local_of, local_low}
use Rattle.build_laws.specs.Made.{tile_in, is_under, under, is_child_root, child_roots}
use Rattle.build_laws.proofs.Under.{same_says, same_from}
use Rattle.build_laws.proofs.Children.{IsChild, one_below, child_root_says, child_root_from}
use Rattle.tile_builder.specs.Runs.{is_below, words_below, inner_words}
use Rattle.tile_builder.proofs.Below.{below_says, below_from}
use Rattle.tile_builder.proofs.Alike.{AreAlike, filters_alike}

-- one number more
pub levels_more : {X : Type 0} (f : ℕ → List X) (n : ℕ) (before found after : List X) → before ≡ flat_map f (range_with_len 0 n) → found ≡ f n → after ≡ before ++ found
    → after ≡ flat_map f (range_with_len 0 (n + 1))
levels_more f n before found after are is more =
    more ∙ ap (λ w. w ++ found) are ∙ ap (λ w. flat_map f (range_with_len 0 n) ++ w) is
    ∙ sym (
    ap (flat_map f) (range_more 0 n) ∙ flat_map-append f (range_with_len 0 n) ((0 + n) ∷ [])
    ∙ ap (λ w. flat_map f (range_with_len 0 n) ++ w) (append-nil (f (0 + n))) ∙ ap (λ k. flat_map f (range_with_len 0 n) ++ f k) (zero-add n)
    )

pub list_more : {X : Type 0} (f : ℕ → X) (n : ℕ) (v : X) (before after : List X) → before ≡ map f (range_with_len 0 n) → v ≡ f n → after ≡ before ++ v ∷ []
    → after ≡ map f (range_with_len 0 (n + 1))
list_more f n v before after are is more =
    more ∙ ap (λ w. w ++ v ∷ []) are ∙ ap (λ y. map f (range_with_len 0 n) ++ y ∷ []) is ∙ sym (map-range_with_len_more f 0 n n (zero-add n))

-- ---- the levels of a subtree

-- a word of a level of the subtree is one under the root, and the other way round
level_is_under : (layout : Layout) (r : Tile) (w l : ℕ) → is_subtree_root layout r ≡ true → l < layout.subtree_levels → is_below layout r l w ≡ true → is_under layout r w ≡ true
level_is_under layout r w l starts low h =
    let t = tile_in layout w in
    let is = below_says layout r l w h in
    let local : t.level % layout.subtree_levels ≡ l =
    ap (λ n. n % layout.subtree_levels) is.level ∙ local_of r.level l layout.subtree_levels (eqb-true (local_level layout r) 0 starts) low in
    same_from (subtree_root layout t) r (ap (λ k. ancestor k t) local ∙ is.above)

under_is_at_level : (layout : Layout) (r : Tile) (w : ℕ) → is_under layout r w ≡ true → is_below layout r (local_level layout (tile_in layout w)) w ≡ true
under_is_at_level layout r w h =
    let t = tile_in layout w in
    let root = same_says (subtree_root layout t) r h in
    below_from layout r (local_level layout t) w (record {
      level = omega (arith, local_low t.level layout.subtree_levels, ap (λ (u : Tile). u.level) root);
      above = root;
    })

some_level_is_under : (layout : Layout) (r : Tile) (w : ℕ) → is_subtree_root layout r ≡ true
    → list_any (λ l. is_below layout r l w) (range_with_len 0 layout.subtree_levels) ≡ true → is_under layout r w ≡ true
some_level_is_under layout r w starts h =
    let levels = range_with_len 0 layout.subtree_levels in
    let P : ℕ → Type 0 = λ l. is_below layout r l w ≡ true → is_under layout r w ≡ true in
    let each : All P levels = of_range P 0 layout.subtree_levels (λ l low high. level_is_under layout r w l starts (omega (arith, high))) in
    let some = Any-from_list_any (λ l. is_below layout r l w) levels h in
    subst P some.3 (each some.0 some.1 some.2) some.4

under_is_at_some_level : (layout : Layout) (r : Tile) (w : ℕ) → 1 ≤ layout.subtree_levels → is_under layout r w ≡ true
    → list_any (λ l. is_below layout r l w) (range_with_len 0 layout.subtree_levels) ≡ true
under_is_at_some_level layout r w some h =
    let levels = layout.subtree_levels in
    let l = local_level layout (tile_in layout w) in
    let low : l < levels = mod_below (tile_in layout w).level levels some in
    let at : get_or (range_with_len 0 levels) l 0 ≡ l = get_or-range_with_len 0 levels l 0 low ∙ zero-add l in
    list_any_at (λ k. is_below layout r k w) (range_with_len 0 levels) l 0 (omega (arith, low, length-range_with_len 0 levels))
    (subst (λ k. is_below layout r k w ≡ true) (sym at) (under_is_at_level layout r w h))

pub inner_is_under : (layout : Layout) (words : List ℕ) (r : Tile) → 1 ≤ layout.subtree_levels → is_subtree_root layout r ≡ true
    → AreAlike (inner_words layout words r) (under layout r words)
inner_is_under layout words r some starts =
    filters_alike (is_below layout r) (is_under layout r) (range_with_len 0 layout.subtree_levels) words
    (λ w. same_test (list_any (λ l. is_below layout r l w) (range_with_len 0 layout.subtree_levels)) (is_under layout r w)
    (some_level_is_under layout r w starts) (under_is_at_some_level layout r w some))

-- ---- the roots right below it

below_is_child : (layout : Layout) (r : Tile) (w : ℕ) → 1 ≤ layout.subtree_levels → is_subtree_root layout r ≡ true → is_below layout r layout.subtree_levels w ≡ true
    → is_child_root layout r w ≡ true
below_is_child layout r w some starts h =
    let t = tile_in layout w in
    let levels = layout.subtree_levels in
    let is = below_says layout r levels w h in
    let start : local_level layout t ≡ 0 = ap (λ n. n % levels) is.level ∙ add-mod_right r.level levels ∙ eqb-true (local_level layout r) 0 starts in
    let child : IsChild layout t = record {
      tile = tile_at_is_tile layout.scheme (word_level w) (word_index w);
      below = let level = is.level in omega (arith, level, some);
      starts = eq-eqb (local_level layout t) 0 start;
    } in
    child_root_from layout r w child ((one_below layout t some child).above ∙ is.above)

child_is_below : (layout : Layout) (r : Tile) (w : ℕ) → 1 ≤ layout.subtree_levels → is_child_root layout r w ≡ true → is_below layout r layout.subtree_levels w ≡ true
child_is_below layout r w some h =
    let t = tile_in layout w in
    let says = child_root_says layout r w h in
    let one = one_below layout t some says.0 in
    let above : ancestor layout.subtree_levels t ≡ r = sym one.above ∙ says.1 in
    below_from layout r layout.subtree_levels w (record {
      level = let deep = one.deep in omega (arith, deep, ap (λ (u : Tile). u.level) above);
      above = above;
    })

pub below_are_children : (layout : Layout) (words : List ℕ) (r : Tile) → 1 ≤ layout.subtree_levels → is_subtree_root layout r ≡ true
    → words_below layout words r layout.subtree_levels ≡ child_roots layout r words
below_are_children layout words r some starts =
    filter_same (is_below layout r layout.subtree_levels) (is_child_root layout r) words
    (λ i d h. let w = get_or words i d in
    same_test (is_below layout r layout.subtree_levels w) (is_child_root layout r w) (below_is_child layout r w some starts) (child_is_below layout r w some))
