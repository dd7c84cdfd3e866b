-- The tiles of whole words: those above a tile are among them, and so are the roots that have a file.
use Rattle.std.proofs.Common.{◌≡◌, ℕ, zero, suc, ◌<◌, ◌≤◌, true, List, [], ◌∷◌, refl, sym, ap, subst, ◌∙◌, arith, add-one, inl, inr}
use Rattle.std.specs.Prelude.{◌&&◌, ◌==◌}
use Rattle.std.specs.List.{Contains}
use Rattle.std.proofs.lemmas.Bool.{and_parts, and_from, eqb-true, eq-eqb}
use Rattle.std.proofs.lemmas.List.Elements.{All-contains}
use Rattle.implicit_tiling.specs.declared.Scheme.{Scheme}
use Rattle.implicit_tiling.specs.Tile.{Tile, IsTile, root, ancestor, parent}
use Rattle.implicit_tiling.specs.Scene.{Layout}
use Rattle.implicit_tiling.specs.Availability.{local_level, subtree_root, is_subtree_root, IsRootOf}
use Rattle.implicit_tiling.specs.Code.{word_level, word_index, word_tile}
use Rattle.tiling_laws.proofs.TileAt.{same_tile, tile_at_level, tile_at_is_tile}
use Rattle.tiling_laws.proofs.Ancestors.{ancestor_is_tile, ancestor_of_ancestor}
use Rattle.tiling_laws.proofs.Subtrees.{ancestor_none}
use Rattle.tiling_laws.proofs.Available.{top_is_root}
use Rattle.tiling_laws.proofs.Rising.{none_in_nil, contains_first, contains_cases, in_filtered}
use Rattle.walk_laws.proofs.Segments.{local_low, at_start}
use Rattle.tile_occupancy.specs.Occupied.{IsWordBelow, AreWordsBelow, is_same, tiles_of, HasParent, IsOccupancy}
use Rattle.tile_occupancy.proofs.Parents.{only_root}
use Rattle.build_laws.specs.Made.{made_roots}
use Rattle.build_laws.proofs.Bits.{from_map}

-- the test of two tiles
pub same_says : (t u : Tile) → is_same t u ≡ true → t ≡ u
same_says t u h =
    let z = and_parts (t.level == u.level && t.x == u.x && t.y == u.y) (t.z == u.z) h in
    let y = and_parts (t.level == u.level && t.x == u.x) (t.y == u.y) z.0 in
    let x = and_parts (t.level == u.level) (t.x == u.x) y.0 in
    same_tile t u (eqb-true t.level u.level x.0) (eqb-true t.x u.x x.1) (eqb-true t.y u.y y.1) (eqb-true t.z u.z z.1)

pub same_from : (t u : Tile) → t ≡ u → is_same t u ≡ true
same_from t u same =
    and_from (t.level == u.level && t.x == u.x && t.y == u.y) (t.z == u.z)
    (and_from (t.level == u.level && t.x == u.x) (t.y == u.y)
    (and_from (t.level == u.level) (t.x == u.x) (eq-eqb t.level u.level (ap (λ (v : Tile). v.level) same)) (eq-eqb t.x u.x (ap (λ (v : Tile). v.x) same)))
    (eq-eqb t.y u.y (ap (λ (v : Tile). v.y) same)))
    (eq-eqb t.z u.z (ap (λ (v : Tile). v.z) same))

-- each is a tile below the levels in all
pub is_tile : (scheme : Scheme) (words : List ℕ) (t : Tile) → Contains (tiles_of scheme words) t → IsTile scheme t
is_tile scheme words t there =
    let one = from_map (word_tile scheme) words t there in
    subst (IsTile scheme) one.gives (tile_at_is_tile scheme (word_level one.element) (word_index one.element))

pub is_low : (scheme : Scheme) (levels : ℕ) (words : List ℕ) (t : Tile) → AreWordsBelow scheme levels words → Contains (tiles_of scheme words) t → t.level < levels
is_low scheme levels words t are there =
    let one = from_map (word_tile scheme) words t there in
    let low = (All-contains (IsWordBelow scheme levels) words one.element are one.there).low in
    let level : word_level one.element ≡ t.level = sym (tile_at_level scheme (word_level one.element) (word_index one.element)) ∙ ap (λ (u : Tile). u.level) one.gives in
    subst (λ l. l < levels) level low

-- and those above it are among them
pub parent_there : (scheme : Scheme) (levels : ℕ) (words : List ℕ) (t : Tile) → IsOccupancy scheme levels words → Contains (tiles_of scheme words) t → 0 < t.level
    → Contains (tiles_of scheme words) (parent t)
parent_there scheme levels words t whole there below =
    elim (All-contains (HasParent (tiles_of scheme words)) (tiles_of scheme words) t whole.have_parents there) [
      | inl top ↦ absurd (omega (arith, below, ap (λ (u : Tile). u.level) top))
      | inr above ↦ above
    ]

pub ancestor_there : (scheme : Scheme) (levels : ℕ) (words : List ℕ) (k : ℕ) (t : Tile) → IsOccupancy scheme levels words → Contains (tiles_of scheme words) t → k ≤ t.level
    → Contains (tiles_of scheme words) (ancestor k t)
ancestor_there scheme levels words zero t whole there le = subst (Contains (tiles_of scheme words)) (sym (ancestor_none t)) there
ancestor_there scheme levels words (suc k) t whole there le =
    let up : ancestor 1 (ancestor k t) ≡ ancestor (suc k) t = ancestor_of_ancestor 1 k t ∙ ap (λ j. ancestor j t) (add-one k) in
    subst (Contains (tiles_of scheme words)) up
    (parent_there scheme levels words (ancestor k t) whole (ancestor_there scheme levels words k t whole there (omega arith)) (omega arith))

pub root_there : (scheme : Scheme) (levels : ℕ) (words : List ℕ) (t : Tile) → IsOccupancy scheme levels words → Contains (tiles_of scheme words) t → Contains (tiles_of scheme words) root
root_there scheme levels words t whole there =
    let top : ancestor t.level t ≡ root = only_root scheme (ancestor t.level t) (ancestor_is_tile scheme t.level t (is_tile scheme words t there)) (omega arith) in
    subst (Contains (tiles_of scheme words)) top (ancestor_there scheme levels words t.level t whole there (omega arith))

-- the root of a subtree is one
pub root_starts : (layout : Layout) (t : Tile) → 1 ≤ layout.subtree_levels → is_subtree_root layout (subtree_root layout t) ≡ true
root_starts layout t some = eq-eqb (local_level layout (subtree_root layout t)) 0 (at_start t.level layout.subtree_levels some)

-- the roots that have a file
pub root_is_made : (layout : Layout) (words : List ℕ) → IsOccupancy layout.scheme layout.levels words → Contains (made_roots layout words) root
root_is_made layout [] whole = contains_first root []
root_is_made layout (w ∷ words) whole =
    (in_filtered (is_subtree_root layout) (tiles_of layout.scheme (w ∷ words)) root).1
    (root_there layout.scheme layout.levels (w ∷ words) (word_tile layout.scheme w) whole (contains_first (word_tile layout.scheme w) (tiles_of layout.scheme words)), top_is_root layout root refl)

pub made_from : (layout : Layout) (words : List ℕ) (r : Tile) → Contains (tiles_of layout.scheme words) r → is_subtree_root layout r ≡ true → Contains (made_roots layout words) r
made_from layout [] r there starts = absurd (none_in_nil r there)
made_from layout (w ∷ words) r there starts = (in_filtered (is_subtree_root layout) (tiles_of layout.scheme (w ∷ words)) r).1 (there, starts)

pub subtree_is_made : (layout : Layout) (words : List ℕ) (t : Tile) → 1 ≤ layout.subtree_levels → IsOccupancy layout.scheme layout.levels words → Contains (tiles_of layout.scheme words) t
    → Contains (made_roots layout words) (subtree_root layout t)
subtree_is_made layout words t some whole there =
    made_from layout words (subtree_root layout t)
    (ancestor_there layout.scheme layout.levels words (local_level layout t) t whole there (local_low t.level layout.subtree_levels)) (root_starts layout t some)

-- each is a tile of the layout with which a subtree may begin
pub made_is : (layout : Layout) (words : List ℕ) (r : Tile) → 1 ≤ layout.levels → AreWordsBelow layout.scheme layout.levels words → Contains (made_roots layout words) r → IsRootOf layout r
made_is layout [] r some are there =
    elim (contains_cases root [] r there) [
      | inl same ↦ subst (IsRootOf layout) same (record { is_tile = tile_at_is_tile layout.scheme 0 0; within = omega (arith, some); at_start = top_is_root layout root refl })
      | inr later ↦ absurd (none_in_nil r later)
    ]
made_is layout (w ∷ words) r some are there =
    let is = (in_filtered (is_subtree_root layout) (tiles_of layout.scheme (w ∷ words)) r).0 there in
    record { is_tile = is_tile layout.scheme (w ∷ words) r is.0; within = is_low layout.scheme layout.levels (w ∷ words) r are is.0; at_start = is.1 }
