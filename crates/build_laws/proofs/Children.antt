-- The child bits of a made subtree, by the roots right below it.
use Rattle.std.proofs.Common.{◌≡◌, ℕ, zero, suc, ◌+◌, ◌-◌, ◌*◌, ◌/◌, ◌%◌, ◌^◌, ◌<◌, ◌≤◌, true, List, sym, ap, subst, ◌∙◌, arith}
use Rattle.std.specs.Prelude.{◌&&◌, nat_lt}
use Rattle.std.specs.List.{Contains}
use Rattle.std.proofs.Math.Nat.{div-add-mod}
use Rattle.std.proofs.lemmas.Nat.{mod-mul-add}
use Rattle.std.proofs.lemmas.Bool.{and_parts, and_from, ltb-true, lt-ltb, eqb-true}
use Rattle.implicit_tiling.specs.Tile.{Tile, IsTile, branching, ancestor, parent, index}
use Rattle.implicit_tiling.specs.Scene.{Layout}
use Rattle.implicit_tiling.specs.Availability.{local_level, subtree_root, is_subtree_root}
use Rattle.implicit_tiling.specs.Bits.{bit_at}
use Rattle.implicit_tiling.specs.Code.{word_level, word_index, word_tile}
use Rattle.tiling_laws.proofs.TileAt.{tile_at_is_tile, tile_from_index}
use Rattle.tiling_laws.proofs.Ancestors.{ancestor_of_ancestor, ancestor_index}
use Rattle.tiling_laws.proofs.Rising.{in_filtered}
use Rattle.tile_occupancy.specs.Occupied.{is_same, tiles_of}
use Rattle.build_laws.specs.Made.{tile_in, is_child_root, child_roots, child_bits}
use Rattle.build_laws.proofs.Bits.{into_map, from_map, child_says, child_from}
use Rattle.build_laws.proofs.Under.{same_says, same_from}

-- a tile below level 0 with which a subtree begins
pub record IsChild (layout : Layout) (t : Tile) : Type 0 where
  pub tile : IsTile layout.scheme t
  pub below : 0 < t.level
  pub starts : is_subtree_root layout t ≡ true

-- it is one subtree below the root of the subtree that its parent is in
one_subtree : (n levels q : ℕ) → 1 ≤ levels → 0 < n → q * levels ≡ n → (levels ≤ n) × (1 + (n - 1) % levels ≡ levels)
one_subtree n levels zero some below whole = absurd (omega (arith, below, whole))
one_subtree n levels (suc q) some below whole =
    let last : n - 1 ≡ q * levels + (levels - 1) = omega (arith, some, whole) in
    let local : (n - 1) % levels ≡ levels - 1 = ap (λ w. w % levels) last ∙ mod-mul-add q levels (levels - 1) (omega (arith, some)) in
    (omega (arith, whole), omega (arith, some, local))

pub record IsOneBelow (layout : Layout) (t : Tile) : Type 0 where
  pub deep : layout.subtree_levels ≤ t.level
  pub above : subtree_root layout (parent t) ≡ ancestor layout.subtree_levels t

pub one_below : (layout : Layout) (t : Tile) → 1 ≤ layout.subtree_levels → IsChild layout t → IsOneBelow layout t
one_below layout t some is =
    let start : t.level % layout.subtree_levels ≡ 0 = eqb-true (local_level layout t) 0 is.starts in
    let whole : t.level / layout.subtree_levels * layout.subtree_levels ≡ t.level = omega (arith, start, div-add-mod t.level layout.subtree_levels) in
    let parts = one_subtree t.level layout.subtree_levels (t.level / layout.subtree_levels) some is.below whole in
    record {
      deep = parts.0;
      above = ancestor_of_ancestor ((t.level - 1) % layout.subtree_levels) 1 t ∙ ap (λ k. ancestor k t) parts.1;
    }

-- two such tiles below one root at one place are one tile
pub one_child : (layout : Layout) (t u : Tile) → 1 ≤ layout.subtree_levels → IsChild layout t → IsChild layout u
    → subtree_root layout (parent t) ≡ subtree_root layout (parent u)
    → index layout.scheme t % branching layout.scheme ^ layout.subtree_levels ≡ index layout.scheme u % branching layout.scheme ^ layout.subtree_levels → t ≡ u
one_child layout t u some one other root place =
    let scheme = layout.scheme in
    let levels = layout.subtree_levels in
    let count = branching scheme ^ levels in
    let i = index scheme t in
    let j = index scheme u in
    let up = one_below layout t some one in
    let over = one_below layout u some other in
    let same : ancestor levels t ≡ ancestor levels u = sym up.above ∙ root ∙ over.above in
    let level : t.level - levels ≡ u.level - levels = ap (λ (r : Tile). r.level) same in
    let quotient : i / count ≡ j / count = sym (ancestor_index scheme levels t up.deep) ∙ ap (index scheme) same ∙ ancestor_index scheme levels u over.deep in
    let index_same : i ≡ j = sym (div-add-mod i count) ∙ ap (λ w. count * w + i % count) quotient ∙ ap (λ w. count * (j / count) + w) place ∙ div-add-mod j count in
    tile_from_index scheme t u one.tile other.tile (omega (arith, level, up.deep, over.deep)) index_same

-- what the test of a word says
pub child_root_says : (layout : Layout) (r : Tile) (w : ℕ) → is_child_root layout r w ≡ true → IsChild layout (tile_in layout w) × (subtree_root layout (parent (tile_in layout w)) ≡ r)
child_root_says layout r w h =
    let t = tile_in layout w in
    let last = and_parts (nat_lt 0 t.level && is_subtree_root layout t) (is_same (subtree_root layout (parent t)) r) h in
    let parts = and_parts (nat_lt 0 t.level) (is_subtree_root layout t) last.0 in (
      record { tile = tile_at_is_tile layout.scheme (word_level w) (word_index w); below = ltb-true 0 t.level parts.0; starts = parts.1 },
      same_says (subtree_root layout (parent t)) r last.1,
    )

pub child_root_from : (layout : Layout) (r : Tile) (w : ℕ) → IsChild layout (tile_in layout w) → subtree_root layout (parent (tile_in layout w)) ≡ r → is_child_root layout r w ≡ true
child_root_from layout r w is root =
    let t = tile_in layout w in
    and_from (nat_lt 0 t.level && is_subtree_root layout t) (is_same (subtree_root layout (parent t)) r)
    (and_from (nat_lt 0 t.level) (is_subtree_root layout t) (lt-ltb 0 t.level is.below) is.starts) (same_from (subtree_root layout (parent t)) r root)

-- the child bit of such a tile is 1 where it is one of the tiles
abbrev pub HasChildBit : Layout → List ℕ → Tile → Type 0
HasChildBit layout words t =
    bit_at (child_bits layout (child_roots layout (subtree_root layout (parent t)) words)) (index layout.scheme t % branching layout.scheme ^ layout.subtree_levels) ≡ true

pub tile_of_child : (layout : Layout) (words : List ℕ) (t : Tile) → 1 ≤ layout.subtree_levels → IsChild layout t → HasChildBit layout words t → Contains (tiles_of layout.scheme words) t
tile_of_child layout words t some is one =
    let r = subtree_root layout (parent t) in
    let from = child_says layout (child_roots layout r words) (index layout.scheme t % branching layout.scheme ^ layout.subtree_levels) one in
    let w = from.element in
    let kept = (in_filtered (is_child_root layout r) words w).0 from.there in
    let says = child_root_says layout r w kept.1 in
    subst (Contains (tiles_of layout.scheme words)) (one_child layout (tile_in layout w) t some says.0 is says.1 from.gives)
    (into_map (word_tile layout.scheme) words w kept.0)

pub child_of_tile : (layout : Layout) (words : List ℕ) (t : Tile) → IsChild layout t → Contains (tiles_of layout.scheme words) t → HasChildBit layout words t
child_of_tile layout words t is there =
    let r = subtree_root layout (parent t) in
    let from = from_map (word_tile layout.scheme) words t there in
    let w = from.element in
    let own : IsChild layout (tile_in layout w) = subst (IsChild layout) (sym from.gives) is in
    let root : subtree_root layout (parent (tile_in layout w)) ≡ r = ap (λ u. subtree_root layout (parent u)) from.gives in
    let kept = (in_filtered (is_child_root layout r) words w).1 (from.there, child_root_from layout r w own root) in
    subst (λ u. bit_at (child_bits layout (child_roots layout r words)) (index layout.scheme u % branching layout.scheme ^ layout.subtree_levels) ≡ true) from.gives
    (child_from layout (child_roots layout r words) w kept)
