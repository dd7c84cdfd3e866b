-- The available tiles of a level of a region, split by the subtree roots on the walk.
use Rattle.std.proofs.Common.{◌≡◌, ℕ, ◌+◌, ◌-◌, ◌*◌, ◌/◌, ◌%◌, ◌^◌, ◌<◌, ◌≤◌, Bool, true, false, List, [], refl, sym, ap, ◌∙◌, arith}
use Rattle.std.specs.Prelude.{◌&&◌, filter}
use Rattle.std.specs.List.{flat_map, All}
use Rattle.std.proofs.Math.Nat.{div-add-mod}
use Rattle.std.proofs.lemmas.Nat.{mod_below, mod-mul-add}
use Rattle.std.proofs.lemmas.Bool.{and_parts, and_from, false_from_ne_true, both_ways}
use Rattle.std.proofs.lemmas.List.Elements.{All-filter}
use Rattle.implicit_tiling.specs.Tile.{Tile, IsTile, branching, ancestor, tile_at, tiles_of_level}
use Rattle.implicit_tiling.specs.Region.{Region, is_in}
use Rattle.implicit_tiling.specs.Scene.{Layout, Scene}
use Rattle.implicit_tiling.specs.Availability.{local_level, subtree_root, is_available, is_reached}
use Rattle.implicit_tiling.specs.Answer.{is_on_walk}
use Rattle.implicit_tiling.specs.Steps.{descendants, root_level, walk_roots, pair_of, segment}
use Rattle.tiling_laws.proofs.TileAt.{tile_at_is_tile, tile_at_level}
use Rattle.tiling_laws.proofs.Available.{available_reached}
use Rattle.tiling_laws.proofs.Walk.{ancestor_in_region}
use Rattle.walk_laws.proofs.Lists.{flat_map_same, filter_none, filter-flat_map, flat_map_kept}
use Rattle.walk_laws.proofs.Runs.{below, below_level, below_ancestor, of_descendants, of_level, levels_split}

-- levels of one subtree
pub local_of : (n k levels : ℕ) → n % levels ≡ 0 → k < levels → (n + k) % levels ≡ k
local_of n k levels start low =
    let whole : n + k ≡ n / levels * levels + k = omega (arith, div-add-mod n levels) in
    ap (λ w. w % levels) whole ∙ mod-mul-add (n / levels) levels k low

pub local_low : (l levels : ℕ) → l % levels ≤ l
local_low l levels = omega (arith, div-add-mod l levels)

pub at_start : (l levels : ℕ) → 1 ≤ levels → (l - l % levels) % levels ≡ 0
at_start l levels some =
    let whole : l - l % levels ≡ l / levels * levels + 0 = omega (arith, div-add-mod l levels) in
    ap (λ w. w % levels) whole ∙ mod-mul-add (l / levels) levels 0 (omega arith)

pub level_parts : (l levels : ℕ) → l ≡ l - l % levels + l % levels
level_parts l levels = omega (arith, local_low l levels)

-- the tile of number j of level k of the subtree of r
pub below_local : (layout : Layout) (k : ℕ) (r : Tile) (j : ℕ) → r.level % layout.subtree_levels ≡ 0 → k < layout.subtree_levels
    → local_level layout (below layout.scheme k r j) ≡ k
below_local layout k r j start low = ap (λ l. l % layout.subtree_levels) (below_level layout.scheme k r j) ∙ local_of r.level k layout.subtree_levels start low

pub below_root : (layout : Layout) (k : ℕ) (r : Tile) (j : ℕ) → IsTile layout.scheme r → r.level % layout.subtree_levels ≡ 0 → k < layout.subtree_levels
    → j < branching layout.scheme ^ k → subtree_root layout (below layout.scheme k r j) ≡ r
below_root layout k r j tile start low h =
    ap (λ e. ancestor e (below layout.scheme k r j)) (below_local layout k r j start low) ∙ below_ancestor layout.scheme k r j tile h

-- an ancestor on the walk
pub on_walk_from : (s : Scene) (region : Region) (k : ℕ) (t r : Tile) → k ≤ t.level → ancestor k t ≡ r → is_reached s r ≡ true → is_in region t ≡ true
    → is_on_walk s region r ≡ true
on_walk_from s region k t r le up reached within =
    and_from (is_reached s r) (is_in region r) reached (sym (ap (is_in region) up) ∙ ancestor_in_region region k t le within)

-- the root of a subtree with an available tile in the region is on the walk
pub root_on_walk : (s : Scene) (region : Region) (k : ℕ) (r : Tile) (j : ℕ) → IsTile s.layout.scheme r → r.level % s.layout.subtree_levels ≡ 0
    → k < s.layout.subtree_levels → j < branching s.layout.scheme ^ k
    → (is_in region (below s.layout.scheme k r j) && is_available s (below s.layout.scheme k r j)) ≡ true → is_on_walk s region r ≡ true
root_on_walk s region k r j tile start low h both =
    let t = below s.layout.scheme k r j in
    let parts = and_parts (is_in region t) (is_available s t) both in
    on_walk_from s region k t r (omega (arith, below_level s.layout.scheme k r j)) (below_ancestor s.layout.scheme k r j tile h)
    (sym (ap (is_reached s) (below_root s.layout k r j tile start low h)) ∙ available_reached s t.level t refl parts.1) parts.0

-- a root that isn't on the walk has no tile
pub nothing_off_walk : (s : Scene) (region : Region) (k : ℕ) (r : Tile) → IsTile s.layout.scheme r → r.level % s.layout.subtree_levels ≡ 0
    → k < s.layout.subtree_levels → is_on_walk s region r ≡ false → filter (λ t. is_in region t && is_available s t) (descendants s.layout.scheme k r) ≡ []
nothing_off_walk s region k r tile start low off =
    let kept : Tile → Bool = λ t. is_in region t && is_available s t in
    filter_none kept (descendants s.layout.scheme k r) (of_descendants (λ t. kept t ≡ false) s.layout.scheme k r
    (λ j h. false_from_ne_true (kept (below s.layout.scheme k r j))
    (λ both. both_ways (is_on_walk s region r) off (root_on_walk s region k r j tile start low h both))))

-- what holds of each root on the walk
pub of_walk_roots : (P : Tile → Type 0) (s : Scene) (region : Region) (l : ℕ)
    → ((i : ℕ) → i < branching s.layout.scheme ^ root_level s.layout l → P (tile_at s.layout.scheme (root_level s.layout l) i)) → All P (walk_roots s region l)
of_walk_roots P s region l h =
    All-filter (is_on_walk s region) P (tiles_of_level s.layout.scheme (root_level s.layout l)) (of_level P s.layout.scheme (root_level s.layout l) h)

pub segments_make_a_level : (s : Scene) (region : Region) (l : ℕ) → 1 ≤ s.layout.subtree_levels
    → filter (λ t. is_in region t && is_available s t) (tiles_of_level s.layout.scheme l) ≡ flat_map (λ r. segment s region (pair_of l r)) (walk_roots s region l)
segments_make_a_level s region l some =
    let scheme = s.layout.scheme in
    let k = l % s.layout.subtree_levels in
    let start = root_level s.layout l in
    let low : k < s.layout.subtree_levels = mod_below l s.layout.subtree_levels some in
    let kept : Tile → Bool = λ t. is_in region t && is_available s t in
    let part : Tile → List Tile = λ r. filter kept (descendants scheme k r) in
    let off : All (λ r. is_on_walk s region r ≡ false → part r ≡ []) (tiles_of_level scheme start) =
    of_level (λ r. is_on_walk s region r ≡ false → part r ≡ []) scheme start
    (λ i h. nothing_off_walk s region k (tile_at scheme start i) (tile_at_is_tile scheme start i)
    (ap (λ w. w % s.layout.subtree_levels) (tile_at_level scheme start i) ∙ at_start l s.layout.subtree_levels some) low) in
    let local : (i : ℕ) → k ≡ l - (tile_at scheme start i).level = λ i. omega (arith, tile_at_level scheme start i, local_low l s.layout.subtree_levels) in
    let same : All (λ r. part r ≡ segment s region (pair_of l r)) (walk_roots s region l) =
    of_walk_roots (λ r. part r ≡ segment s region (pair_of l r)) s region l (λ i h. ap (λ e. filter kept (descendants scheme e (tile_at scheme start i))) (local i)) in
    ap (λ e. filter kept (tiles_of_level scheme e)) (level_parts l s.layout.subtree_levels)
    ∙ ap (filter kept) (levels_split scheme start k)
    ∙ filter-flat_map kept (descendants scheme k) (tiles_of_level scheme start)
    ∙ flat_map_kept part (is_on_walk s region) (tiles_of_level scheme start) off
    ∙ flat_map_same part (λ r. segment s region (pair_of l r)) (walk_roots s region l) same
