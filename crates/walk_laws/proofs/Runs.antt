-- The descendants of a tile as a run of indices, and a level split by the tiles of a level above it.
use Rattle.std.proofs.Common.{◌≡◌, ℕ, ◌+◌, ◌-◌, ◌*◌, ◌^◌, ◌<◌, map, sym, ap, subst, ◌∙◌, arith}
use Rattle.std.specs.List.{flat_map, range_with_len, All}
use Rattle.std.proofs.lemmas.Nat.{pow-add, mul-add-lt}
use Rattle.std.proofs.Math.Nat.{mul_comm}
use Rattle.std.proofs.lemmas.List.Elements.{All-map}
use Rattle.implicit_tiling.specs.declared.Scheme.{Scheme}
use Rattle.implicit_tiling.specs.Tile.{Tile, IsTile, branching, ancestor, index, tile_at, tiles_of_level}
use Rattle.implicit_tiling.specs.Steps.{descendants}
use Rattle.tiling_laws.proofs.Index.{index_below}
use Rattle.tiling_laws.proofs.TileAt.{tile_at_level, tile_at_is_tile, index_of_tile_at}
use Rattle.tiling_laws.proofs.Ancestors as ancestors
use Rattle.walk_laws.proofs.Lists.{flat_map_same, map-flat_map, flat_map-map, of_range, range_blocks}

-- the tile of number j among those k levels below r
abbrev pub below : Scheme → ℕ → Tile → ℕ → Tile
below scheme k r j = tile_at scheme (r.level + k) (index scheme r * branching scheme ^ k + j)

pub run_fits : (scheme : Scheme) (k : ℕ) (r : Tile) (j : ℕ) → j < branching scheme ^ k → index scheme r * branching scheme ^ k + j < branching scheme ^ (r.level + k)
run_fits scheme k r j h =
    let row = mul-add-lt (index scheme r) (branching scheme ^ k) j (branching scheme ^ r.level) (index_below scheme r) h in
    let total : branching scheme ^ (r.level + k) ≡ branching scheme ^ k * branching scheme ^ r.level = pow-add (branching scheme) r.level k ∙ mul_comm (branching scheme ^ r.level) (branching scheme ^ k) in
    omega (arith, row, total)

pub below_index : (scheme : Scheme) (k : ℕ) (r : Tile) (j : ℕ) → j < branching scheme ^ k → index scheme (below scheme k r j) ≡ index scheme r * branching scheme ^ k + j
below_index scheme k r j h = index_of_tile_at scheme (r.level + k) (index scheme r * branching scheme ^ k + j) (run_fits scheme k r j h)

pub below_level : (scheme : Scheme) (k : ℕ) (r : Tile) (j : ℕ) → (below scheme k r j).level ≡ r.level + k
below_level scheme k r j = tile_at_level scheme (r.level + k) (index scheme r * branching scheme ^ k + j)

pub below_is_tile : (scheme : Scheme) (k : ℕ) (r : Tile) (j : ℕ) → IsTile scheme (below scheme k r j)
below_is_tile scheme k r j = tile_at_is_tile scheme (r.level + k) (index scheme r * branching scheme ^ k + j)

-- it is a descendant of r
pub below_ancestor : (scheme : Scheme) (k : ℕ) (r : Tile) (j : ℕ) → IsTile scheme r → j < branching scheme ^ k → ancestor k (below scheme k r j) ≡ r
below_ancestor scheme k r j tile h =
    let at = below_index scheme k r j h in
    (ancestors.descendants scheme k (below scheme k r j) r (below_is_tile scheme k r j) tile (below_level scheme k r j)).1 (omega (arith, at), omega (arith, at))

-- what holds of each of the N^k tiles of a run
pub of_descendants : (P : Tile → Type 0) (scheme : Scheme) (k : ℕ) (r : Tile) → ((j : ℕ) → j < branching scheme ^ k → P (below scheme k r j)) → All P (descendants scheme k r)
of_descendants P scheme k r h =
    let first = index scheme r * branching scheme ^ k in
    All-map P (tile_at scheme (r.level + k)) (range_with_len first (branching scheme ^ k))
    (of_range (λ i. P (tile_at scheme (r.level + k) i)) first (branching scheme ^ k)
    (λ i low high. let at : first + (i - first) ≡ i = omega arith in subst (λ n. P (tile_at scheme (r.level + k) n)) at (h (i - first) (omega arith))))

-- and of each tile of a level
pub of_level : (P : Tile → Type 0) (scheme : Scheme) (level : ℕ) → ((i : ℕ) → i < branching scheme ^ level → P (tile_at scheme level i)) → All P (tiles_of_level scheme level)
of_level P scheme level h =
    All-map P (tile_at scheme level) (range_with_len 0 (branching scheme ^ level))
    (of_range (λ i. P (tile_at scheme level i)) 0 (branching scheme ^ level) (λ i low high. h i (omega arith)))

pub levels_split : (scheme : Scheme) (l k : ℕ) → tiles_of_level scheme (l + k) ≡ flat_map (descendants scheme k) (tiles_of_level scheme l)
levels_split scheme l k =
    let n = branching scheme ^ l in
    let m = branching scheme ^ k in
    let f = tile_at scheme (l + k) in
    let count : branching scheme ^ (l + k) ≡ n * m = pow-add (branching scheme) l k in
    let start : 0 ≡ 0 * m = omega arith in
    let same : All (λ i. map f (range_with_len (i * m) m) ≡ descendants scheme k (tile_at scheme l i)) (range_with_len 0 n) =
    of_range (λ i. map f (range_with_len (i * m) m) ≡ descendants scheme k (tile_at scheme l i)) 0 n
    (λ i low high. ap (λ e. map (tile_at scheme (e + k)) (range_with_len (i * m) m)) (sym (tile_at_level scheme l i))
    ∙ ap (λ w. map (tile_at scheme ((tile_at scheme l i).level + k)) (range_with_len (w * m) m)) (sym (index_of_tile_at scheme l i (omega arith)))) in
    ap (λ c. map f (range_with_len 0 c)) count ∙ ap (λ a. map f (range_with_len a (n * m))) start ∙ ap (map f) (range_blocks m 0 n)
    ∙ map-flat_map f (λ i. range_with_len (i * m) m) (range_with_len 0 n)
    ∙ flat_map_same (λ i. map f (range_with_len (i * m) m)) (λ i. descendants scheme k (tile_at scheme l i)) (range_with_len 0 n) same
    ∙ sym (flat_map-map (descendants scheme k) (tile_at scheme l) (range_with_len 0 n))
