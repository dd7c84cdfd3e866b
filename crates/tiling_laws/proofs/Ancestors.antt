-- The index of an ancestor, and the run of indices of a tile's descendants.
use Rattle.std.proofs.Common.{◌≡◌, ℕ, zero, suc, ◌+◌, ◌-◌, ◌*◌, ◌/◌, ◌%◌, ◌^◌, ◌<◌, ◌≤◌, refl, sym, ap, ◌∙◌, arith, add-zero, lit<}
use Rattle.std.specs.Prelude.{◌↔◌}
use Rattle.std.proofs.Math.Nat.{pow-suc, pow-succ', pow-le-pow_right, div-div-eq-div-mul, div-eq_of_lt-le, div-add-mod}
use Rattle.std.proofs.lemmas.Nat.{shr_below, shr-shr, shr_le, mod_below}
use Rattle.implicit_tiling.specs.declared.Scheme.{Scheme}
use Rattle.implicit_tiling.specs.declared.Scheme.TheVariants.{Quad, Oct}
use Rattle.implicit_tiling.specs.Tile.{Tile, IsTile, branching, depth_of, place_of, interleaved, index, ancestor, parent, child}
use Rattle.tiling_laws.proofs.Index.{lowest_place, lowest_fits, child_index}
use Rattle.tiling_laws.proofs.TileAt.{tile_from_index, div_of_places, same_tile, last_below, whole, child_is_tile}

-- an ancestor of a tile is a tile
up_fits : (x level k : ℕ) → x < 2 ^ level → x / 2 ^ k < 2 ^ (level - k)
up_fits x level k h =
    let wide : level ≤ level - k + k = omega arith in
    let more : 2 ^ level ≤ 2 ^ (level - k + k) = pow-le-pow_right (lit< tt) wide in
    shr_below x (level - k) k (omega (arith, more))

up_flat : (scheme : Scheme) (z k : ℕ) → z ≡ depth_of scheme z → z / 2 ^ k ≡ depth_of scheme (z / 2 ^ k)
up_flat Quad z k flat = omega (arith, shr_le z k)
up_flat Oct z k flat = refl

pub ancestor_is_tile : (scheme : Scheme) (k : ℕ) (t : Tile) → IsTile scheme t → IsTile scheme (ancestor k t)
ancestor_is_tile scheme k t tile = record {
  x_fits = up_fits t.x t.level k tile.x_fits;
  y_fits = up_fits t.y t.level k tile.y_fits;
  z_fits = up_fits t.z t.level k tile.z_fits;
  flat = up_flat scheme t.z k tile.flat;
}

pub by_one : (n : ℕ) → n / 1 ≡ n
by_one n = omega arith

by_no_place : (scheme : Scheme) (n : ℕ) → n / branching scheme ^ 0 ≡ n
by_no_place Quad n = by_one n
by_no_place Oct n = by_one n

half_first : (k n : ℕ) → n / 2 / 2 ^ k ≡ n / 2 ^ suc k
half_first k n = div-div-eq-div-mul n 2 (2 ^ k) ∙ ap (λ e. n / e) (sym (pow-succ' 2 k))

-- the places from k on are those of the coordinates k levels above
pub places_above : (scheme : Scheme) (k p x y z : ℕ) → interleaved scheme (p + k) x y z / branching scheme ^ k ≡ interleaved scheme p (x / 2 ^ k) (y / 2 ^ k) (z / 2 ^ k)
places_above scheme zero p x y z =
    by_no_place scheme (interleaved scheme (p + 0) x y z) ∙ ap (λ e. interleaved scheme e x y z) (add-zero p)
    ∙ sym (ap (λ n. interleaved scheme p n (y / 1) (z / 1)) (by_one x) ∙ ap (λ n. interleaved scheme p x n (z / 1)) (by_one y) ∙ ap (λ n. interleaved scheme p x y n) (by_one z))
places_above scheme (suc k) p x y z =
    let count : p + suc k ≡ suc (p + k) = omega arith in
    let rest = interleaved scheme (p + k) (x / 2) (y / 2) (z / 2) in
    ap (λ e. interleaved scheme e x y z / branching scheme ^ suc k) count
    ∙ ap (λ e. interleaved scheme (suc (p + k)) x y z / e) (pow-succ' (branching scheme) k)
    ∙ sym (div-div-eq-div-mul (interleaved scheme (suc (p + k)) x y z) (branching scheme) (branching scheme ^ k))
    ∙ ap (λ w. w / branching scheme / branching scheme ^ k) (lowest_place scheme (p + k) x y z)
    ∙ ap (λ w. w / branching scheme ^ k) (div_of_places scheme (place_of scheme x y z 0) rest (lowest_fits scheme x y z))
    ∙ places_above scheme k p (x / 2) (y / 2) (z / 2)
    ∙ ap (λ n. interleaved scheme p n (y / 2 / 2 ^ k) (z / 2 / 2 ^ k)) (half_first k x)
    ∙ ap (λ n. interleaved scheme p (x / 2 ^ suc k) n (z / 2 / 2 ^ k)) (half_first k y)
    ∙ ap (λ n. interleaved scheme p (x / 2 ^ suc k) (y / 2 ^ suc k) n) (half_first k z)

pub ancestor_index : (scheme : Scheme) (k : ℕ) (t : Tile) → k ≤ t.level → index scheme (ancestor k t) ≡ index scheme t / branching scheme ^ k
ancestor_index scheme k t le =
    let level : t.level ≡ t.level - k + k = omega arith in
    sym (places_above scheme k (t.level - k) t.x t.y t.z) ∙ ap (λ e. interleaved scheme e t.x t.y t.z / branching scheme ^ k) (sym level)

pub branching_pow_pos : (scheme : Scheme) (k : ℕ) → 0 < branching scheme ^ k
branching_pow_pos Quad zero = lit< tt
branching_pow_pos Oct zero = lit< tt
branching_pow_pos Quad (suc k) = omega (arith, branching_pow_pos Quad k, pow-suc 4 k)
branching_pow_pos Oct (suc k) = omega (arith, branching_pow_pos Oct k, pow-suc 8 k)

-- the numbers of which q is the quotient
quotient_run : (n m q : ℕ) → 0 < m → (n / m ≡ q) ↔ ((q * m ≤ n) × (n < (q + 1) * m))
quotient_run n m q pos = (
  λ is. let parts : m * q + n % m ≡ n = ap (λ w. m * w + n % m) (sym is) ∙ div-add-mod n m in
      (omega (arith, parts), omega (arith, parts, mod_below n m pos)),
  λ run. div-eq_of_lt-le m run.0 run.1,
)

-- the descendants of a tile, k levels below it, are the tiles of a run of N^k indices
pub descendants : (scheme : Scheme) (k : ℕ) (t u : Tile) → IsTile scheme t → IsTile scheme u → t.level ≡ u.level + k
    → (ancestor k t ≡ u) ↔ ((index scheme u * branching scheme ^ k ≤ index scheme t) × (index scheme t < (index scheme u + 1) * branching scheme ^ k))
descendants scheme k t u tile above level =
    let run = quotient_run (index scheme t) (branching scheme ^ k) (index scheme u) (branching_pow_pos scheme k) in
    let up = ancestor_index scheme k t (omega arith) in (
      λ same. run.0 (sym up ∙ ap (index scheme) same),
      λ within. tile_from_index scheme (ancestor k t) u (ancestor_is_tile scheme k t tile) above (omega arith) (up ∙ run.1 within),
    )

by_first_power : (scheme : Scheme) → branching scheme ^ 1 ≡ branching scheme
by_first_power Quad = refl
by_first_power Oct = refl

-- a tile is the parent of its children, and the child of its parent that the last place of its index numbers
pub parent_of_child : (t : Tile) (n : ℕ) → parent (child t n) ≡ t
parent_of_child t n = same_tile (parent (child t n)) t (omega arith) (omega arith) (omega arith) (omega arith)

pub ancestor_of_ancestor : (j k : ℕ) (t : Tile) → ancestor j (ancestor k t) ≡ ancestor (k + j) t
ancestor_of_ancestor j k t =
    same_tile (ancestor j (ancestor k t)) (ancestor (k + j) t) (omega arith) (shr-shr t.x k j) (shr-shr t.y k j) (shr-shr t.z k j)

pub child_of_parent : (scheme : Scheme) (t : Tile) → IsTile scheme t → 0 < t.level → child (parent t) (index scheme t % branching scheme) ≡ t
child_of_parent scheme t tile below =
    let up : t.level ≡ suc (t.level - 1) = omega arith in
    let number = last_below scheme (index scheme t) in
    let above : index scheme (parent t) ≡ index scheme t / branching scheme = ancestor_index scheme 1 t (omega arith) ∙ ap (λ p. index scheme t / p) (by_first_power scheme) in
    let same : index scheme (child (parent t) (index scheme t % branching scheme)) ≡ index scheme t =
    child_index scheme (parent t) (index scheme t % branching scheme) number ∙ ap (λ w. branching scheme * w + index scheme t % branching scheme) above ∙ whole scheme (index scheme t) in
    tile_from_index scheme (child (parent t) (index scheme t % branching scheme)) t
    (child_is_tile scheme (parent t) (index scheme t % branching scheme) number (ancestor_is_tile scheme 1 t tile)) tile (omega arith) same
