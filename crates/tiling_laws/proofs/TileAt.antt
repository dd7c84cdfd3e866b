-- The tile of a level and an index, and the index of a tile, are inverse to each other.
use Rattle.std.proofs.Common.{◌≡◌, ℕ, zero, suc, ◌+◌, ◌*◌, ◌/◌, ◌%◌, ◌^◌, ◌<◌, refl, sym, ap, ◌∙◌, arith, add-one, lit<}
use Rattle.std.proofs.Math.Nat.{pow-suc}
use Rattle.implicit_tiling.specs.declared.Scheme.{Scheme}
use Rattle.implicit_tiling.specs.declared.Scheme.TheVariants.{Quad, Oct}
use Rattle.implicit_tiling.specs.Tile.{Tile, IsTile, root, branching, depth_of, place_of, interleaved, child, index, tile_at}
use Rattle.tiling_laws.proofs.Index.{lowest_place, lowest_fits, child_index}

pub same_tile : (t u : Tile) → t.level ≡ u.level → t.x ≡ u.x → t.y ≡ u.y → t.z ≡ u.z → t ≡ u
same_tile t u level x y z =
    ap (λ (n : ℕ). record { level = n; x = t.x; y = t.y; z = t.z }) level ∙ ap (λ (n : ℕ). record { level = u.level; x = n; y = t.y; z = t.z }) x
    ∙ ap (λ (n : ℕ). record { level = u.level; x = u.x; y = n; z = t.z }) y ∙ ap (λ (n : ℕ). record { level = u.level; x = u.x; y = u.y; z = n }) z

-- a child of a tile is a tile
flat_child : (scheme : Scheme) (z n : ℕ) → n < branching scheme → z ≡ depth_of scheme z → 2 * z + n / 4 % 2 ≡ depth_of scheme (2 * z + n / 4 % 2)
flat_child Quad z n h flat = omega arith
flat_child Oct z n h flat = refl

pub child_is_tile : (scheme : Scheme) (t : Tile) (n : ℕ) → n < branching scheme → IsTile scheme t → IsTile scheme (child t n)
child_is_tile scheme t n h tile =
    let wider : 2 ^ (t.level + 1) ≡ 2 ^ t.level * 2 = ap (λ e. 2 ^ e) (add-one t.level) ∙ pow-suc 2 t.level in
    record {
      x_fits = omega (arith, wider, tile.x_fits);
      y_fits = omega (arith, wider, tile.y_fits);
      z_fits = omega (arith, wider, tile.z_fits);
      flat = flat_child scheme t.z n h tile.flat;
    }

pub root_is_tile : (scheme : Scheme) → IsTile scheme root
root_is_tile Quad = record { x_fits = lit< tt; y_fits = lit< tt; z_fits = lit< tt; flat = refl }
root_is_tile Oct = record { x_fits = lit< tt; y_fits = lit< tt; z_fits = lit< tt; flat = refl }

-- the last place of an index, and what stands before it
pub last_below : (scheme : Scheme) (i : ℕ) → i % branching scheme < branching scheme
last_below Quad i = omega arith
last_below Oct i = omega arith

pub rest_below : (scheme : Scheme) (level i : ℕ) → i < branching scheme ^ suc level → i / branching scheme < branching scheme ^ level
rest_below Quad level i h = omega (arith, pow-suc 4 level)
rest_below Oct level i h = omega (arith, pow-suc 8 level)

pub whole : (scheme : Scheme) (i : ℕ) → branching scheme * (i / branching scheme) + i % branching scheme ≡ i
whole Quad i = omega arith
whole Oct i = omega arith

-- `tile_at` gives a tile of the level, whatever the number
pub tile_at_level : (scheme : Scheme) (level i : ℕ) → (tile_at scheme level i).level ≡ level
tile_at_level scheme zero i = refl
tile_at_level scheme (suc level) i = ap (λ n. n + 1) (tile_at_level scheme level (i / branching scheme)) ∙ add-one level

pub tile_at_is_tile : (scheme : Scheme) (level i : ℕ) → IsTile scheme (tile_at scheme level i)
tile_at_is_tile scheme zero i = root_is_tile scheme
tile_at_is_tile scheme (suc level) i =
    child_is_tile scheme (tile_at scheme level (i / branching scheme)) (i % branching scheme) (last_below scheme i) (tile_at_is_tile scheme level (i / branching scheme))

pub index_of_tile_at : (scheme : Scheme) (level i : ℕ) → i < branching scheme ^ level → index scheme (tile_at scheme level i) ≡ i
index_of_tile_at Quad zero i h = omega arith
index_of_tile_at Oct zero i h = omega arith
index_of_tile_at scheme (suc level) i h =
    child_index scheme (tile_at scheme level (i / branching scheme)) (i % branching scheme) (last_below scheme i)
    ∙ ap (λ w. branching scheme * w + i % branching scheme) (index_of_tile_at scheme level (i / branching scheme) (rest_below scheme level i h))
    ∙ whole scheme i

-- an index taken apart: its last place is that of the coordinates' last bits
pub div_of_places : (scheme : Scheme) (d w : ℕ) → d < branching scheme → (d + branching scheme * w) / branching scheme ≡ w
div_of_places Quad d w h = omega arith
div_of_places Oct d w h = omega arith

mod_of_places : (scheme : Scheme) (d w : ℕ) → d < branching scheme → (d + branching scheme * w) % branching scheme ≡ d
mod_of_places Quad d w h = omega arith
mod_of_places Oct d w h = omega arith

x_back : (scheme : Scheme) (x y z : ℕ) → 2 * (x / 2) + place_of scheme x y z 0 % 2 ≡ x
x_back Quad x y z = omega arith
x_back Oct x y z = omega arith

y_back : (scheme : Scheme) (x y z : ℕ) → 2 * (y / 2) + place_of scheme x y z 0 / 2 % 2 ≡ y
y_back Quad x y z = omega arith
y_back Oct x y z = omega arith

z_back : (scheme : Scheme) (x y z : ℕ) → z ≡ depth_of scheme z → 2 * (z / 2) + place_of scheme x y z 0 / 4 % 2 ≡ z
z_back Quad x y z flat = omega arith
z_back Oct x y z flat = omega arith

half_flat : (scheme : Scheme) (z : ℕ) → z ≡ depth_of scheme z → z / 2 ≡ depth_of scheme (z / 2)
half_flat Quad z flat = omega arith
half_flat Oct z flat = refl

tile_at_zero : (scheme : Scheme) (x y z i : ℕ) → x < 1 → y < 1 → z < 1 → tile_at scheme 0 i ≡ record { level = 0; x = x; y = y; z = z }
tile_at_zero scheme x y z i hx hy hz = same_tile root (record { level = 0; x = x; y = y; z = z }) refl (omega arith) (omega arith) (omega arith)

pub tile_at_places : (scheme : Scheme) (k x y z : ℕ) → x < 2 ^ k → y < 2 ^ k → z < 2 ^ k → z ≡ depth_of scheme z
    → tile_at scheme k (interleaved scheme k x y z) ≡ record { level = k; x = x; y = y; z = z }
tile_at_places scheme zero x y z hx hy hz flat = tile_at_zero scheme x y z (interleaved scheme 0 x y z) hx hy hz
tile_at_places scheme (suc k) x y z hx hy hz flat =
    let d = place_of scheme x y z 0 in
    let rest = interleaved scheme k (x / 2) (y / 2) (z / 2) in
    let apart = lowest_place scheme k x y z in
    let half : (c : ℕ) → c < 2 ^ suc k → c / 2 < 2 ^ k = λ c h. omega (arith, pow-suc 2 k) in
    let above : interleaved scheme (suc k) x y z / branching scheme ≡ rest = ap (λ w. w / branching scheme) apart ∙ div_of_places scheme d rest (lowest_fits scheme x y z) in
    let last : interleaved scheme (suc k) x y z % branching scheme ≡ d = ap (λ w. w % branching scheme) apart ∙ mod_of_places scheme d rest (lowest_fits scheme x y z) in
    let up = tile_at_places scheme k (x / 2) (y / 2) (z / 2) (half x hx) (half y hy) (half z hz) (half_flat scheme z flat) in
    ap (λ i. child (tile_at scheme k i) (interleaved scheme (suc k) x y z % branching scheme)) above
    ∙ ap (λ n. child (tile_at scheme k rest) n) last
    ∙ ap (λ t. child t d) up
    ∙ same_tile (child (record { level = k; x = x / 2; y = y / 2; z = z / 2 }) d) (record { level = suc k; x = x; y = y; z = z })
    (add-one k) (x_back scheme x y z) (y_back scheme x y z) (z_back scheme x y z flat)

pub tile_at_index : (scheme : Scheme) (t : Tile) → IsTile scheme t → tile_at scheme t.level (index scheme t) ≡ t
tile_at_index scheme t tile = tile_at_places scheme t.level t.x t.y t.z tile.x_fits tile.y_fits tile.z_fits tile.flat

-- tiles of one level with one index are one tile
pub tile_from_index : (scheme : Scheme) (t u : Tile) → IsTile scheme t → IsTile scheme u → t.level ≡ u.level → index scheme t ≡ index scheme u → t ≡ u
tile_from_index scheme t u one other level same =
    sym (tile_at_index scheme t one) ∙ ap (λ l. tile_at scheme l (index scheme t)) level ∙ ap (λ i. tile_at scheme u.level i) same ∙ tile_at_index scheme u other

pub each_index : (scheme : Scheme) (level i : ℕ) → i < branching scheme ^ level
    → IsTile scheme (tile_at scheme level i) × ((tile_at scheme level i).level ≡ level) × (index scheme (tile_at scheme level i) ≡ i)
each_index scheme level i h = (tile_at_is_tile scheme level i, tile_at_level scheme level i, index_of_tile_at scheme level i h)
