-- The places of an index, one at a time.
use Rattle.std.proofs.Common.{◌≡◌, ℕ, zero, suc, ◌+◌, ◌*◌, ◌/◌, ◌%◌, ◌^◌, ◌<◌, ◌≤◌, refl, sym, ap, ◌∙◌, arith, map, sum, add-one, lit<}
use Rattle.std.specs.List.{range_with_len}
use Rattle.std.proofs.Math.Nat.{pow-suc, pow-succ', div-div-eq-div-mul, mul_assoc, add_comm}
use Rattle.std.proofs.lemmas.List.Sums.{sum_by_from}
use Rattle.implicit_tiling.specs.declared.Scheme.{Scheme}
use Rattle.implicit_tiling.specs.declared.Scheme.TheVariants.{Quad, Oct}
use Rattle.implicit_tiling.specs.Tile.{Tile, branching, bit, depth_of, place_of, interleaved, child, index}

-- a sum over the places from a + 1 on, as N times one over the places from a on
sum_shifted : (n : ℕ) (f g : ℕ → ℕ) → ((j : ℕ) → f (j + 1) ≡ n * g j) → (a k : ℕ) → sum (map f (range_with_len (a + 1) k)) ≡ n * sum (map g (range_with_len a k))
sum_shifted n f g each a zero = omega arith
sum_shifted n f g each a (suc k) =
    let left = sum_by_from (λ (x : ℕ). x) (0 + f (a + 1)) (map f (range_with_len (a + 1 + 1) k)) in
    let right = sum_by_from (λ (x : ℕ). x) (0 + g a) (map g (range_with_len (a + 1) k)) in
    let rest = sum_shifted n f g each (a + 1) k in
    let step : 0 + f (a + 1) + sum (map f (range_with_len (a + 1 + 1) k)) ≡ n * (0 + g a + sum (map g (range_with_len (a + 1) k))) = omega (arith, each a, rest) in
    left ∙ step ∙ ap (λ w. n * w) (sym right)

-- bit j + 1 of a number is bit j of its half
pub half : (j n : ℕ) → n / 2 ^ (j + 1) ≡ n / 2 / 2 ^ j
half j n = ap (λ e. n / 2 ^ e) (add-one j) ∙ ap (λ e. n / e) (pow-succ' 2 j) ∙ sym (div-div-eq-div-mul n 2 (2 ^ j))

bit_up : (j n : ℕ) → bit (j + 1) n ≡ bit j (n / 2)
bit_up j n = ap (λ e. e % 2) (half j n)

place_up : (scheme : Scheme) (x y z j : ℕ) → place_of scheme x y z (j + 1) ≡ place_of scheme (x / 2) (y / 2) (z / 2) j
place_up scheme x y z j =
    ap (λ b. b + 2 * bit (j + 1) y + 4 * depth_of scheme (bit (j + 1) z)) (bit_up j x)
    ∙ ap (λ b. bit j (x / 2) + 2 * b + 4 * depth_of scheme (bit (j + 1) z)) (bit_up j y)
    ∙ ap (λ b. bit j (x / 2) + 2 * bit j (y / 2) + 4 * depth_of scheme b) (bit_up j z)

term_up : (scheme : Scheme) (x y z j : ℕ)
    → branching scheme ^ (j + 1) * place_of scheme x y z (j + 1) ≡ branching scheme * (branching scheme ^ j * place_of scheme (x / 2) (y / 2) (z / 2) j)
term_up scheme x y z j =
    ap (λ p. branching scheme ^ (j + 1) * p) (place_up scheme x y z j)
    ∙ ap (λ e. branching scheme ^ e * place_of scheme (x / 2) (y / 2) (z / 2) j) (add-one j)
    ∙ ap (λ e. e * place_of scheme (x / 2) (y / 2) (z / 2) j) (pow-succ' (branching scheme) j)
    ∙ mul_assoc (branching scheme) (branching scheme ^ j) (place_of scheme (x / 2) (y / 2) (z / 2) j)

first_term : (scheme : Scheme) (p w : ℕ) → 0 + branching scheme ^ 0 * p + w ≡ p + w
first_term Quad p w = omega arith
first_term Oct p w = omega arith

-- the lowest place, and the others
pub lowest_place : (scheme : Scheme) (k x y z : ℕ)
    → interleaved scheme (suc k) x y z ≡ place_of scheme x y z 0 + branching scheme * interleaved scheme k (x / 2) (y / 2) (z / 2)
lowest_place scheme k x y z =
    let f : ℕ → ℕ = λ j. branching scheme ^ j * place_of scheme x y z j in
    let g : ℕ → ℕ = λ j. branching scheme ^ j * place_of scheme (x / 2) (y / 2) (z / 2) j in
    sum_by_from (λ (x : ℕ). x) (0 + f 0) (map f (range_with_len 1 k))
    ∙ ap (λ w. 0 + f 0 + w) (sum_shifted (branching scheme) f g (term_up scheme x y z) 0 k)
    ∙ first_term scheme (place_of scheme x y z 0) (branching scheme * interleaved scheme k (x / 2) (y / 2) (z / 2))

-- the lowest place is below N
pub lowest_fits : (scheme : Scheme) (x y z : ℕ) → place_of scheme x y z 0 < branching scheme
lowest_fits Quad x y z = omega arith
lowest_fits Oct x y z = omega arith

-- further places are 0
of_nothing : (scheme : Scheme) (places : ℕ) → interleaved scheme places 0 0 0 ≡ 0
of_nothing scheme zero = refl
of_nothing Quad (suc places) = omega (arith, lowest_place Quad places 0 0 0, of_nothing Quad places)
of_nothing Oct (suc places) = omega (arith, lowest_place Oct places 0 0 0, of_nothing Oct places)

half_below : (x k : ℕ) → x < 2 ^ suc k → x / 2 < 2 ^ k
half_below x k h = omega (arith, pow-suc 2 k)

pub further_places : (scheme : Scheme) (k places x y z : ℕ) → x < 2 ^ k → y < 2 ^ k → z < 2 ^ k → k ≤ places
    → interleaved scheme places x y z ≡ interleaved scheme k x y z
further_places scheme zero places x y z hx hy hz le =
    let x0 : x ≡ 0 = omega arith in
    let y0 : y ≡ 0 = omega arith in
    let z0 : z ≡ 0 = omega arith in
    ap (λ n. interleaved scheme places n y z) x0 ∙ ap (λ n. interleaved scheme places 0 n z) y0 ∙ ap (λ n. interleaved scheme places 0 0 n) z0 ∙ of_nothing scheme places
further_places scheme (suc k) zero x y z hx hy hz le = absurd (omega arith)
further_places scheme (suc k) (suc places) x y z hx hy hz le =
    lowest_place scheme places x y z
    ∙ ap (λ w. place_of scheme x y z 0 + branching scheme * w)
    (further_places scheme k places (x / 2) (y / 2) (z / 2) (half_below x k hx) (half_below y k hy) (half_below z k hz) (omega arith))
    ∙ sym (lowest_place scheme k x y z)

-- the index of a child
pub child_places : (scheme : Scheme) (k x y z a b c : ℕ) → a < 2 → b < 2 → c < 2
    → interleaved scheme (k + 1) (2 * x + a) (2 * y + b) (2 * z + c) ≡ branching scheme * interleaved scheme k x y z + (a + 2 * b + 4 * depth_of scheme c)
child_places scheme k x y z a b c ha hb hc =
    let low_a : bit 0 (2 * x + a) ≡ a = omega arith in
    let low_b : bit 0 (2 * y + b) ≡ b = omega arith in
    let low_c : bit 0 (2 * z + c) ≡ c = omega arith in
    let up_x : (2 * x + a) / 2 ≡ x = omega arith in
    let up_y : (2 * y + b) / 2 ≡ y = omega arith in
    let up_z : (2 * z + c) / 2 ≡ z = omega arith in
    let rest : interleaved scheme k ((2 * x + a) / 2) ((2 * y + b) / 2) ((2 * z + c) / 2) ≡ interleaved scheme k x y z =
    ap (λ n. interleaved scheme k n ((2 * y + b) / 2) ((2 * z + c) / 2)) up_x
    ∙ ap (λ n. interleaved scheme k x n ((2 * z + c) / 2)) up_y ∙ ap (λ n. interleaved scheme k x y n) up_z in
    let own : place_of scheme (2 * x + a) (2 * y + b) (2 * z + c) 0 ≡ a + 2 * b + 4 * depth_of scheme c =
    ap (λ n. n + 2 * bit 0 (2 * y + b) + 4 * depth_of scheme (bit 0 (2 * z + c))) low_a
    ∙ ap (λ n. a + 2 * n + 4 * depth_of scheme (bit 0 (2 * z + c))) low_b ∙ ap (λ n. a + 2 * b + 4 * depth_of scheme n) low_c in
    ap (λ e. interleaved scheme e (2 * x + a) (2 * y + b) (2 * z + c)) (add-one k)
    ∙ lowest_place scheme k (2 * x + a) (2 * y + b) (2 * z + c)
    ∙ ap (λ w. w + branching scheme * interleaved scheme k ((2 * x + a) / 2) ((2 * y + b) / 2) ((2 * z + c) / 2)) own
    ∙ ap (λ w. a + 2 * b + 4 * depth_of scheme c + branching scheme * w) rest
    ∙ add_comm (a + 2 * b + 4 * depth_of scheme c) (branching scheme * interleaved scheme k x y z)

-- the number of a child from its three bits
number_of_bits : (scheme : Scheme) (n : ℕ) → n < branching scheme → n % 2 + 2 * (n / 2 % 2) + 4 * depth_of scheme (n / 4 % 2) ≡ n
number_of_bits Quad n h = omega arith
number_of_bits Oct n h = omega arith

pub child_index : (scheme : Scheme) (t : Tile) (n : ℕ) → n < branching scheme → index scheme (child t n) ≡ branching scheme * index scheme t + n
child_index scheme t n h =
    child_places scheme t.level t.x t.y t.z (n % 2) (n / 2 % 2) (n / 4 % 2) (omega arith) (omega arith) (omega arith)
    ∙ ap (λ w. branching scheme * index scheme t + w) (number_of_bits scheme n h)

-- an index is below N^level
pub places_below : (scheme : Scheme) (k x y z : ℕ) → interleaved scheme k x y z < branching scheme ^ k
places_below Quad zero x y z = lit< tt
places_below Oct zero x y z = lit< tt
places_below Quad (suc k) x y z = omega (arith, lowest_place Quad k x y z, places_below Quad k (x / 2) (y / 2) (z / 2), pow-suc 4 k, lowest_fits Quad x y z)
places_below Oct (suc k) x y z = omega (arith, lowest_place Oct k x y z, places_below Oct k (x / 2) (y / 2) (z / 2), pow-suc 8 k, lowest_fits Oct x y z)

pub index_below : (scheme : Scheme) (t : Tile) → index scheme t < branching scheme ^ t.level
index_below scheme t = places_below scheme t.level t.x t.y t.z
