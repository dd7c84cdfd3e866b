-- A list in which nothing is twice is no longer than one that has all of it; and a region has as many tiles as places.
use Rattle.std.proofs.Common.{◌≡◌, ◌≢◌, ⊎_elim, ℕ, zero, suc, ◌+◌, ◌-◌, ◌*◌, ◌/◌, ◌^◌, ◌<◌, ◌≤◌, true, List, [], ◌∷◌, ◌++◌, length, map, get_or, All, Contains, AllPairs, refl, sym, ap, subst, ◌∙◌, arith, length-append}
use Rattle.std.specs.Prelude.{slice_index}
use Rattle.std.specs.List.{flat_map, range_with_len}
use Rattle.std.proofs.lemmas.Bool.{and_parts, leb-true, cases_eq}
use Rattle.std.proofs.lemmas.List.{length-map, get_or_default}
use Rattle.std.proofs.lemmas.List.Elements.{All-head, All-tail, Contains-get_or, Contains-append_left, Contains-append_right}
use Rattle.std.proofs.lemmas.List.FromFn.{length-range_with_len, get_or-range_with_len}
use Rattle.implicit_tiling.specs.Answer.{most_tiles}
use Rattle.implicit_tiling.specs.Tile.{Tile}
use Rattle.implicit_tiling.specs.Region.{Region, is_in, is_within}
use Rattle.tiling_laws.proofs.Rising.{contains_first, contains_later, contains_cases, pairs_rest}
use Rattle.walk_course.specs.Spread.{width, places_at, places_above, places, most_words, IsOnce}

-- a list without the element at a place
abbrev without : {X : Type 0} → List X → ℕ → List X
without [] k = []
without (y ∷ ys) zero = ys
without (y ∷ ys) (suc k) = y ∷ without ys k

one_less : {X : Type 0} (ys : List X) (k : ℕ) → k < length ys → length (without ys k) + 1 ≡ length ys
one_less [] k low = absurd (omega (arith, low))
one_less (y ∷ ys) zero low = omega arith
one_less (y ∷ ys) (suc k) low = omega (arith, one_less ys k (omega (arith, low)))

others_stay : {X : Type 0} (ys : List X) (k j : ℕ) (z : X) → j < length ys → j ≢ k → Contains (without ys k) (get_or ys j z)
others_stay [] k j z low other = absurd (omega (arith, low))
others_stay (y ∷ ys) zero zero z low other = absurd (other refl)
others_stay (y ∷ ys) zero (suc j) z low other = Contains-get_or ys j z (omega (arith, low))
others_stay (y ∷ ys) (suc k) zero z low other = Contains-get_or (y ∷ without ys k) 0 z (omega arith)
others_stay (y ∷ ys) (suc k) (suc j) z low other =
    contains_later y (without ys k) (get_or ys j z) (others_stay ys k j z (omega (arith, low)) (λ same. other (ap suc same)))

stays : {X : Type 0} (ys : List X) (x z : X) → x ≢ z → (here : Contains ys x) → Contains ys z → Contains (without ys here.0) z
stays ys x z other here there =
    subst (Contains (without ys here.0)) there.2 (others_stay ys here.0 there.0 z there.1
    (λ same. other (sym here.2 ∙ get_or_default ys here.0 x z here.1 ∙ ap (λ i. get_or ys i z) (sym same) ∙ there.2)))

pub few_of : {X : Type 0} (xs ys : List X) → AllPairs (λ x y. x ≢ y) xs → All (Contains ys) xs → length xs ≤ length ys
few_of [] ys once within = omega arith
few_of (x ∷ xs) ys once within =
    let here : Contains ys x = All-head (Contains ys) x xs within in
    let later = All-tail (Contains ys) x xs within in
    let rest : All (Contains (without ys here.0)) xs = λ k d low.
    stays ys x (get_or xs k d) (once 0 (suc k) d (omega arith) (omega (arith, low))) here (later k d low) in
    let few = few_of xs (without ys here.0) (pairs_rest (λ y z. y ≢ z) x xs once) rest in
    omega (arith, few, one_less ys here.0 here.1)

-- lists of lists, each as long
length_each : {X Y : Type 0} (f : X → List Y) (n : ℕ) (xs : List X) → ((x : X) → length (f x) ≡ n) → length (flat_map f xs) ≡ length xs * n
length_each f n [] each = omega arith
length_each f n (x ∷ xs) each = omega (arith, length-append (f x) (flat_map f xs), each x, length_each f n xs each)

in_one : {X Y : Type 0} (f : X → List Y) (xs : List X) (x : X) (y : Y) → Contains xs x → Contains (f x) y → Contains (flat_map f xs) y
in_one f [] x y there within = absurd (omega (arith, there.1))
in_one {X} {Y} f (z ∷ xs) x y there within =
    ⊎_elim
    (λ same. Contains-append_left (f z) (flat_map f xs) y (subst (λ (w : X). Contains (f w) y) (sym same) within))
    (λ later. Contains-append_right (f z) (flat_map f xs) y (in_one f xs x y later within))
    (contains_cases z xs x there)

into_map : {X Y : Type 0} (f : X → Y) (xs : List X) (x : X) → Contains xs x → Contains (map f xs) (f x)
into_map f [] x there = absurd (omega (arith, there.1))
into_map {X} {Y} f (z ∷ xs) x there =
    ⊎_elim (λ same. subst (λ (w : X). Contains (f z ∷ map f xs) (f w)) same (contains_first (f z) (map f xs)))
    (λ later. contains_later (f z) (map f xs) (f x) (into_map f xs x later)) (contains_cases z xs x there)

-- the coordinates of an axis, and the tiles of the region, k levels above its own
abbrev span : Region → ℕ → ℕ → List ℕ
span region axis k = range_with_len (slice_index region.lo axis / 2 ^ k) (width region axis k)

abbrev place : Region → ℕ → ℕ → ℕ → ℕ → Tile
place region k z y x = record { level = region.level - k; x = x; y = y; z = z }

abbrev row : Region → ℕ → ℕ → ℕ → List Tile
row region k z y = map (place region k z y) (span region 0 k)

abbrev layer : Region → ℕ → ℕ → List Tile
layer region k z = flat_map (row region k z) (span region 1 k)

abbrev level_places : Region → ℕ → List Tile
level_places region k = flat_map (layer region k) (span region 2 k)

abbrev all_places : Region → ℕ → List Tile
all_places region zero = []
all_places region (suc n) = all_places region n ++ level_places region n

length_row : (region : Region) (k z y : ℕ) → length (row region k z y) ≡ width region 0 k
length_row region k z y = length-map (span region 0 k) (place region k z y) ∙ length-range_with_len (slice_index region.lo 0 / 2 ^ k) (width region 0 k)

length_layer : (region : Region) (k z : ℕ) → length (layer region k z) ≡ width region 1 k * width region 0 k
length_layer region k z =
    length_each (row region k z) (width region 0 k) (span region 1 k) (length_row region k z)
    ∙ ap (λ n. n * width region 0 k) (length-range_with_len (slice_index region.lo 1 / 2 ^ k) (width region 1 k))

length_level : (region : Region) (k : ℕ) → length (level_places region k) ≡ places_at region k
length_level region k =
    length_each (layer region k) (width region 1 k * width region 0 k) (span region 2 k) (length_layer region k)
    ∙ ap (λ n. n * (width region 1 k * width region 0 k)) (length-range_with_len (slice_index region.lo 2 / 2 ^ k) (width region 2 k))

length_all : (region : Region) (n : ℕ) → length (all_places region n) ≡ places_above region n
length_all region zero = refl
length_all region (suc n) = omega (arith, length-append (all_places region n) (level_places region n), length_all region n, length_level region n)

-- a tile in the region has a place
in_range : (a n x : ℕ) → a ≤ x → x < a + n → Contains (range_with_len a n) x
in_range a n x low high =
    let here : x - a < n = omega arith in
    (x - a, omega (arith, here, length-range_with_len a n), omega (arith, get_or-range_with_len a n (x - a) x here, low))

in_span : (region : Region) (axis k x : ℕ) → is_within k (slice_index region.lo axis) (slice_index region.hi axis) x ≡ true → Contains (span region axis k) x
in_span region axis k x within =
    let parts = and_parts _ _ within in
    let low = leb-true (slice_index region.lo axis / 2 ^ k) x parts.0 in
    let high = leb-true x (slice_index region.hi axis / 2 ^ k) parts.1 in
    in_range (slice_index region.lo axis / 2 ^ k) (width region axis k) x low (omega arith)

in_level : (region : Region) (k : ℕ) (t : Tile) → Contains (span region 0 k) t.x → Contains (span region 1 k) t.y → Contains (span region 2 k) t.z
    → Contains (level_places region k) (place region k t.z t.y t.x)
in_level region k t x y z =
    in_one (layer region k) (span region 2 k) t.z (place region k t.z t.y t.x) z
    (in_one (row region k t.z) (span region 1 k) t.y (place region k t.z t.y t.x) y (into_map (place region k t.z t.y) (span region 0 k) t.x x))

in_all : (region : Region) (n k : ℕ) (t : Tile) → k < n → Contains (level_places region k) t → Contains (all_places region n) t
in_all region zero k t low there = absurd (omega (arith, low))
in_all region (suc n) k t low there =
    ⊎_elim
    (λ same. Contains-append_right (all_places region n) (level_places region n) t (subst (λ m. Contains (level_places region m) t) same there))
    (λ other. Contains-append_left (all_places region n) (level_places region n) t (in_all region n k t (omega (arith, low, other)) there))
    (cases_eq k n)

has_place : (region : Region) (t : Tile) → is_in region t ≡ true → Contains (all_places region (region.level + 1)) t
has_place region t is =
    let parts = and_parts _ _ is in
    let low = leb-true t.level region.level parts.0 in
    let k = region.level - t.level in
    let level : region.level - k ≡ t.level = omega (arith, low) in
    let above : k < region.level + 1 = omega arith in
    let all = and_parts _ _ parts.1 in
    let first = and_parts _ _ all.0 in
    let same : place region k t.z t.y t.x ≡ t = ap (λ l. record { level = l; x = t.x; y = t.y; z = t.z }) level in
    subst (Contains (all_places region (region.level + 1))) same
    (in_all region (region.level + 1) k (place region k t.z t.y t.x) above
    (in_level region k t (in_span region 0 k t.x first.0) (in_span region 1 k t.y first.1) (in_span region 2 k t.z all.1)))

-- tiles of the region, each once
pub few_in : (region : Region) (tiles : List Tile) → IsOnce tiles → All (λ t. is_in region t ≡ true) tiles → length tiles ≤ places region
few_in region tiles once within =
    let few = few_of tiles (all_places region (region.level + 1)) once (λ k d low. has_place region (get_or tiles k d) (within k d low)) in
    omega (arith, few, length_all region (region.level + 1))

pub in_most : (n : ℕ) (region : Region) → n ≤ most_tiles → n ≤ places region → n ≤ most_words region
in_most n region few placed = omega arith
