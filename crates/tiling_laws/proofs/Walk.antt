-- An answer depends on no file outside its walk.
use Rattle.std.proofs.Common.{◌≡◌, ℕ, zero, suc, ◌+◌, ◌-◌, ◌/◌, ◌%◌, ◌^◌, ◌<◌, ◌≤◌, Bool, true, false, cond, List, [], ◌∷◌, length, refl, ap, ◌∙◌, arith}
use Rattle.std.specs.Prelude.{◌&&◌, ◌||◌, ◌==◌, nat_lt, nat_le, not, slice_index, filter, Option, take, option_map}
use Rattle.std.specs.List.{filter_map, cons_option, All}
use Rattle.std.proofs.Math.Nat.{div-mul-le_self}
use Rattle.std.proofs.lemmas.Nat.{shr-shr, le-div, pow_pos}
use Rattle.std.proofs.lemmas.Bool.{and_parts, and_from, le-leb, leb-true, eqb-false, eq-eqb, or_left}
use Rattle.std.proofs.lemmas.List.Elements.{All-head, All-tail}
use Rattle.implicit_tiling.specs.Tile.{Tile, IsTile, branching, index, ancestor, parent, tile_at, all_tiles}
use Rattle.implicit_tiling.specs.Region.{Region, is_in, is_within}
use Rattle.implicit_tiling.specs.Scene.{Layout, Outcome, tile_bit_of, child_bit_of, fault_of}
use Rattle.implicit_tiling.specs.Availability.{local_level, subtree_root, is_subtree_root, place, tile_bit, child_bit, available_at, is_available, is_reached}
use Rattle.implicit_tiling.specs.Answer.{is_on_walk, fault_at, first, first_fault, is_before, tiles, most_tiles, end_of, Answer, answer}
use Rattle.tiling_laws.specs.Available.{scene}
use Rattle.tiling_laws.proofs.TileAt.{tile_at_is_tile}
use Rattle.tiling_laws.proofs.Ancestors.{ancestor_is_tile}
use Rattle.tiling_laws.proofs.Order.{of_all_tiles}
use Rattle.tiling_laws.proofs.Subtrees.{root_of_root}
use Rattle.tiling_laws.proofs.Places.{local_low}
use Rattle.tiling_laws.proofs.Available.{available_reached, own_root_reached, top_is_root, reached_from}

-- tests that agree where what stands beside them holds
and_same : (a b c d : Bool) → a ≡ b → (a ≡ true → c ≡ d) → (a && c) ≡ (b && d)
and_same true b c d e h = h refl ∙ ap (λ w. w && d) e
and_same false b c d e h = ap (λ w. w && d) e

and_same_left : (a b c : Bool) → (c ≡ true → a ≡ b) → (a && c) ≡ (b && c)
and_same_left a b true h = ap (λ w. w && true) (h refl)
and_same_left true true false h = refl
and_same_left true false false h = refl
and_same_left false true false h = refl
and_same_left false false false h = refl

or_same : (a c d : Bool) → (a ≡ false → c ≡ d) → (a || c) ≡ (a || d)
or_same true c d h = refl
or_same false c d h = h refl

-- an ancestor of a tile in a region is in it
div_le : (a b m : ℕ) → 0 < m → a ≤ b → a / m ≤ b / m
div_le a b m pos le = le-div (a / m) b m pos (omega (arith, div-mul-le_self a m))

within_up : (d k lo hi c : ℕ) → is_within d lo hi c ≡ true → is_within (d + k) lo hi (c / 2 ^ k) ≡ true
within_up d k lo hi c h =
    let parts = and_parts (nat_le (lo / 2 ^ d) c) (nat_le c (hi / 2 ^ d)) h in
    let low = div_le (lo / 2 ^ d) c (2 ^ k) (pow_pos k) (leb-true (lo / 2 ^ d) c parts.0) in
    let high = div_le c (hi / 2 ^ d) (2 ^ k) (pow_pos k) (leb-true c (hi / 2 ^ d) parts.1) in
    and_from (nat_le (lo / 2 ^ (d + k)) (c / 2 ^ k)) (nat_le (c / 2 ^ k) (hi / 2 ^ (d + k)))
    (le-leb (lo / 2 ^ (d + k)) (c / 2 ^ k) (omega (arith, low, shr-shr lo d k)))
    (le-leb (c / 2 ^ k) (hi / 2 ^ (d + k)) (omega (arith, high, shr-shr hi d k)))

-- the test of one axis
abbrev axis_test : Region → ℕ → ℕ → ℕ → Bool
axis_test region d axis c = is_within d (slice_index region.lo axis) (slice_index region.hi axis) c

pub in_region_level : (region : Region) (t : Tile) → is_in region t ≡ true → t.level ≤ region.level
in_region_level region t h = leb-true t.level region.level (and_parts (nat_le t.level region.level) _ h).0

pub ancestor_in_region : (region : Region) (k : ℕ) (t : Tile) → k ≤ t.level → is_in region t ≡ true → is_in region (ancestor k t) ≡ true
ancestor_in_region region k t le h =
    let d = region.level - t.level in
    let low = in_region_level region t h in
    let x = axis_test region d 0 t.x in
    let y = axis_test region d 1 t.y in
    let z = axis_test region d 2 t.z in
    let axes = (and_parts (nat_le t.level region.level) (x && y && z) h).1 in
    let in_z = and_parts (x && y) z axes in
    let in_xy = and_parts x y in_z.0 in
    let up : region.level - (t.level - k) ≡ d + k = omega arith in
    let wide : (axis c : ℕ) → axis_test region d axis c ≡ true → axis_test region (region.level - (t.level - k)) axis (c / 2 ^ k) ≡ true =
    λ axis c is. ap (λ e. axis_test region e axis (c / 2 ^ k)) up ∙ within_up d k (slice_index region.lo axis) (slice_index region.hi axis) c is in
    let x_up = axis_test region (region.level - (t.level - k)) 0 (t.x / 2 ^ k) in
    let y_up = axis_test region (region.level - (t.level - k)) 1 (t.y / 2 ^ k) in
    let z_up = axis_test region (region.level - (t.level - k)) 2 (t.z / 2 ^ k) in
    and_from (nat_le (t.level - k) region.level) (x_up && y_up && z_up) (le-leb (t.level - k) region.level (omega arith))
    (and_from (x_up && y_up) z_up (and_from x_up y_up (wide 0 t.x in_xy.0) (wide 1 t.y in_xy.1)) (wide 2 t.z in_z.1))

-- files that are alike at the roots on the walk
record IsAlike (layout : Layout) (one other : Tile → Outcome) (region : Region) : Type 0 where
  alike : (r : Tile) → IsTile layout.scheme r → is_on_walk (scene layout one) region r ≡ true → one r ≡ other r

-- are alike at the root of the subtree of a tile in the region, where that root is reached
root_alike : (layout : Layout) (one other : Tile → Outcome) (region : Region) → IsAlike layout one other region → (t : Tile) → IsTile layout.scheme t → is_in region t ≡ true
    → is_reached (scene layout one) (subtree_root layout t) ≡ true → one (subtree_root layout t) ≡ other (subtree_root layout t)
root_alike layout one other region k t tile within reached =
    k.alike (subtree_root layout t) (ancestor_is_tile layout.scheme (local_level layout t) t tile)
    (and_from (is_reached (scene layout one) (subtree_root layout t)) (is_in region (subtree_root layout t)) reached
    (ancestor_in_region region (local_level layout t) t (local_low layout t) within))

tile_alike : (layout : Layout) (one other : Tile → Outcome) (t : Tile) → one (subtree_root layout t) ≡ other (subtree_root layout t)
    → tile_bit (scene layout one) t ≡ tile_bit (scene layout other) t
tile_alike layout one other t e = ap (λ (o : Outcome). nat_lt t.level layout.levels && tile_bit_of o (place layout t)) e

child_alike : (layout : Layout) (one other : Tile → Outcome) (r : Tile) → one (subtree_root layout (parent r)) ≡ other (subtree_root layout (parent r))
    → child_bit (scene layout one) r ≡ child_bit (scene layout other) r
child_alike layout one other r e =
    ap (λ (o : Outcome). nat_lt r.level layout.levels && child_bit_of o (index layout.scheme r % branching layout.scheme ^ layout.subtree_levels)) e

available_same : (layout : Layout) (one other : Tile → Outcome) (region : Region) → IsAlike layout one other region → (n : ℕ) (t : Tile) → t.level ≡ n
    → IsTile layout.scheme t → is_in region t ≡ true → available_at (scene layout one) n t ≡ available_at (scene layout other) n t
available_same layout one other region k zero t level tile within =
    let top = top_is_root layout t level in
    and_same (nat_lt t.level layout.levels) (nat_lt t.level layout.levels) (tile_bit_of (one (subtree_root layout t)) (place layout t))
    (tile_bit_of (other (subtree_root layout t)) (place layout t)) refl
    (λ low. ap (λ (o : Outcome). tile_bit_of o (place layout t)) (root_alike layout one other region k t tile within
    (ap (is_reached (scene layout one)) (root_of_root layout t top)
    ∙ reached_from (scene layout one) t top low (or_left (t.level == 0) (is_available (scene layout one) (parent t) && child_bit (scene layout one) t) (eq-eqb t.level 0 level)))))
available_same layout one other region k (suc n) t level tile within =
    let s = scene layout one in
    let u = scene layout other in
    let up_tile = ancestor_is_tile layout.scheme 1 t tile in
    let up_within = ancestor_in_region region 1 t (omega arith) within in
    let above = available_same layout one other region k n (parent t) (omega arith) up_tile up_within in
    let asked_s = not (is_subtree_root layout t) || child_bit s t in
    let asked_u = not (is_subtree_root layout t) || child_bit u t in
    let named : available_at s n (parent t) ≡ true → asked_s ≡ asked_u =
    λ there. ap (λ w. not (is_subtree_root layout t) || w) (child_alike layout one other t
    (root_alike layout one other region k (parent t) up_tile up_within (available_reached s n (parent t) (omega arith) there))) in
    let own : (available_at s n (parent t) && asked_s) ≡ true → tile_bit s t ≡ tile_bit u t =
    λ both. let parts = and_parts (available_at s n (parent t)) asked_s both in
    tile_alike layout one other t (root_alike layout one other region k t tile within (own_root_reached s n t level parts.0 parts.1)) in
    and_same (available_at s n (parent t) && asked_s) (available_at u n (parent t) && asked_u) (tile_bit s t) (tile_bit u t)
    (and_same (available_at s n (parent t)) (available_at u n (parent t)) asked_s asked_u above named) own

reached_same : (layout : Layout) (one other : Tile → Outcome) (region : Region) → IsAlike layout one other region → (r : Tile) → IsTile layout.scheme r → is_in region r ≡ true
    → is_reached (scene layout one) r ≡ is_reached (scene layout other) r
reached_same layout one other region k r tile within =
    let s = scene layout one in
    let u = scene layout other in
    let named : (r.level == 0) ≡ false → (is_available s (parent r) && child_bit s r) ≡ (is_available u (parent r) && child_bit u r) =
    λ below. let not_top = eqb-false r.level 0 below in
    let up_tile = ancestor_is_tile layout.scheme 1 r tile in
    let up_within = ancestor_in_region region 1 r (omega arith) within in
    and_same (is_available s (parent r)) (is_available u (parent r)) (child_bit s r) (child_bit u r)
    (available_same layout one other region k (r.level - 1) (parent r) refl up_tile up_within)
    (λ there. child_alike layout one other r (root_alike layout one other region k (parent r) up_tile up_within (available_reached s (r.level - 1) (parent r) refl there))) in
    ap (λ w. is_subtree_root layout r && nat_lt r.level layout.levels && w)
    (or_same (r.level == 0) (is_available s (parent r) && child_bit s r) (is_available u (parent r) && child_bit u r) named)

-- lists that tests agree on
pub filter_same : {X : Type 0} (p q : X → Bool) (xs : List X) → All (λ x. p x ≡ q x) xs → filter p xs ≡ filter q xs
filter_same p q [] h = refl
filter_same p q (x ∷ xs) h =
    ap (λ b. cond b (x ∷ filter p xs) (filter p xs)) (All-head (λ w. p w ≡ q w) x xs h)
    ∙ ap (λ w. cond (q x) (x ∷ w) w) (filter_same p q xs (All-tail (λ w. p w ≡ q w) x xs h))

kept_one : {X Y : Type 0} (f g : X → Option Y) (x : X) (b : Bool) (kept : List X) → (b ≡ true → f x ≡ g x) → filter_map f kept ≡ filter_map g kept
    → filter_map f (cond b (x ∷ kept) kept) ≡ filter_map g (cond b (x ∷ kept) kept)
kept_one f g x true kept same rest = ap (λ o. cons_option o (filter_map f kept)) (same refl) ∙ ap (λ w. cons_option (g x) w) rest
kept_one f g x false kept same rest = rest

kept_same : {X Y : Type 0} (f g : X → Option Y) (p : X → Bool) (xs : List X) → All (λ x. p x ≡ true → f x ≡ g x) xs → filter_map f (filter p xs) ≡ filter_map g (filter p xs)
kept_same f g p [] h = refl
kept_same f g p (x ∷ xs) h =
    kept_one f g x (p x) (filter p xs) (All-head (λ w. p w ≡ true → f w ≡ g w) x xs h) (kept_same f g p xs (All-tail (λ w. p w ≡ true → f w ≡ g w) x xs h))

fault_alike : (layout : Layout) (one other : Tile → Outcome) (r : Tile) → one r ≡ other r → fault_at (scene layout one) r ≡ fault_at (scene layout other) r
fault_alike layout one other r e = ap {B = Option (Tile × ℕ)} (λ (o : Outcome). option_map (λ n. (r, n)) (fault_of o)) e

first_fault_same : (layout : Layout) (one other : Tile → Outcome) (region : Region) → IsAlike layout one other region
    → first_fault (scene layout one) region ≡ first_fault (scene layout other) region
first_fault_same layout one other region k =
    let s = scene layout one in
    let u = scene layout other in
    let all = all_tiles layout.scheme region.level in
    let faults : All (λ r. is_on_walk s region r ≡ true → fault_at s r ≡ fault_at u r) all =
    of_all_tiles (λ r. is_on_walk s region r ≡ true → fault_at s r ≡ fault_at u r) layout.scheme region.level
    (λ level i low on. fault_alike layout one other (tile_at layout.scheme level i) (k.alike (tile_at layout.scheme level i) (tile_at_is_tile layout.scheme level i) on)) in
    let walks : All (λ r. is_on_walk s region r ≡ is_on_walk u region r) all =
    of_all_tiles (λ r. is_on_walk s region r ≡ is_on_walk u region r) layout.scheme region.level
    (λ level i low. let r = tile_at layout.scheme level i in
    and_same_left (is_reached s r) (is_reached u r) (is_in region r) (reached_same layout one other region k r (tile_at_is_tile layout.scheme level i))) in
    ap first (kept_same (fault_at s) (fault_at u) (is_on_walk s region) all faults)
    ∙ ap (λ w. first (filter_map (fault_at u) w)) (filter_same (is_on_walk s region) (is_on_walk u region) all walks)

tiles_same : (layout : Layout) (one other : Tile → Outcome) (region : Region) → IsAlike layout one other region
    → tiles (scene layout one) region ≡ tiles (scene layout other) region
tiles_same layout one other region k =
    let s = scene layout one in
    let u = scene layout other in
    let in_s : Tile → Bool = λ t. is_in region t && is_available s t && is_before layout.scheme (first_fault s region) t in
    let in_u : Tile → Bool = λ t. is_in region t && is_available u t && is_before layout.scheme (first_fault u region) t in
    filter_same in_s in_u (all_tiles layout.scheme region.level) (of_all_tiles (λ t. in_s t ≡ in_u t) layout.scheme region.level
    (λ level i low. let t = tile_at layout.scheme level i in
    and_same (is_in region t && is_available s t) (is_in region t && is_available u t) (is_before layout.scheme (first_fault s region) t)
    (is_before layout.scheme (first_fault u region) t)
    (and_same (is_in region t) (is_in region t) (is_available s t) (is_available u t) refl
    (λ within. available_same layout one other region k t.level t refl (tile_at_is_tile layout.scheme level i) within))
    (λ both. ap (λ f. is_before layout.scheme f t) (first_fault_same layout one other region k))))

pub answer_reads_the_walk : (layout : Layout) (one other : Tile → Outcome) (region : Region)
    → ((r : Tile) → IsTile layout.scheme r → is_on_walk (scene layout one) region r ≡ true → one r ≡ other r)
    → answer (scene layout one) region ≡ answer (scene layout other) region
answer_reads_the_walk layout one other region alike =
    let k : IsAlike layout one other region = record { alike = alike } in
    let answer_of : List Tile → Option (Tile × ℕ) → Answer = λ ts found. record { tiles = take most_tiles ts; end = end_of (length ts) found } in
    ap (λ ts. answer_of ts (first_fault (scene layout one) region)) (tiles_same layout one other region k)
    ∙ ap (λ f. answer_of (tiles (scene layout other) region) f) (first_fault_same layout one other region k)
