-- Nodes as tiles: they are tiles within the limits, and their indices stand in a run below the root's.
use Rattle.std.proofs.Common.{◌≡◌, ℕ, zero, suc, ◌+◌, ◌-◌, ◌*◌, ◌/◌, ◌%◌, ◌^◌, ◌<◌, ◌≤◌, Bool, true, false, [], map, refl, sym, ap, subst, ◌∙◌, arith, add-one, add-zero}
use Rattle.std.specs.Prelude.{◌&&◌, nat_le, slice_index}
use Rattle.std.proofs.Math.Nat.{mul-le-mul_right, mul_assoc, pow-suc}
use Rattle.std.proofs.lemmas.Nat.{pow-add}
use Rattle.std.proofs.lemmas.Bool.{and_parts, ltb-true}
use Rattle.implicit_tiling.specs.declared.Scheme.{Scheme}
use Rattle.implicit_tiling.specs.declared.Scheme.TheVariants.{Quad, Oct}
use Rattle.implicit_tiling.specs.Limits.{most_levels}
use Rattle.implicit_tiling.specs.Tile.{Tile, IsTile, axes, branching, ancestor, child, index, tile_at}
use Rattle.implicit_tiling.specs.Region.{Region, is_in, is_within, each_axis, coordinate}
use Rattle.implicit_tiling.specs.Availability.{nodes_above}
use Rattle.implicit_tiling.specs.Subtree.{Subtree, IsSubtree, is_kept, has_tile, has_child}
use Rattle.implicit_tiling.specs.Bits.{bit_at}
use Rattle.implicit_tiling.specs.Code.{word}
use Rattle.implicit_tiling.specs.Nodes.{node_at, indices, is_tile_in, node_word, level_words, is_child_in, child_word, child_words}
use Rattle.region_scan.specs.Found.{is_looked_at, first_index}
use Rattle.region_scan.specs.NodeLaws.{below, IsNode}
use Rattle.region_scan.proofs.Scan.{none_pass}
use Rattle.tiling_laws.proofs.Index.{index_below}
use Rattle.tiling_laws.proofs.TileAt.{rest_below, same_tile, tile_at_level, tile_at_is_tile, index_of_tile_at, tile_at_index}
use Rattle.tiling_laws.proofs.Ancestors.{branching_pow_pos, descendants}
use Rattle.tile_word.proofs.Levels.{power_of_branching, indices_fit}

-- the index of a node is one of its level
pub index_in_level : (scheme : Scheme) (t : Tile) (l m : ℕ) → m < branching scheme ^ l
    → index scheme t * branching scheme ^ l + m < branching scheme ^ (t.level + l)
index_in_level scheme t l m h =
    let low : index scheme t + 1 ≤ branching scheme ^ t.level = omega (arith, index_below scheme t) in
    let wide : (index scheme t + 1) * branching scheme ^ l ≤ branching scheme ^ t.level * branching scheme ^ l = mul-le-mul_right (branching scheme ^ l) low in
    omega (arith, wide, pow-add (branching scheme) t.level l)

-- the first index of the nodes of a level, by a shift
pub shifted : (scheme : Scheme) (t : Tile) (i a l m : ℕ) → i ≡ index scheme t → a ≡ axes scheme → t.level + l < most_levels scheme → m < branching scheme ^ l
    → i * 2 ^ (a * l) % 2 ^ 64 ≡ index scheme t * branching scheme ^ l
shifted scheme t i a l m at is low h =
    ap (λ n. n * 2 ^ (a * l) % 2 ^ 64) at ∙ ap (λ n. index scheme t * 2 ^ (n * l) % 2 ^ 64) is
    ∙ ap (λ n. index scheme t * n % 2 ^ 64) (power_of_branching scheme l)
    ∙ omega (arith, index_in_level scheme t l m h, indices_fit scheme (t.level + l) low)

pub node_is_tile : (s : Subtree) (l m : ℕ) → IsTile s.scheme (node_at s l m)
node_is_tile s l m = tile_at_is_tile s.scheme (s.root.level + l) (index s.scheme s.root * branching s.scheme ^ l + m)

pub node_level : (s : Subtree) (l m : ℕ) → (node_at s l m).level ≡ s.root.level + l
node_level s l m = tile_at_level s.scheme (s.root.level + l) (index s.scheme s.root * branching s.scheme ^ l + m)

pub node_index : (s : Subtree) (l m : ℕ) → m < branching s.scheme ^ l → index s.scheme (node_at s l m) ≡ index s.scheme s.root * branching s.scheme ^ l + m
node_index s l m h =
    index_of_tile_at s.scheme (s.root.level + l) (index s.scheme s.root * branching s.scheme ^ l + m) (index_in_level s.scheme s.root l m h)

-- the word of a node is that of its level, its mask and its index
pub word_of_node : (s : Subtree) (l m first level mask : ℕ) → m < branching s.scheme ^ l → first ≡ first_index s l → level ≡ s.root.level + l
    → level * 2 ^ 80 + mask * 2 ^ 64 + (first + m) ≡ word s.scheme (node_at s l m) mask
word_of_node s l m first level mask h at level_is =
    ap (λ n. n * 2 ^ 80 + mask * 2 ^ 64 + (first + m)) (level_is ∙ sym (node_level s l m))
    ∙ ap (λ n. (node_at s l m).level * 2 ^ 80 + mask * 2 ^ 64 + n) (ap (λ n. n + m) at ∙ sym (node_index s l m h))

-- a node below the levels in all is within the limits
pub node_within : (s t : Subtree) (l m : ℕ) (n : Tile) → s ≡ t → IsSubtree s → t.root.level + l < t.cut → n ≡ node_at t l m → n.level < most_levels s.scheme
node_within s t l m n same is kept at =
    let kept_s : s.root.level + l < s.cut = subst (λ u. u.root.level + l < u.cut) (sym same) kept in
    omega (arith, ap (λ (u : Tile). u.level) at, node_level t l m, ap (λ (u : Subtree). u.root.level) same, is.few_levels_in_all)

pub node_fits : (s t : Subtree) (l m : ℕ) (n : Tile) → s ≡ t → n ≡ node_at t l m → IsTile s.scheme n
node_fits s t l m n same at =
    subst (λ u. IsTile s.scheme u) (sym at) (subst (λ (u : Subtree). IsTile u.scheme (node_at t l m)) (sym same) (node_is_tile t l m))

-- what the code makes of a node: its level, its index, and its tile
pub record NodePlace (s t : Subtree) (l m first level : ℕ) : Type 0 where
  pub level_fits : level < most_levels s.scheme
  pub index_fits : first + m < branching s.scheme ^ level
  pub short : first + m < 2 ^ 64
  pub tile : tile_at s.scheme level (first + m) ≡ node_at t l m

own_place : (s : Subtree) (l m first level : ℕ) → IsSubtree s → s.root.level + l < s.cut → m < branching s.scheme ^ l → first ≡ first_index s l
    → level ≡ s.root.level + l → NodePlace s s l m first level
own_place s l m first level is kept h at level_is =
    let low : s.root.level + l < most_levels s.scheme = omega (arith, is.few_levels_in_all) in
    let within = index_in_level s.scheme s.root l m h in
    record {
      level_fits = omega arith;
      index_fits = subst (λ n. n + m < branching s.scheme ^ level) (sym at) (subst (λ n. first_index s l + m < branching s.scheme ^ n) (sym level_is) within);
      short = omega (arith, at, within, indices_fit s.scheme (s.root.level + l) low);
      tile = ap (λ n. tile_at s.scheme n (first + m)) level_is ∙ ap (λ n. tile_at s.scheme (s.root.level + l) (n + m)) at;
    }

pub node_place : (s t : Subtree) (l m first level : ℕ) → s ≡ t → IsSubtree s → t.root.level + l < t.cut → m < branching t.scheme ^ l
    → first ≡ first_index t l → level ≡ t.root.level + l → NodePlace s t l m first level
node_place s t l m first level same is kept h at level_is =
    let own = own_place s l m first level is (subst (λ u. u.root.level + l < u.cut) (sym same) kept) (subst (λ u. m < branching u.scheme ^ l) (sym same) h)
    (at ∙ ap (λ u. first_index u l) (sym same)) (level_is ∙ ap (λ (u : Subtree). u.root.level + l) (sym same)) in
    record {
      level_fits = own.level_fits;
      index_fits = own.index_fits;
      short = own.short;
      tile = own.tile ∙ ap (λ u. node_at u l m) same;
    }

-- the first index of a level, by a shift
pub first_by_shift : (s t : Subtree) (l i a : ℕ) → s ≡ t → IsSubtree s → t.root.level + l < t.cut → i ≡ index s.scheme s.root → a ≡ axes s.scheme
    → i * 2 ^ (a * l) % 2 ^ 64 ≡ first_index t l
first_by_shift s t l i a same is kept at places =
    let kept_s : s.root.level + l < s.cut = subst (λ u. u.root.level + l < u.cut) (sym same) kept in
    shifted s.scheme s.root i a l 0 at places (omega (arith, is.few_levels_in_all)) (branching_pow_pos s.scheme l) ∙ ap (λ u. first_index u l) same

-- nothing is in the region where the level isn't looked at
no_tile : (k b e r : Bool) → (k && e) ≡ false → (k && b && (e && r)) ≡ false
no_tile false b e r h = refl
no_tile true false e r h = refl
no_tile true true false r h = refl
no_tile true true true r h = cc

no_child : (k b p e r : Bool) → (k && e) ≡ false → (k && b && p && (e && r)) ≡ false
no_child false b p e r h = refl
no_child true false p e r h = refl
no_child true true false e r h = refl
no_child true true true false r h = refl
no_child true true true true r h = cc

-- the test of a level is that of the region's first part
level_tested : (s : Subtree) (region : Region) (l m : ℕ)
    → is_in region (node_at s l m)
    ≡ (nat_le (s.root.level + l) region.level
    && each_axis (λ axis. is_within (region.level - (node_at s l m).level) (slice_index region.lo axis) (slice_index region.hi axis) (coordinate (node_at s l m) axis)))
level_tested s region l m =
    ap (λ n. nat_le n region.level
    && each_axis (λ axis. is_within (region.level - (node_at s l m).level) (slice_index region.lo axis) (slice_index region.hi axis) (coordinate (node_at s l m) axis)))
    (node_level s l m)

pub no_tiles : (s : Subtree) (l : ℕ) (region : Region) → is_looked_at s l region ≡ false → level_words s region l ≡ []
no_tiles s l region h =
    ap (map (node_word s l)) (none_pass (is_tile_in s region l) (λ m. ap (λ b. has_tile s l m && b) (level_tested s region l m)
    ∙ no_tile (is_kept s l) (bit_at s.tiles (nodes_above s.scheme l + m)) (nat_le (s.root.level + l) region.level) _ h) (indices s l))

pub no_children : (s : Subtree) (region : Region) → is_looked_at s s.levels region ≡ false → child_words s region ≡ []
no_children s region h =
    ap (map (child_word s)) (none_pass (is_child_in s region) (λ m. ap (λ b. has_child s m && has_tile s (s.levels - 1) (m / branching s.scheme) && b) (level_tested s region s.levels m)
    ∙ no_child (is_kept s s.levels) (bit_at s.child m) (has_tile s (s.levels - 1) (m / branching s.scheme)) (nat_le (s.root.level + s.levels) region.level) _ h) (indices s s.levels))

pub kept_level : (s : Subtree) (l : ℕ) (region : Region) → is_looked_at s l region ≡ true → s.root.level + l < s.cut
kept_level s l region h = ltb-true (s.root.level + l) s.cut (and_parts (is_kept s l) (nat_le (s.root.level + l) region.level) h).0

-- a child root, whose level is that of its own subtree
pub child_within : (s t : Subtree) (m : ℕ) (n : Tile) → s ≡ t → IsSubtree s → t.root.level + t.levels < t.cut → n ≡ node_at t s.levels m → n.level < most_levels s.scheme
child_within s t m n same is kept at =
    node_within s t s.levels m n same is (subst (λ k. t.root.level + k < t.cut) (sym (ap (λ (u : Subtree). u.levels) same)) kept) at

-- a node is the child of the node above it
last_place : (scheme : Scheme) (a m : ℕ) → (a * branching scheme + m) / branching scheme ≡ a + m / branching scheme
last_place Quad a m = omega arith
last_place Oct a m = omega arith

last_number : (scheme : Scheme) (a m : ℕ) → (a * branching scheme + m) % branching scheme ≡ m % branching scheme
last_number Quad a m = omega arith
last_number Oct a m = omega arith

pub node_child : (s : Subtree) (l m : ℕ) → node_at s (l + 1) m ≡ child (node_at s l (m / branching s.scheme)) (m % branching s.scheme)
node_child s l m =
    let n = branching s.scheme in
    let level : s.root.level + (l + 1) ≡ suc (s.root.level + l) = omega arith in
    let first : first_index s (l + 1) ≡ first_index s l * n =
    ap (λ k. index s.scheme s.root * n ^ k) (add-one l) ∙ ap (λ w. index s.scheme s.root * w) (pow-suc n l) ∙ sym (mul_assoc (index s.scheme s.root) (n ^ l) n) in
    ap (λ k. tile_at s.scheme k (first_index s (l + 1) + m)) level
    ∙ ap (λ w. tile_at s.scheme (suc (s.root.level + l)) (w + m)) first
    ∙ ap (λ w. child (tile_at s.scheme (s.root.level + l) w) ((first_index s l * n + m) % n)) (last_place s.scheme (first_index s l) m)
    ∙ ap (child (node_at s l (m / n))) (last_number s.scheme (first_index s l) m)

-- the coordinates of a node are the root's, and then its own
child_below : (root t : Tile) (n : ℕ) → child (below root t) n ≡ below root (child t n)
child_below root t n =
    let wider : 2 ^ (t.level + 1) ≡ 2 ^ t.level * 2 = ap (λ e. 2 ^ e) (add-one t.level) ∙ pow-suc 2 t.level in
    same_tile (child (below root t) n) (below root (child t n)) (omega arith)
    (omega (arith, ap (λ w. root.x * w) wider)) (omega (arith, ap (λ w. root.y * w) wider)) (omega (arith, ap (λ w. root.z * w) wider))

only_index : (scheme : Scheme) (i m : ℕ) → m < branching scheme ^ 0 → i * branching scheme ^ 0 + m ≡ i
only_index Quad i m h = omega arith
only_index Oct i m h = omega arith

pub node_coordinates : (s : Subtree) (l m : ℕ) → IsTile s.scheme s.root → m < branching s.scheme ^ l → node_at s l m ≡ below s.root (tile_at s.scheme l m)
node_coordinates s zero m root_is h =
    ap (λ k. tile_at s.scheme k (first_index s 0 + m)) (add-zero s.root.level)
    ∙ ap (tile_at s.scheme s.root.level) (only_index s.scheme (index s.scheme s.root) m h) ∙ tile_at_index s.scheme s.root root_is
    ∙ same_tile s.root (below s.root (tile_at s.scheme 0 m)) (omega arith) (omega arith) (omega arith) (omega arith)
node_coordinates s (suc l) m root_is h =
    let n = branching s.scheme in
    ap (λ k. node_at s k m) (sym (add-one l)) ∙ node_child s l m
    ∙ ap (λ t. child t (m % n)) (node_coordinates s l (m / n) root_is (rest_below s.scheme l m h))
    ∙ child_below s.root (tile_at s.scheme l (m / n)) (m % n)

-- the root is the ancestor of each node
pub root_above : (s : Subtree) (l m : ℕ) → IsTile s.scheme s.root → m < branching s.scheme ^ l → ancestor l (node_at s l m) ≡ s.root
root_above s l m root_is h =
    (descendants s.scheme l (node_at s l m) s.root (node_is_tile s l m) root_is (node_level s l m)).1
    (omega (arith, node_index s l m h), omega (arith, node_index s l m h))

pub nodes_are_tiles : (s : Subtree) (l m : ℕ) → IsTile s.scheme s.root → m < branching s.scheme ^ l → IsNode s l m (node_at s l m)
nodes_are_tiles s l m root_is h = record {
  is_tile = node_is_tile s l m;
  level = node_level s l m;
  index = node_index s l m h;
  coordinates = node_coordinates s l m root_is h;
  above = root_above s l m root_is h;
}
