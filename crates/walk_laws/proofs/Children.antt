-- The subtree roots on a walk right below a subtree root.
use Rattle.std.proofs.Common.{◌≡◌, ℕ, suc, ◌+◌, ◌-◌, ◌*◌, ◌/◌, ◌%◌, ◌^◌, ◌<◌, ◌≤◌, true, false, [], map, refl, sym, ap, subst, ◌∙◌, arith}
use Rattle.std.specs.Prelude.{◌&&◌, ◌==◌, nat_lt, filter}
use Rattle.std.specs.List.{flat_map, All}
use Rattle.std.proofs.Math.Nat.{div-add-mod}
use Rattle.std.proofs.lemmas.Nat.{mod-mul-add}
use Rattle.std.proofs.lemmas.Bool.{and_parts, and_from, or_right, eq-eqb, eqb-true, false_from_ne_true, both_ways}
use Rattle.implicit_tiling.specs.Tile.{Tile, IsTile, branching, parent, index, tile_at, tiles_of_level}
use Rattle.implicit_tiling.specs.Region.{Region, is_in}
use Rattle.implicit_tiling.specs.Scene.{Layout, Outcome, Scene, bad, child_bit_of}
use Rattle.implicit_tiling.specs.Availability.{local_level, subtree_root, is_subtree_root, child_bit, is_available, is_reached}
use Rattle.implicit_tiling.specs.Answer.{is_on_walk}
use Rattle.implicit_tiling.specs.Subtree.{Subtree, has_tile, has_child}
use Rattle.implicit_tiling.specs.Bits.{bit_at}
use Rattle.implicit_tiling.specs.Nodes.{node_at, indices, is_child_in, children_in}
use Rattle.implicit_tiling.specs.Steps.{descendants, root_level, walk_roots}
use Rattle.tiling_laws.proofs.TileAt.{rest_below, tile_at_is_tile, tile_at_level}
use Rattle.tiling_laws.proofs.Subtrees.{child_low}
use Rattle.tiling_laws.proofs.Available.{reached_from, reached_says, available_reached}
use Rattle.walk_laws.specs.Decoded.{IsDecoded}
use Rattle.walk_laws.specs.Children.{roots_below}
use Rattle.tiling_laws.proofs.Walk.{filter_same}
use Rattle.walk_laws.proofs.Lists.{filter_none, filter-map, filter-flat_map, flat_map_kept, of_range}
use Rattle.walk_laws.proofs.Runs.{below, below_index, below_level, below_ancestor, of_descendants, of_level, levels_split}
use Rattle.walk_laws.proofs.Segments.{on_walk_from, below_root}
use Rattle.walk_laws.proofs.Plain.{plain, plain_is, IsPlain, below_parent, same_test, available_is_bit}
use Rattle.walk_laws.proofs.Decoded.{is_plain, descendants_are}

-- what is known of a root whose subtree has levels
pub record IsStart (layout : Layout) (r : Tile) : Type 0 where
  pub tile : IsTile layout.scheme r
  pub start : r.level % layout.subtree_levels ≡ 0
  pub some : 1 ≤ layout.subtree_levels

-- a tile of the level where the subtrees below r begin
abbrev pub next : Layout → Tile → ℕ → Tile
next layout r m = below layout.scheme layout.subtree_levels r m

pub next_level : (n levels : ℕ) → 1 ≤ levels → n % levels ≡ 0 → (n + levels) % levels ≡ 0
next_level n levels some start =
    let whole : n + levels ≡ (n / levels + 1) * levels + 0 = omega (arith, div-add-mod n levels) in
    ap (λ w. w % levels) whole ∙ mod-mul-add (n / levels + 1) levels 0 some

pub next_is_root : (layout : Layout) (r : Tile) (m : ℕ) → IsStart layout r → is_subtree_root layout (next layout r m) ≡ true
next_is_root layout r m is =
    eq-eqb (local_level layout (next layout r m)) 0
    (ap (λ l. l % layout.subtree_levels) (below_level layout.scheme layout.subtree_levels r m) ∙ next_level r.level layout.subtree_levels is.some is.start)

pub next_parent : (layout : Layout) (r : Tile) (m : ℕ) → IsStart layout r
    → parent (next layout r m) ≡ below layout.scheme (layout.subtree_levels - 1) r (m / branching layout.scheme)
next_parent layout r m is =
    let up : layout.subtree_levels ≡ suc (layout.subtree_levels - 1) = omega (arith, is.some) in
    ap (λ e. parent (below layout.scheme e r m)) up ∙ below_parent layout.scheme (layout.subtree_levels - 1) r m

pub next_fits : (layout : Layout) (r : Tile) (m : ℕ) → IsStart layout r → m < branching layout.scheme ^ layout.subtree_levels
    → m / branching layout.scheme < branching layout.scheme ^ (layout.subtree_levels - 1)
next_fits layout r m is h =
    let up : layout.subtree_levels ≡ suc (layout.subtree_levels - 1) = omega (arith, is.some) in
    let P : ℕ → Type 0 = λ e. m < branching layout.scheme ^ e in
    rest_below layout.scheme (layout.subtree_levels - 1) m (subst P up h)

-- its parent is in the subtree of r
pub next_above : (layout : Layout) (r : Tile) (m : ℕ) → IsStart layout r → m < branching layout.scheme ^ layout.subtree_levels
    → subtree_root layout (parent (next layout r m)) ≡ r
next_above layout r m is h =
    ap (subtree_root layout) (next_parent layout r m is)
    ∙ below_root layout (layout.subtree_levels - 1) r (m / branching layout.scheme) is.tile is.start (omega (arith, is.some)) (next_fits layout r m is h)

pub next_says : (s : Scene) (r : Tile) (m : ℕ) → IsStart s.layout r → is_reached s (next s.layout r m) ≡ true
    → (is_available s (parent (next s.layout r m)) ≡ true) × (child_bit s (next s.layout r m) ≡ true)
next_says s r m is h = reached_says s (next s.layout r m) (omega (arith, is.some, below_level s.layout.scheme s.layout.subtree_levels r m)) h

-- where it is on the walk, so is r
pub next_walk : (s : Scene) (region : Region) (r : Tile) (m : ℕ) → IsStart s.layout r → m < branching s.layout.scheme ^ s.layout.subtree_levels
    → is_on_walk s region (next s.layout r m) ≡ true → is_on_walk s region r ≡ true
next_walk s region r m is h on =
    let t = next s.layout r m in
    let parts = and_parts (is_reached s t) (is_in region t) on in
    let there = (next_says s r m is parts.0).0 in
    on_walk_from s region s.layout.subtree_levels t r (omega (arith, below_level s.layout.scheme s.layout.subtree_levels r m))
    (below_ancestor s.layout.scheme s.layout.subtree_levels r m is.tile h)
    (sym (ap (is_reached s) (next_above s.layout r m is h)) ∙ available_reached s (parent t).level (parent t) refl there) parts.1

-- and the file of r has no fault
fault_says : (s : Scene) (r : Tile) (m n : ℕ) → IsStart s.layout r → m < branching s.layout.scheme ^ s.layout.subtree_levels → s.outcome r ≡ bad n
    → is_reached s (next s.layout r m) ≡ true → true ≡ false
fault_says s r m n is h fault reached =
    let t = next s.layout r m in
    let i = index s.layout.scheme t % branching s.layout.scheme ^ s.layout.subtree_levels in
    let bit = (and_parts (nat_lt t.level s.layout.levels) (child_bit_of (s.outcome (subtree_root s.layout (parent t))) i) (next_says s r m is reached).1).1 in
    sym bit ∙ ap (λ (o : Tile). child_bit_of (s.outcome o) i) (next_above s.layout r m is h) ∙ ap (λ (o : Outcome). child_bit_of o i) fault

pub start_of : (layout : Layout) (r : Tile) → 1 ≤ layout.subtree_levels → IsTile layout.scheme r → is_subtree_root layout r ≡ true → IsStart layout r
start_of layout r some tile is = record { tile = tile; start = eqb-true (local_level layout r) 0 is; some = some }

pub no_root_below_a_fault : (s : Scene) (region : Region) (r : Tile) (n : ℕ) → 1 ≤ s.layout.subtree_levels → IsTile s.layout.scheme r
    → is_subtree_root s.layout r ≡ true → s.outcome r ≡ bad n → roots_below s region r ≡ []
no_root_below_a_fault s region r n some tile root fault =
    let is = start_of s.layout r some tile root in
    filter_none (is_on_walk s region) (descendants s.layout.scheme s.layout.subtree_levels r)
    (of_descendants (λ t. is_on_walk s region t ≡ false) s.layout.scheme s.layout.subtree_levels r
    (λ m h. let t = next s.layout r m in
    false_from_ne_true (is_on_walk s region t)
    (λ on. both_ways true (fault_says s r m n is h fault (and_parts (is_reached s t) (is_in region t) on).0) refl)))

-- the roots of a level from those one subtree above
pub roots_go_down : (s : Scene) (region : Region) (l : ℕ) → 1 ≤ s.layout.subtree_levels → l % s.layout.subtree_levels ≡ 0
    → walk_roots s region (l + s.layout.subtree_levels) ≡ flat_map (roots_below s region) (walk_roots s region l)
roots_go_down s region l some start =
    let scheme = s.layout.scheme in
    let on = is_on_walk s region in
    let above : root_level s.layout l ≡ l = omega (arith, start) in
    let here : root_level s.layout (l + s.layout.subtree_levels) ≡ l + s.layout.subtree_levels = omega (arith, next_level l s.layout.subtree_levels some start) in
    let start_at : (i : ℕ) → IsStart s.layout (tile_at scheme l i) =
    λ i. record { tile = tile_at_is_tile scheme l i; start = ap (λ w. w % s.layout.subtree_levels) (tile_at_level scheme l i) ∙ start; some = some } in
    let none : All (λ r. on r ≡ false → roots_below s region r ≡ []) (tiles_of_level scheme l) =
    of_level (λ r. on r ≡ false → roots_below s region r ≡ []) scheme l
    (λ i low off. let r = tile_at scheme l i in
    filter_none on (descendants scheme s.layout.subtree_levels r) (of_descendants (λ t. on t ≡ false) scheme s.layout.subtree_levels r
    (λ m h. false_from_ne_true (on (next s.layout r m)) (λ is. both_ways (on r) off (next_walk s region r m (start_at i) h is))))) in
    ap (λ e. filter on (tiles_of_level scheme e)) here
    ∙ ap (filter on) (levels_split scheme l s.layout.subtree_levels)
    ∙ filter-flat_map on (descendants scheme s.layout.subtree_levels) (tiles_of_level scheme l)
    ∙ flat_map_kept (roots_below s region) on (tiles_of_level scheme l) none
    ∙ ap (λ e. flat_map (roots_below s region) (filter on (tiles_of_level scheme e))) (sym above)

-- the child bit of a decoded subtree, and the children that are on the walk
plain_start : (s : Scene) (st : Subtree) → IsPlain s st → IsStart s.layout st.root
plain_start s st is = record { tile = is.tile; start = is.start; some = is.some_levels }

next_bit : (s : Scene) (st : Subtree) (m : ℕ) → IsPlain s st → m < branching s.layout.scheme ^ s.layout.subtree_levels
    → child_bit s (next s.layout st.root m) ≡ has_child (plain s.layout st) m
next_bit s st m is h =
    let t = next s.layout st.root m in
    let n = branching s.layout.scheme ^ s.layout.subtree_levels in
    let low = nat_lt (st.root.level + s.layout.subtree_levels) s.layout.levels in
    let number : index s.layout.scheme t % n ≡ m =
    ap (λ i. i % n) (below_index s.layout.scheme s.layout.subtree_levels st.root m h) ∙ mod-mul-add (index s.layout.scheme st.root) n m h in
    ap (λ l. nat_lt l s.layout.levels && child_bit_of (s.outcome (subtree_root s.layout (parent t))) (index s.layout.scheme t % n))
    (below_level s.layout.scheme s.layout.subtree_levels st.root m)
    ∙ ap (λ r. low && child_bit_of (s.outcome r) (index s.layout.scheme t % n)) (next_above s.layout st.root m (plain_start s st is) h)
    ∙ ap (λ (o : Outcome). low && child_bit_of o (index s.layout.scheme t % n)) is.same_bits
    ∙ ap (λ i. low && bit_at st.child i) number

next_there : (s : Scene) (st : Subtree) (m : ℕ) → IsPlain s st → m < branching s.layout.scheme ^ s.layout.subtree_levels
    → is_available s (parent (next s.layout st.root m)) ≡ has_tile (plain s.layout st) (s.layout.subtree_levels - 1) (m / branching s.layout.scheme)
next_there s st m is h =
    ap (is_available s) (next_parent s.layout st.root m (plain_start s st is))
    ∙ available_is_bit s st (s.layout.subtree_levels - 1) (m / branching s.layout.scheme) is (omega (arith, is.some_levels)) (next_fits s.layout st.root m (plain_start s st is) h)

child_from_walk : (s : Scene) (region : Region) (st : Subtree) (m : ℕ) → IsPlain s st → m < branching s.layout.scheme ^ s.layout.subtree_levels
    → is_on_walk s region (next s.layout st.root m) ≡ true → is_child_in (plain s.layout st) region m ≡ true
child_from_walk s region st m is h on =
    let t = next s.layout st.root m in
    let u = plain s.layout st in
    let parts = and_parts (is_reached s t) (is_in region t) on in
    let says = next_says s st.root m (plain_start s st is) parts.0 in
    let above = has_tile u (s.layout.subtree_levels - 1) (m / branching s.layout.scheme) in
    and_from (has_child u m && above) (is_in region t)
    (and_from (has_child u m) above (sym (next_bit s st m is h) ∙ says.1) (sym (next_there s st m is h) ∙ says.0)) parts.1

walk_from_child : (s : Scene) (region : Region) (st : Subtree) (m : ℕ) → IsPlain s st → m < branching s.layout.scheme ^ s.layout.subtree_levels
    → is_child_in (plain s.layout st) region m ≡ true → is_on_walk s region (next s.layout st.root m) ≡ true
walk_from_child s region st m is h there =
    let t = next s.layout st.root m in
    let u = plain s.layout st in
    let above = has_tile u (s.layout.subtree_levels - 1) (m / branching s.layout.scheme) in
    let parts = and_parts (has_child u m && above) (is_in region t) there in
    let bits = and_parts (has_child u m) above parts.0 in
    let named = next_bit s st m is h ∙ bits.0 in
    and_from (is_reached s t) (is_in region t)
    (reached_from s t (next_is_root s.layout st.root m (plain_start s st is)) (child_low s t named)
    (or_right (t.level == 0) (is_available s (parent t) && child_bit s t)
    (and_from (is_available s (parent t)) (child_bit s t) (next_there s st m is h ∙ bits.1) named))) parts.1

plain_children : (s : Scene) (region : Region) (st : Subtree) → IsPlain s st
    → roots_below s region st.root ≡ map (node_at (plain s.layout st) s.layout.subtree_levels) (children_in (plain s.layout st) region)
plain_children s region st is =
    let u = plain s.layout st in
    let on = is_on_walk s region in
    let node = node_at u s.layout.subtree_levels in
    let same : All (λ m. on (node m) ≡ is_child_in u region m) (indices u s.layout.subtree_levels) =
    of_range (λ m. on (node m) ≡ is_child_in u region m) 0 (branching s.layout.scheme ^ s.layout.subtree_levels)
    (λ m from to. let h : m < branching s.layout.scheme ^ s.layout.subtree_levels = omega arith in
    same_test (on (node m)) (is_child_in u region m) (child_from_walk s region st m is h) (walk_from_child s region st m is h)) in
    ap (filter on) (descendants_are s.layout.scheme s.layout.subtree_levels st.root)
    ∙ filter-map on node (indices u s.layout.subtree_levels)
    ∙ ap (map node) (filter_same (λ m. on (node m)) (is_child_in u region) (indices u s.layout.subtree_levels) same)

pub children_are_the_roots_below : (s : Scene) (region : Region) (st : Subtree) → IsDecoded s st
    → roots_below s region st.root ≡ map (node_at st st.levels) (children_in st region)
children_are_the_roots_below s region st is =
    let P : Subtree → Type 0 = λ u. roots_below s region u.root ≡ map (node_at u u.levels) (children_in u region) in
    subst P (plain_is s.layout st is.of_layout) (plain_children s region st (is_plain s st is))
