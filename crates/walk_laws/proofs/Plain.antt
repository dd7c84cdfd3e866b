-- The nodes of a subtree whose scheme and levels are spelled as the layout's: each node's bit is its tile's bit.
use Rattle.std.proofs.Common.{◌≡◌, ℕ, zero, suc, ◌+◌, ◌-◌, ◌*◌, ◌/◌, ◌%◌, ◌^◌, ◌<◌, ◌≤◌, Bool, true, false, cond, List, [], ◌∷◌, length, map, refl, sym, ap, subst, ◌∙◌, arith, inl, inr, ◌⊎◌}
use Rattle.std.specs.Prelude.{◌&&◌, nat_lt, not}
use Rattle.std.specs.List.{range_with_len, list_any}
use Rattle.std.proofs.Math.Nat.{pow-suc, mul_assoc}
use Rattle.std.proofs.lemmas.Nat.{mod-mul-add}
use Rattle.std.proofs.lemmas.Bool.{and_parts, or_parts, cases_eq, false≢true}
use Rattle.implicit_tiling.specs.declared.Scheme.{Scheme}
use Rattle.implicit_tiling.specs.declared.Scheme.TheVariants.{Quad, Oct}
use Rattle.implicit_tiling.specs.Tile.{Tile, IsTile, branching, parent, child, index, tile_at}
use Rattle.implicit_tiling.specs.Scene.{Layout, Outcome, Scene, good, tile_bit_of, fault_of, content_bits_of}
use Rattle.implicit_tiling.specs.Availability.{subtree_root, nodes_above, place, tile_bit, is_available, is_reached, mask_from, mask}
use Rattle.implicit_tiling.specs.Subtree.{Subtree, IsOf, is_kept, node_bit, has_tile, has_orphan, mask_of_bits, contents_mask, bits_of}
use Rattle.implicit_tiling.specs.Bits.{bit_at}
use Rattle.tiling_laws.proofs.Subtrees.{ancestor_none}
use Rattle.tiling_laws.proofs.TileAt.{rest_below}
use Rattle.tiling_laws.proofs.Ancestors.{parent_of_child}
use Rattle.tiling_laws.proofs.Available.{reached_says, available_as_written}
use Rattle.walk_laws.proofs.Runs.{below, below_index, below_level, below_ancestor}
use Rattle.walk_laws.proofs.Segments.{below_local, below_root}

-- a subtree with the layout's own scheme and levels
abbrev pub plain : Layout → Subtree → Subtree
plain layout st = record st { scheme = layout.scheme; levels = layout.subtree_levels; cut = layout.levels }

pub plain_is : (layout : Layout) (st : Subtree) → IsOf layout st → plain layout st ≡ st
plain_is layout st of =
    ap (λ (e : Scheme). record st { scheme = e; levels = layout.subtree_levels; cut = layout.levels }) (sym of.same_scheme)
    ∙ ap (λ (n : ℕ). record st { levels = n; cut = layout.levels }) (sym of.same_levels)
    ∙ ap (λ (n : ℕ). record st { cut = n }) (sym of.same_cut)

-- what is known of it
pub record IsPlain (s : Scene) (st : Subtree) : Type 0 where
  pub tile : IsTile s.layout.scheme st.root
  pub start : st.root.level % s.layout.subtree_levels ≡ 0
  pub some_levels : 1 ≤ s.layout.subtree_levels
  pub named : length st.contents ≤ length s.layout.contents
  pub no_orphan : has_orphan (plain s.layout st) ≡ false
  pub same_bits : s.outcome st.root ≡ good (bits_of st)
  pub reached : is_reached s st.root ≡ true

-- the place of a node
pub below_place : (layout : Layout) (k : ℕ) (r : Tile) (m : ℕ) → r.level % layout.subtree_levels ≡ 0 → k < layout.subtree_levels → m < branching layout.scheme ^ k
    → place layout (below layout.scheme k r m) ≡ nodes_above layout.scheme k + m
below_place layout k r m start low h =
    let t = below layout.scheme k r m in
    ap (λ l. nodes_above layout.scheme l + index layout.scheme t % branching layout.scheme ^ l) (below_local layout k r m start low)
    ∙ ap (λ i. nodes_above layout.scheme k + i % branching layout.scheme ^ k) (below_index layout.scheme k r m h)
    ∙ ap (λ i. nodes_above layout.scheme k + i) (mod-mul-add (index layout.scheme r) (branching layout.scheme ^ k) m h)

-- its parent
parent_number : (scheme : Scheme) (i k m : ℕ) → (i * branching scheme ^ suc k + m) / branching scheme ≡ i * branching scheme ^ k + m / branching scheme
parent_number Quad i k m =
    let e : i * 4 ^ suc k ≡ i * 4 ^ k * 4 = ap (λ w. i * w) (pow-suc 4 k) ∙ sym (mul_assoc i (4 ^ k) 4) in
    omega (arith, e)
parent_number Oct i k m =
    let e : i * 8 ^ suc k ≡ i * 8 ^ k * 8 = ap (λ w. i * w) (pow-suc 8 k) ∙ sym (mul_assoc i (8 ^ k) 8) in
    omega (arith, e)

pub below_parent : (scheme : Scheme) (k : ℕ) (r : Tile) (m : ℕ) → parent (below scheme (suc k) r m) ≡ below scheme k r (m / branching scheme)
below_parent scheme k r m =
    let i = index scheme r * branching scheme ^ suc k + m in
    let level : r.level + suc k ≡ suc (r.level + k) = omega arith in
    ap (λ l. parent (tile_at scheme l i)) level
    ∙ parent_of_child (tile_at scheme (r.level + k) (i / branching scheme)) (i % branching scheme)
    ∙ ap (λ n. tile_at scheme (r.level + k) n) (parent_number scheme (index scheme r) k m)

-- its bit
pub below_bit : (s : Scene) (st : Subtree) (k m : ℕ) → IsPlain s st → k < s.layout.subtree_levels → m < branching s.layout.scheme ^ k
    → tile_bit s (below s.layout.scheme k st.root m) ≡ has_tile (plain s.layout st) k m
below_bit s st k m is low h =
    let t = below s.layout.scheme k st.root m in
    ap (λ l. nat_lt l s.layout.levels && tile_bit_of (s.outcome (subtree_root s.layout t)) (place s.layout t)) (below_level s.layout.scheme k st.root m)
    ∙ ap (λ r. nat_lt (st.root.level + k) s.layout.levels && tile_bit_of (s.outcome r) (place s.layout t)) (below_root s.layout k st.root m is.tile is.start low h)
    ∙ ap (λ (o : Outcome). nat_lt (st.root.level + k) s.layout.levels && tile_bit_of o (place s.layout t)) is.same_bits
    ∙ ap (λ i. nat_lt (st.root.level + k) s.layout.levels && bit_at st.tiles i) (below_place s.layout k st.root m is.start low h)

-- no node is an orphan
pub none_of_range : (p : ℕ → Bool) (a n : ℕ) → list_any p (range_with_len a n) ≡ false → (i : ℕ) → a ≤ i → i < a + n → p i ≡ false
none_of_range p a zero none i low high = absurd (omega arith)
none_of_range p a (suc n) none i low high =
    let parts = or_parts (p a) (list_any p (range_with_len (a + 1) n)) none in
    elim (cases_eq a i) [
      | inl here ↦ sym (ap p here) ∙ parts.0
      | inr later ↦ none_of_range p (a + 1) n parts.1 i (omega arith) (omega arith)
    ]

parent_bit : (child above : Bool) → (child && not above) ≡ false → child ≡ true → above ≡ true
parent_bit child true none h = refl
parent_bit true false none h = absurd (false≢true (sym none))
parent_bit false false none h = absurd (false≢true h)

pub parent_is_there : (s : Scene) (st : Subtree) (k m : ℕ) → IsPlain s st → suc k < s.layout.subtree_levels → m < branching s.layout.scheme ^ suc k
    → has_tile (plain s.layout st) (suc k) m ≡ true → has_tile (plain s.layout st) k (m / branching s.layout.scheme) ≡ true
parent_is_there s st k m is low h there =
    let u = plain s.layout st in
    let orphan : ℕ → ℕ → Bool = λ l n. has_tile u l n && not (has_tile u (l - 1) (n / branching s.layout.scheme)) in
    let level = none_of_range (λ l. list_any (orphan l) (range_with_len 0 (branching s.layout.scheme ^ l))) 1 (s.layout.subtree_levels - 1) is.no_orphan (suc k) (omega arith) (omega arith) in
    let node = none_of_range (orphan (suc k)) 0 (branching s.layout.scheme ^ suc k) level m (omega arith) (omega arith) in
    let up : suc k - 1 ≡ k = omega arith in
    parent_bit (has_tile u (suc k) m) (has_tile u k (m / branching s.layout.scheme))
    (ap (λ l. has_tile u (suc k) m && not (has_tile u l (m / branching s.layout.scheme))) (sym up) ∙ node) there

-- the parent of the root, where there is one
above_root : (s : Scene) (r : Tile) → is_reached s r ≡ true → (r.level ≡ 0) ⊎ (is_available s (parent r) ≡ true)
above_root s r reached =
    elim (cases_eq r.level 0) [ inl top ↦ inl top | inr below ↦ inr (reached_says s r (omega arith) reached).0 ]

above_first : (s : Scene) (st : Subtree) (m : ℕ) → IsPlain s st → m < branching s.layout.scheme ^ 0
    → ((below s.layout.scheme 0 st.root m).level ≡ 0) ⊎ (is_available s (parent (below s.layout.scheme 0 st.root m)) ≡ true)
above_first s st m is h =
    let same : st.root ≡ below s.layout.scheme 0 st.root m =
    sym (below_ancestor s.layout.scheme 0 st.root m is.tile h) ∙ ancestor_none (below s.layout.scheme 0 st.root m) in
    subst (λ (t : Tile). (t.level ≡ 0) ⊎ (is_available s (parent t) ≡ true)) same (above_root s st.root is.reached)

there_from : (s : Scene) (st : Subtree) (k m : ℕ) → IsPlain s st → k < s.layout.subtree_levels → m < branching s.layout.scheme ^ k
    → has_tile (plain s.layout st) k m ≡ true
    → ((below s.layout.scheme k st.root m).level ≡ 0) ⊎ (is_available s (parent (below s.layout.scheme k st.root m)) ≡ true)
    → is_available s (below s.layout.scheme k st.root m) ≡ true
there_from s st k m is low h there above =
    let t = below s.layout.scheme k st.root m in
    let own = below_root s.layout k st.root m is.tile is.start low h in
    (available_as_written s t).1 (record {
      reached = ap (is_reached s) own ∙ is.reached;
      no_fault = ap (λ r. fault_of (s.outcome r)) own ∙ ap fault_of is.same_bits;
      bit = below_bit s st k m is low h ∙ there;
      above = above;
    })

pub available_from_bit : (s : Scene) (st : Subtree) (k m : ℕ) → IsPlain s st → k < s.layout.subtree_levels → m < branching s.layout.scheme ^ k
    → has_tile (plain s.layout st) k m ≡ true → is_available s (below s.layout.scheme k st.root m) ≡ true
available_from_bit s st zero m is low h there = there_from s st 0 m is low h there (above_first s st m is h)
available_from_bit s st (suc k) m is low h there =
    let up = available_from_bit s st k (m / branching s.layout.scheme) is (omega arith) (rest_below s.layout.scheme k m h) (parent_is_there s st k m is low h there) in
    there_from s st (suc k) m is low h there (inr (ap (is_available s) (below_parent s.layout.scheme k st.root m) ∙ up))

-- tests of one truth
pub same_test : (a b : Bool) → (a ≡ true → b ≡ true) → (b ≡ true → a ≡ true) → a ≡ b
same_test true b there back = sym (there refl)
same_test false true there back = back refl
same_test false false there back = refl

pub available_is_bit : (s : Scene) (st : Subtree) (k m : ℕ) → IsPlain s st → k < s.layout.subtree_levels → m < branching s.layout.scheme ^ k
    → is_available s (below s.layout.scheme k st.root m) ≡ has_tile (plain s.layout st) k m
available_is_bit s st k m is low h =
    let t = below s.layout.scheme k st.root m in
    same_test (is_available s t) (has_tile (plain s.layout st) k m)
    (λ there. sym (below_bit s st k m is low h) ∙ ((available_as_written s t).0 there).bit)
    (available_from_bit s st k m is low h)

-- its contents
masks_same : (s : Scene) (t : Tile) (u : Subtree) (k m : ℕ) → place s.layout t ≡ nodes_above u.scheme k + m → is_kept u k ≡ true
    → (c : ℕ) (templates : List (List ℕ)) (contents : List (List Bool)) → length contents ≤ length templates
    → mask_from s t c templates (map bit_at contents) ≡ mask_of_bits c (map (λ bits. node_bit u bits k m) contents)
masks_same s t u k m at kept c [] [] few = refl
masks_same s t u k m at kept c [] (bits ∷ contents) few = absurd (omega arith)
masks_same s t u k m at kept c (template ∷ templates) [] few = refl
masks_same s t u k m at kept c (template ∷ templates) (bits ∷ contents) few =
    let rest = masks_same s t u k m at kept (c + 1) templates contents (omega arith) in
    ap (λ i. cond (bit_at bits i) (2 ^ c) 0 + mask_from s t (c + 1) templates (map bit_at contents)) at
    ∙ ap (λ b. cond (b && bit_at bits (nodes_above u.scheme k + m)) (2 ^ c) 0 + mask_from s t (c + 1) templates (map bit_at contents)) (sym kept)
    ∙ ap (λ w. cond (node_bit u bits k m) (2 ^ c) 0 + w) rest

pub mask_is : (s : Scene) (st : Subtree) (k m : ℕ) → IsPlain s st → k < s.layout.subtree_levels → m < branching s.layout.scheme ^ k
    → has_tile (plain s.layout st) k m ≡ true → mask s (below s.layout.scheme k st.root m) ≡ contents_mask (plain s.layout st) k m
mask_is s st k m is low h there =
    let t = below s.layout.scheme k st.root m in
    let u = plain s.layout st in
    let kept = (and_parts (is_kept u k) (bit_at st.tiles (nodes_above s.layout.scheme k + m)) there).0 in
    ap (λ r. mask_from s t 0 s.layout.contents (content_bits_of (s.outcome r))) (below_root s.layout k st.root m is.tile is.start low h)
    ∙ ap (λ (o : Outcome). mask_from s t 0 s.layout.contents (content_bits_of o)) is.same_bits
    ∙ masks_same s t u k m (below_place s.layout k st.root m is.start low h) kept 0 s.layout.contents st.contents is.named
