-- The places of tiles among the bits of their subtree.
use Rattle.std.proofs.Common.{◌≡◌, ℕ, ◌+◌, ◌-◌, ◌*◌, ◌/◌, ◌%◌, ◌^◌, ◌<◌, ◌≤◌, sym, ap, ◌∙◌, arith, add-one, lit<, inl, inr, ◌⊎◌}
use Rattle.std.proofs.Math.Nat.{pow-suc, pow-le-pow_right, div-add-mod}
use Rattle.std.proofs.lemmas.Nat.{mod_below, mod-mul-add}
use Rattle.std.proofs.lemmas.Bool.{cases_order}
use Rattle.implicit_tiling.specs.declared.Scheme.{Scheme}
use Rattle.implicit_tiling.specs.declared.Scheme.TheVariants.{Quad, Oct}
use Rattle.implicit_tiling.specs.Tile.{Tile, IsTile, branching, child, index}
use Rattle.implicit_tiling.specs.Scene.{Layout}
use Rattle.implicit_tiling.specs.Availability.{local_level, subtree_root, nodes_above, place}
use Rattle.tiling_laws.proofs.Index.{child_index}
use Rattle.tiling_laws.proofs.TileAt.{tile_from_index}
use Rattle.tiling_laws.proofs.Ancestors.{ancestor_index, branching_pow_pos}
use Rattle.tiling_laws.proofs.Nodes.{nodes_times_rest, level_more}

-- more levels have more nodes
pub nodes_grow : (scheme : Scheme) (l m : ℕ) → l ≤ m → nodes_above scheme l ≤ nodes_above scheme m
nodes_grow Quad l m le =
    let powers : 4 ^ l ≤ 4 ^ m = pow-le-pow_right (lit< tt) le in
    omega (arith, powers, nodes_times_rest Quad l, nodes_times_rest Quad m)
nodes_grow Oct l m le =
    let powers : 8 ^ l ≤ 8 ^ m = pow-le-pow_right (lit< tt) le in
    omega (arith, powers, nodes_times_rest Oct l, nodes_times_rest Oct m)

-- the nodes of a subtree are its root and N times those of one level less
pub nodes_more : (scheme : Scheme) (l : ℕ) → nodes_above scheme (l + 1) ≡ branching scheme * nodes_above scheme l + 1
nodes_more Quad l = omega (arith, level_more Quad l, nodes_times_rest Quad l)
nodes_more Oct l = omega (arith, level_more Oct l, nodes_times_rest Oct l)

-- the index within a level of the subtree
pub within_level : (scheme : Scheme) (l i : ℕ) → i % branching scheme ^ l < branching scheme ^ l
within_level scheme l i = mod_below i (branching scheme ^ l) (branching_pow_pos scheme l)

place_in_level : (layout : Layout) (t : Tile) → place layout t < nodes_above layout.scheme (local_level layout t + 1)
place_in_level layout t = omega (arith, within_level layout.scheme (local_level layout t) (index layout.scheme t), level_more layout.scheme (local_level layout t))

pub place_below : (layout : Layout) (t : Tile) → 1 ≤ layout.subtree_levels → place layout t < nodes_above layout.scheme layout.subtree_levels
place_below layout t some =
    let local : local_level layout t < layout.subtree_levels = mod_below t.level layout.subtree_levels some in
    let more = nodes_grow layout.scheme (local_level layout t + 1) layout.subtree_levels (omega arith) in
    omega (arith, place_in_level layout t, more)

-- the rest of an index, one place more
rest_more : (scheme : Scheme) (i n m : ℕ) → n < branching scheme → 0 < m → (branching scheme * i + n) % (m * branching scheme) ≡ branching scheme * (i % m) + n
rest_more Quad i n m h pos =
    let parts = div-add-mod i m in
    let low = mod_below i m pos in
    let whole : 4 * i + n ≡ i / m * (m * 4) + (4 * (i % m) + n) = omega (arith, parts) in
    ap (λ w. w % (m * 4)) whole ∙ mod-mul-add (i / m) (m * 4) (4 * (i % m) + n) (omega arith)
rest_more Oct i n m h pos =
    let parts = div-add-mod i m in
    let low = mod_below i m pos in
    let whole : 8 * i + n ≡ i / m * (m * 8) + (8 * (i % m) + n) = omega (arith, parts) in
    ap (λ w. w % (m * 8)) whole ∙ mod-mul-add (i / m) (m * 8) (8 * (i % m) + n) (omega arith)

-- the index of a child within k + 1 levels below a tile, from that of its parent within k
pub child_within : (scheme : Scheme) (k : ℕ) (t : Tile) (n : ℕ) → n < branching scheme
    → index scheme (child t n) % branching scheme ^ (k + 1) ≡ branching scheme * (index scheme t % branching scheme ^ k) + n
child_within scheme k t n h =
    ap (λ e. index scheme (child t n) % branching scheme ^ e) (add-one k)
    ∙ ap (λ p. index scheme (child t n) % p) (pow-suc (branching scheme) k)
    ∙ ap (λ i. i % (branching scheme ^ k * branching scheme)) (child_index scheme t n h)
    ∙ rest_more scheme (index scheme t) n (branching scheme ^ k) h (branching_pow_pos scheme k)

local_child : (layout : Layout) (t : Tile) (n : ℕ) → local_level layout t + 1 < layout.subtree_levels → local_level layout (child t n) ≡ local_level layout t + 1
local_child layout t n below =
    let parts = div-add-mod t.level layout.subtree_levels in
    let whole : t.level + 1 ≡ t.level / layout.subtree_levels * layout.subtree_levels + (local_level layout t + 1) = omega (arith, parts) in
    ap (λ w. w % layout.subtree_levels) whole ∙ mod-mul-add (t.level / layout.subtree_levels) layout.subtree_levels (local_level layout t + 1) below

pub child_place : (layout : Layout) (t : Tile) (n : ℕ) → n < branching layout.scheme → local_level layout t + 1 < layout.subtree_levels
    → place layout (child t n) ≡ branching layout.scheme * place layout t + 1 + n
child_place layout t n h below =
    let l = local_level layout t in
    let own : place layout (child t n) ≡ nodes_above layout.scheme (l + 1) + index layout.scheme (child t n) % branching layout.scheme ^ (l + 1) =
    ap (λ k. nodes_above layout.scheme k + index layout.scheme (child t n) % branching layout.scheme ^ k) (local_child layout t n below) in
    omega (arith, own, nodes_more layout.scheme l, child_within layout.scheme l t n h)

-- a place tells the local level
one_level : (scheme : Scheme) (k l a b : ℕ) → a < branching scheme ^ k → b < branching scheme ^ l → nodes_above scheme k + a ≡ nodes_above scheme l + b
    → (k ≡ l) ⊎ ((k < l) ⊎ (l < k)) → k ≡ l
one_level scheme k l a b ha hb same (inl is) = is
one_level scheme k l a b ha hb same (inr (inl low)) = absurd (omega (arith, level_more scheme k, nodes_grow scheme (k + 1) l (omega arith)))
one_level scheme k l a b ha hb same (inr (inr high)) = absurd (omega (arith, level_more scheme l, nodes_grow scheme (l + 1) k (omega arith)))

pub local_low : (layout : Layout) (t : Tile) → local_level layout t ≤ t.level
local_low layout t = omega (arith, div-add-mod t.level layout.subtree_levels)

pub tile_from_place : (layout : Layout) (t u : Tile) → IsTile layout.scheme t → IsTile layout.scheme u → subtree_root layout t ≡ subtree_root layout u
    → place layout t ≡ place layout u → t ≡ u
tile_from_place layout t u one other root same =
    let scheme = layout.scheme in
    let k = local_level layout t in
    let l = local_level layout u in
    let i = index scheme t in
    let j = index scheme u in
    let local : k ≡ l = one_level scheme k l (i % branching scheme ^ k) (j % branching scheme ^ l) (within_level scheme k i) (within_level scheme l j) same (cases_order k l) in
    let at_k : nodes_above scheme k + i % branching scheme ^ k ≡ nodes_above scheme k + j % branching scheme ^ k =
    same ∙ ap (λ e. nodes_above scheme e + j % branching scheme ^ e) (sym local) in
    let roots : i / branching scheme ^ k ≡ j / branching scheme ^ k =
    sym (ancestor_index scheme k t (local_low layout t)) ∙ ap (index scheme) root ∙ ancestor_index scheme l u (local_low layout u) ∙ ap (λ e. j / branching scheme ^ e) (sym local) in
    let index_same : i ≡ j =
    sym (div-add-mod i (branching scheme ^ k)) ∙ ap (λ w. branching scheme ^ k * w + i % branching scheme ^ k) roots
    ∙ ap (λ w. branching scheme ^ k * (j / branching scheme ^ k) + w) (omega (arith, at_k)) ∙ div-add-mod j (branching scheme ^ k) in
    let level_left : t.level - k ≡ u.level - l = ap (λ (r : Tile). r.level) root in
    tile_from_index scheme t u one other (omega (arith, level_left, local, local_low layout t, local_low layout u)) index_same
