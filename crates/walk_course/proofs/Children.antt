-- A subtree has at most N child roots in a region for each of its tiles in its last local level there.
use Rattle.std.proofs.Common.{◌≡◌, ℕ, suc, ◌+◌, ◌-◌, ◌*◌, ◌/◌, ◌^◌, ◌<◌, ◌≤◌, Bool, true, false, cond, List, [], ◌∷◌, length, refl, sym, ap, subst, ◌∙◌, arith, length-append}
use Rattle.std.specs.Prelude.{◌&&◌, filter, not}
use Rattle.std.specs.List.{flat_map, range_with_len}
use Rattle.std.proofs.Math.Nat.{pow-succ', mul_comm}
use Rattle.std.proofs.lemmas.Bool.{and_parts, and_from, false_from_ne_true}
use Rattle.std.proofs.lemmas.List.{length-map}
use Rattle.std.proofs.lemmas.List.Elements.{filter-append}
use Rattle.std.proofs.lemmas.List.Filters.{length-filter_both}
use Rattle.std.proofs.lemmas.List.FromFn.{length-range_with_len}
use Rattle.implicit_tiling.specs.declared.Scheme.{Scheme}
use Rattle.implicit_tiling.specs.declared.Scheme.TheVariants.{Quad, Oct}
use Rattle.implicit_tiling.specs.Tile.{branching}
use Rattle.implicit_tiling.specs.Region.{Region, is_in}
use Rattle.implicit_tiling.specs.Subtree.{Subtree, has_tile, has_child}
use Rattle.implicit_tiling.specs.Nodes.{node_at, is_tile_in, tiles_in, node_word, level_words, is_child_in, children_in, child_word, child_words}
use Rattle.walk_laws.proofs.Lists.{filter_none, of_range, range_blocks}
use Rattle.region_scan.proofs.NodesInRegion.{node_above_in}

few_pass : {X : Type 0} (p : X → Bool) (xs : List X) → length (filter p xs) ≤ length xs
few_pass p xs = omega (arith, length-filter_both p (λ x. not (p x)) (λ x. refl) xs)

-- the numbers of block i
abbrev block : Scheme → ℕ → List ℕ
block scheme i = range_with_len (i * branching scheme) (branching scheme)

of_block : (scheme : Scheme) (i m : ℕ) → i * branching scheme ≤ m → m < i * branching scheme + branching scheme → m / branching scheme ≡ i
of_block Quad i m low high = omega arith
of_block Oct i m low high = omega arith

-- where each that passes stands in a block that passes
module _ (scheme : Scheme) (p q : ℕ → Bool) (up : (m : ℕ) → p m ≡ true → q (m / branching scheme) ≡ true) where
  none_in_block : (i : ℕ) → q i ≡ false → filter p (block scheme i) ≡ []
  none_in_block i not_there =
      filter_none p (block scheme i) (of_range (λ m. p m ≡ false) (i * branching scheme) (branching scheme)
      (λ m low high. false_from_ne_true (p m) (λ passes. let there = sym (ap q (of_block scheme i m low high)) ∙ up m passes in cc)))

  few_with_block : (i : ℕ) (b : Bool) (rest : List ℕ) (more : ℕ) → q i ≡ b → more ≤ branching scheme * length rest
      → length (filter p (block scheme i)) + more ≤ branching scheme * length (cond b (i ∷ rest) rest)
  few_with_block i true rest more is few =
      let here : length (filter p (block scheme i)) ≤ branching scheme = omega (arith, few_pass p (block scheme i), length-range_with_len (i * branching scheme) (branching scheme)) in
      omega (arith, here, few)
  few_with_block i false rest more is few = omega (arith, ap length (none_in_block i is), few)

  few_in_blocks : (xs : List ℕ) → length (filter p (flat_map (block scheme) xs)) ≤ branching scheme * length (filter q xs)
  few_in_blocks [] = omega arith
  few_in_blocks (x ∷ xs) =
      let parts = ap length (filter-append p (block scheme x) (flat_map (block scheme) xs)) in
      let both = few_with_block x (q x) (filter q xs) (length (filter p (flat_map (block scheme) xs))) refl (few_in_blocks xs) in
      omega (arith, parts, length-append (filter p (block scheme x)) (filter p (flat_map (block scheme) xs)), both)

-- the local indices of a level are blocks of those above
blocks : (scheme : Scheme) (l : ℕ) → range_with_len 0 (branching scheme ^ (l + 1)) ≡ flat_map (block scheme) (range_with_len 0 (branching scheme ^ l))
blocks scheme l =
    let n = branching scheme in
    let none : 0 ≡ 0 * n = omega arith in
    let next : l + 1 ≡ suc l = omega arith in
    let count : n ^ (l + 1) ≡ n ^ l * n = ap (λ k. n ^ k) next ∙ pow-succ' n l ∙ mul_comm n (n ^ l) in
    ap (λ k. range_with_len 0 k) count ∙ ap (λ k. range_with_len k (n ^ l * n)) none ∙ range_blocks n 0 (n ^ l)

one_place : (scheme : Scheme) (m : ℕ) → m / branching scheme ^ 1 ≡ m / branching scheme
one_place Quad m = omega arith
one_place Oct m = omega arith

parent_there : (st : Subtree) (region : Region) (l m : ℕ) → st.levels ≡ l + 1 → is_child_in st region m ≡ true → is_tile_in st region l (m / branching st.scheme) ≡ true
parent_there st region l m levels is =
    let n = branching st.scheme in
    let within = and_parts (has_child st m && has_tile st (st.levels - 1) (m / n)) (is_in region (node_at st st.levels m)) is in
    let bits = and_parts (has_child st m) (has_tile st (st.levels - 1) (m / n)) within.0 in
    let last : st.levels - 1 ≡ l = omega (arith, levels) in
    let one = one_place st.scheme m in
    let up = node_above_in st region l 1 m (ap (λ k. is_in region (node_at st k m)) (sym levels) ∙ within.1) in
    and_from (has_tile st l (m / n)) (is_in region (node_at st l (m / n)))
    (ap (λ k. has_tile st k (m / n)) (sym last) ∙ bits.1) (ap (λ k. is_in region (node_at st l k)) (sym one) ∙ up)

few_child_words : (st : Subtree) (region : Region) (l : ℕ) → st.levels ≡ l + 1 → length (child_words st region) ≤ branching st.scheme * length (level_words st region l)
few_child_words st region l levels =
    let n = branching st.scheme in
    let p = is_child_in st region in
    let same : children_in st region ≡ filter p (flat_map (block st.scheme) (range_with_len 0 (n ^ l))) =
    ap (λ k. filter p (range_with_len 0 (n ^ k))) levels ∙ ap (filter p) (blocks st.scheme l) in
    let few : length (filter p (flat_map (block st.scheme) (range_with_len 0 (n ^ l)))) ≤ n * length (tiles_in st region l) = few_in_blocks st.scheme p (is_tile_in st region l) (λ m is. parent_there st region l m levels is) (range_with_len 0 (n ^ l)) in
    let size : length (level_words st region l) ≡ length (tiles_in st region l) = length-map (tiles_in st region l) (node_word st l) in
    subst (λ k. length (child_words st region) ≤ n * k) (sym size)
    (omega (arith, length-map (children_in st region) (child_word st), ap length same, few))

eight_at_most : (scheme : Scheme) (a b : ℕ) → a ≤ branching scheme * b → a ≤ 8 * b
eight_at_most Quad a b h = omega arith
eight_at_most Oct a b h = omega arith

pub few_children : (st : Subtree) (region : Region) (l : ℕ) → st.levels ≡ l + 1 → length (child_words st region) ≤ 8 * length (level_words st region l)
few_children st region l levels = eight_at_most st.scheme (length (child_words st region)) (length (level_words st region l)) (few_child_words st region l levels)
