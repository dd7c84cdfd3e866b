-- The number of nodes above a level.
use Rattle.std.proofs.Common.{◌≡◌, ℕ, zero, suc, ◌+◌, ◌-◌, ◌*◌, ◌^◌, [], ◌∷◌, ◌++◌, length, refl, sym, ap, ◌∙◌, arith, add-one, add-zero, zero-add, length-append, append-nil}
use Rattle.std.specs.List.{flat_map, range_with_len}
use Rattle.std.proofs.Math.Nat.{pow-suc}
use Rattle.std.proofs.lemmas.Grind.{flat_map-append}
use Rattle.std.proofs.lemmas.List.FromFn.{length-map-range_with_len}
use Rattle.implicit_tiling.specs.declared.Scheme.{Scheme}
use Rattle.implicit_tiling.specs.declared.Scheme.TheVariants.{Quad, Oct}
use Rattle.implicit_tiling.specs.Tile.{branching, tile_at, tiles_of_level, all_tiles}
use Rattle.implicit_tiling.specs.Availability.{nodes_above}

pub nodes_times_rest : (scheme : Scheme) (l : ℕ) → (branching scheme - 1) * nodes_above scheme l + 1 ≡ branching scheme ^ l
nodes_times_rest Quad zero = refl
nodes_times_rest Oct zero = refl
nodes_times_rest Quad (suc l) = omega (arith, nodes_times_rest Quad l, pow-suc 4 l)
nodes_times_rest Oct (suc l) = omega (arith, nodes_times_rest Oct l, pow-suc 8 l)

pub none_above : (scheme : Scheme) → nodes_above scheme 0 ≡ 0
none_above Quad = refl
none_above Oct = refl

pub level_more : (scheme : Scheme) (l : ℕ) → nodes_above scheme (l + 1) ≡ nodes_above scheme l + branching scheme ^ l
level_more Quad l = omega (arith, nodes_times_rest Quad l, nodes_times_rest Quad (l + 1), ap (λ e. 4 ^ e) (add-one l), pow-suc 4 l)
level_more Oct l = omega (arith, nodes_times_rest Oct l, nodes_times_rest Oct (l + 1), ap (λ e. 8 ^ e) (add-one l), pow-suc 8 l)

pub levels_add_up : (scheme : Scheme) (l : ℕ) → (nodes_above scheme 0 ≡ 0) × (nodes_above scheme (l + 1) ≡ nodes_above scheme l + branching scheme ^ l)
levels_add_up scheme l = (none_above scheme, level_more scheme l)

pub range_more : (a n : ℕ) → range_with_len a (n + 1) ≡ range_with_len a n ++ (a + n) ∷ []
range_more a zero = ap (λ k. k ∷ []) (sym (add-zero a))
range_more a (suc n) =
    let next : a + 1 + n ≡ a + suc n = omega arith in
    let count : suc n + 1 ≡ suc (n + 1) = omega arith in
    let here : range_with_len a (suc n + 1) ≡ a ∷ range_with_len (a + 1) (n + 1) = ap (range_with_len a) count in
    here ∙ ap (λ w. a ∷ w) (range_more (a + 1) n) ∙ ap (λ k. a ∷ (range_with_len (a + 1) n ++ k ∷ [])) next

pub length-tiles_of_level : (scheme : Scheme) (level : ℕ) → length (tiles_of_level scheme level) ≡ branching scheme ^ level
length-tiles_of_level scheme level = length-map-range_with_len (tile_at scheme level) 0 (branching scheme ^ level)

-- the tiles of one level more
pub levels_more : (scheme : Scheme) (n : ℕ)
    → flat_map (tiles_of_level scheme) (range_with_len 0 (n + 1)) ≡ flat_map (tiles_of_level scheme) (range_with_len 0 n) ++ tiles_of_level scheme n
levels_more scheme n =
    ap (flat_map (tiles_of_level scheme)) (range_more 0 n)
    ∙ flat_map-append (tiles_of_level scheme) (range_with_len 0 n) ((0 + n) ∷ [])
    ∙ ap (λ w. flat_map (tiles_of_level scheme) (range_with_len 0 n) ++ w) (append-nil (tiles_of_level scheme (0 + n)))
    ∙ ap (λ k. flat_map (tiles_of_level scheme) (range_with_len 0 n) ++ tiles_of_level scheme k) (zero-add n)

pub nodes_are_tiles : (scheme : Scheme) (l : ℕ) → length (flat_map (tiles_of_level scheme) (range_with_len 0 l)) ≡ nodes_above scheme l
nodes_are_tiles scheme zero = sym (none_above scheme)
nodes_are_tiles scheme (suc l) =
    ap (λ n. length (flat_map (tiles_of_level scheme) (range_with_len 0 n))) (sym (add-one l))
    ∙ ap length (levels_more scheme l)
    ∙ length-append (flat_map (tiles_of_level scheme) (range_with_len 0 l)) (tiles_of_level scheme l)
    ∙ ap (λ w. w + length (tiles_of_level scheme l)) (nodes_are_tiles scheme l)
    ∙ ap (λ w. nodes_above scheme l + w) (length-tiles_of_level scheme l)
    ∙ sym (level_more scheme l) ∙ ap (nodes_above scheme) (add-one l)

pub length-all_tiles : (scheme : Scheme) (last : ℕ) → length (all_tiles scheme last) ≡ nodes_above scheme (last + 1)
length-all_tiles scheme last = nodes_are_tiles scheme (last + 1)
