-- The keys of the tiles so many levels below a root are a run of numbers.
use Rattle.std.proofs.Common.{◌≡◌, ℕ, ◌+◌, ◌-◌, ◌*◌, ◌^◌, ◌<◌, ◌≤◌, Bool, true, false, List, [], refl, sym, ap, subst, ◌∙◌, arith, inl, inr}
use Rattle.std.specs.Prelude.{◌==◌, nat_lt, nat_le, filter}
use Rattle.std.specs.List.{All}
use Rattle.std.proofs.lemmas.Bool.{cases_order, and_parts, and_from, eqb-true, eq-eqb, ltb-true, lt-ltb, leb-true, le-leb}
use Rattle.std.proofs.lemmas.List.Elements.{All-weaker}
use Rattle.implicit_tiling.specs.declared.Scheme.{Scheme}
use Rattle.implicit_tiling.specs.declared.Scheme.TheVariants.{Quad, Oct}
use Rattle.implicit_tileset.specs.Tileset.{most_levels as levels_limit}
use Rattle.implicit_tiling.specs.Limits.{most_levels}
use Rattle.implicit_tiling.specs.Tile.{Tile, IsTile, branching, ancestor, index}
use Rattle.implicit_tiling.specs.Scene.{Layout}
use Rattle.implicit_tiling.specs.Code.{word_index, word_tile, IsWord}
use Rattle.tiling_laws.proofs.TileAt.{tile_at_level, index_of_tile_at}
use Rattle.tiling_laws.proofs.Ancestors.{descendants, branching_pow_pos}
use Rattle.tiling_laws.proofs.Walk.{filter_same}
use Rattle.walk_laws.proofs.Lists.{filter_none}
use Rattle.walk_laws.proofs.Plain.{same_test}
use Rattle.walk_laws.proofs.Runs.{run_fits}
use Rattle.tile_word.proofs.Levels.{indices_fit}
use Rattle.tile_word.proofs.Parts.{index_of_parts}
use Rattle.tile_word.proofs.Tiles.{index_is_short, key_is_that_of_the_tile, word_tile_is_tile, word_tile_fits, word_tile_level}
use Rattle.tile_word.specs.Words.{word_key}
use Rattle.tile_occupancy.specs.Occupied.{IsWordBelow, AreWordsBelow, is_same}
use Rattle.build_laws.specs.Made.{tile_in}
use Rattle.build_laws.proofs.Under.{same_says, same_from}
use Rattle.tile_builder.specs.Runs.{first_key, is_key_in, is_below, words_below}

-- the first key, by its parts
first_fits : (scheme : Scheme) (r : Tile) (down : ℕ) → index scheme r * branching scheme ^ down < branching scheme ^ (r.level + down)
first_fits scheme r down = omega (arith, run_fits scheme down r 0 (branching_pow_pos scheme down))

pub last_fits : (scheme : Scheme) (r : Tile) (down : ℕ) → index scheme r * branching scheme ^ down + branching scheme ^ down ≤ branching scheme ^ (r.level + down)
last_fits scheme r down =
    let some = branching_pow_pos scheme down in
    omega (arith, some, run_fits scheme down r (branching scheme ^ down - 1) (omega (arith, some)))

pub index_fits : (scheme : Scheme) (r : Tile) (down level i n : ℕ) → r.level + down < most_levels scheme → r.level ≡ level → i ≡ index scheme r → n ≡ branching scheme ^ down
    → (i * n < 2 ^ 64) × (i * n < branching scheme ^ (level + down))
index_fits scheme r down level i n few same at nodes =
    let product : index scheme r * branching scheme ^ down ≡ i * n = ap (λ j. j * branching scheme ^ down) (sym at) ∙ ap (λ m. i * m) (sym nodes) in
    let fits : i * n < branching scheme ^ (r.level + down) = subst (λ w. w < branching scheme ^ (r.level + down)) product (first_fits scheme r down) in
    (omega (arith, fits, indices_fit scheme (r.level + down) few), subst (λ l. i * n < branching scheme ^ (l + down)) same fits)

pub first_key_is : (scheme : Scheme) (r : Tile) (down : ℕ) → first_key scheme r down ≡ (r.level + down) * 2 ^ 80 + index scheme r * branching scheme ^ down
first_key_is scheme r down =
    let start = index scheme r * branching scheme ^ down in
    omega (arith, tile_at_level scheme (r.level + down) start, index_of_tile_at scheme (r.level + down) start (first_fits scheme r down))

-- numbers of two parts, of which the lower one is short
parts_in_run : (l m i j n : ℕ) → i < 2 ^ 64 → j + n ≤ 2 ^ 64 → m * 2 ^ 80 + j ≤ l * 2 ^ 80 + i → l * 2 ^ 80 + i < m * 2 ^ 80 + j + n → (l ≡ m) × (j ≤ i) × (i < j + n)
parts_in_run l m i j n short few low high =
    elim (cases_order l m) [
      | inl same ↦ (same, omega arith, omega arith)
      | inr (inl less) ↦ absurd (omega arith)
      | inr (inr more) ↦ absurd (omega arith)
    ]

-- a tile so many levels below a root
pub record IsTileBelow (r : Tile) (down : ℕ) (t : Tile) : Type 0 where
  pub level : t.level ≡ r.level + down
  pub above : ancestor down t ≡ r

pub below_says : (layout : Layout) (r : Tile) (down w : ℕ) → is_below layout r down w ≡ true → IsTileBelow r down (tile_in layout w)
below_says layout r down w h =
    let t = tile_in layout w in
    let parts = and_parts (t.level == r.level + down) (is_same (ancestor down t) r) h in
    record { level = eqb-true t.level (r.level + down) parts.0; above = same_says (ancestor down t) r parts.1 }

pub below_from : (layout : Layout) (r : Tile) (down w : ℕ) → IsTileBelow r down (tile_in layout w) → is_below layout r down w ≡ true
below_from layout r down w is =
    let t = tile_in layout w in
    and_from (t.level == r.level + down) (is_same (ancestor down t) r) (eq-eqb t.level (r.level + down) is.level) (same_from (ancestor down t) r is.above)

-- its key is in the run, and no other key
key_says : (scheme : Scheme) (r : Tile) (down w : ℕ) → IsTile scheme r → r.level + down < most_levels scheme → IsWord scheme w
    → is_key_in (first_key scheme r down) (branching scheme ^ down) w ≡ true → IsTileBelow r down (word_tile scheme w)
key_says scheme r down w tile few is h =
    let t = word_tile scheme w in
    let first = first_key scheme r down in
    let n = branching scheme ^ down in
    let parts = and_parts (nat_le first (word_key w)) (nat_lt (word_key w) (first + n)) h in
    let low = leb-true first (word_key w) parts.0 in
    let high = ltb-true (word_key w) (first + n) parts.1 in
    let key = key_is_that_of_the_tile scheme w is in
    let at = first_key_is scheme r down in
    let run = parts_in_run t.level (r.level + down) (index scheme t) (index scheme r * n) n (index_is_short scheme t (word_tile_fits scheme w is.level_fits))
    (omega (arith, last_fits scheme r down, indices_fit scheme (r.level + down) few)) (omega (arith, low, at, key)) (omega (arith, high, at, key)) in
    record {
      level = run.0;
      above = (descendants scheme down t r (word_tile_is_tile scheme w) tile run.0).1 (run.1, omega (arith, run.2));
    }

key_from : (scheme : Scheme) (r : Tile) (down w : ℕ) → IsTile scheme r → IsWord scheme w → IsTileBelow r down (word_tile scheme w)
    → is_key_in (first_key scheme r down) (branching scheme ^ down) w ≡ true
key_from scheme r down w tile is below =
    let t = word_tile scheme w in
    let first = first_key scheme r down in
    let n = branching scheme ^ down in
    let at = first_key_is scheme r down in
    let level = below.level in
    let key = key_is_that_of_the_tile scheme w is in
    let run = (descendants scheme down t r (word_tile_is_tile scheme w) tile below.level).0 below.above in
    and_from (nat_le first (word_key w)) (nat_lt (word_key w) (first + n))
    (le-leb first (word_key w) (omega (arith, at, key, level, run.0))) (lt-ltb (word_key w) (first + n) (omega (arith, at, key, level, run.1)))

pub run_is_below : (layout : Layout) (r : Tile) (down : ℕ) (ws : List ℕ) → IsTile layout.scheme r → r.level + down < most_levels layout.scheme → All (IsWord layout.scheme) ws
    → filter (is_key_in (first_key layout.scheme r down) (branching layout.scheme ^ down)) ws ≡ words_below layout ws r down
run_is_below layout r down ws tile few are =
    let scheme = layout.scheme in
    let test = is_key_in (first_key scheme r down) (branching scheme ^ down) in
    filter_same test (is_below layout r down) ws
    (All-weaker (IsWord scheme) (λ w. test w ≡ is_below layout r down w)
    (λ w is. same_test (test w) (is_below layout r down w)
    (λ h. below_from layout r down w (key_says scheme r down w tile few is h)) (λ h. key_from scheme r down w tile is (below_says layout r down w h))) ws are)

-- there is no tile from the levels in all on
not_true : {P : Type 0} (b : Bool) → (b ≡ true → P) → (P → ⊥) → b ≡ false
not_true true says never = absurd (never (says refl))
not_true false says never = refl

pub none_below : (layout : Layout) (r : Tile) (down : ℕ) (ws : List ℕ) → AreWordsBelow layout.scheme layout.levels ws → layout.levels ≤ r.level + down → words_below layout ws r down ≡ []
none_below layout r down ws are deep =
    filter_none (is_below layout r down) ws
    (All-weaker (IsWordBelow layout.scheme layout.levels) (λ w. is_below layout r down w ≡ false)
    (λ w is. not_true (is_below layout r down w) (below_says layout r down w) (λ t. let low = is.low in omega (arith, deep, low, t.level, word_tile_level layout.scheme w))) ws are)

-- what the code hands over: the scheme and the levels of a layout
pub few_levels : (scheme : Scheme) (n levels : ℕ) → n < levels → levels ≤ levels_limit scheme → n < most_levels scheme
few_levels Quad n levels low few = omega (arith, low, few)
few_levels Oct n levels low few = omega (arith, low, few)

pub below_is_run : (layout : Layout) (scheme : Scheme) (r : Tile) (down first n : ℕ) (ws found : List ℕ) → scheme ≡ layout.scheme → IsTile layout.scheme r
    → r.level + down < most_levels scheme → AreWordsBelow layout.scheme layout.levels ws → first ≡ first_key scheme r down → n ≡ branching scheme ^ down
    → found ≡ filter (is_key_in first n) ws → found ≡ words_below layout ws r down
below_is_run layout scheme r down first n ws found same tile few are at nodes is =
    is ∙ ap (λ k. filter (is_key_in k n) ws) at ∙ ap (λ m. filter (is_key_in (first_key scheme r down) m) ws) nodes
    ∙ ap (λ s. filter (is_key_in (first_key s r down) (branching s ^ down)) ws) same
    ∙ run_is_below layout r down ws tile (subst (λ s. r.level + down < most_levels s) same few)
    (All-weaker (IsWordBelow layout.scheme layout.levels) (IsWord layout.scheme) (λ w h. h.is_word) ws are)

-- the run ends within the indices of its level
pub run_ends : (scheme : Scheme) (r : Tile) (down first n : ℕ) → r.level + down < most_levels scheme → first ≡ first_key scheme r down → n ≡ branching scheme ^ down → word_index first + n < 2 ^ 64
run_ends scheme r down first n few at nodes =
    let start = index scheme r * branching scheme ^ down in
    let fits = indices_fit scheme (r.level + down) few in
    let apart : first ≡ (r.level + down) * 2 ^ 80 + 0 * 2 ^ 64 + start = omega (arith, at, first_key_is scheme r down) in
    let here : word_index first ≡ start = ap word_index apart ∙ index_of_parts (r.level + down) 0 start (omega (arith, fits, first_fits scheme r down)) in
    omega (arith, here, nodes, last_fits scheme r down, fits)
