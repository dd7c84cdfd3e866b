-- The contents of the given tiles, by the bits of their made subtrees.
use Rattle.std.proofs.Common.{◌≡◌, ℕ, zero, suc, ◌+◌, ◌*◌, ◌/◌, ◌%◌, ◌^◌, ◌<◌, Bool, true, List, [], ◌∷◌, length, map, get_or, refl, sym, ap, subst, ◌∙◌, arith, inl, inr, add-one}
use Rattle.std.specs.Prelude.{◌==◌, if◌then◌else◌}
use Rattle.std.specs.List.{Contains, filter, range_with_len}
use Rattle.std.proofs.Math.Nat.{pow-suc}
use Rattle.std.proofs.lemmas.Nat.{shr-shr, mod-pow-add, mod_low}
use Rattle.std.proofs.lemmas.Bool.{cases_order}
use Rattle.std.proofs.lemmas.List.{get_or_default}
use Rattle.std.proofs.lemmas.List.Elements.{All-contains}
use Rattle.implicit_tiling.specs.declared.Scheme.{Scheme}
use Rattle.implicit_tiling.specs.Tile.{root, is_key_below}
use Rattle.implicit_tiling.specs.Tile.{Tile}
use Rattle.implicit_tiling.specs.Scene.{Layout, Scene, Outcome, content_bits_of}
use Rattle.implicit_tiling.specs.Availability.{subtree_root, place, mask_from, mask}
use Rattle.implicit_tiling.specs.Bits.{bit_at}
use Rattle.implicit_tiling.specs.Code.{word_level, word_index, word_tile, word_mask}
use Rattle.tiling_laws.proofs.TileAt.{tile_at_is_tile}
use Rattle.tiling_laws.proofs.Places.{tile_from_place}
use Rattle.tiling_laws.proofs.Rising.{in_filtered, keys_are_strict}
use Rattle.walk_laws.proofs.Plain.{same_test}
use Rattle.tile_occupancy.specs.Occupied.{KeysRise, tiles_of}
use Rattle.tile_occupancy.proofs.Keys.{places, tile_of_place}
use Rattle.build_laws.specs.Made.{tile_in, under, has_content, node_bits}
use Rattle.build_laws.proofs.Bits.{into_map, node_says, node_from}
use Rattle.build_laws.proofs.Under.{subtree_is_made}
use Rattle.build_laws.proofs.Nodes.{under_says, under_from}
use Rattle.build_laws.proofs.Outcomes.{IsMadeOf}

-- no two words have one tile
rising_apart : (scheme : Scheme) (words : List ℕ) (i j v w : ℕ) → KeysRise scheme words → i < j → j < length words → get_or words i v ≡ v → get_or words j w ≡ w
    → word_tile scheme v ≡ word_tile scheme w → ⊥
rising_apart scheme words i j v w rise low within one other same =
    let P : Tile → Tile → Type 0 = λ t u. is_key_below scheme t u ≡ true in
    let first : get_or (tiles_of scheme words) i root ≡ word_tile scheme v = tile_of_place scheme words i v root (omega (arith, low, within)) ∙ ap (word_tile scheme) one in
    let second : get_or (tiles_of scheme words) j root ≡ word_tile scheme v = tile_of_place scheme words j w root within ∙ ap (word_tile scheme) other ∙ sym same in
    let below = rise i j root low (omega (arith, within, places scheme words)) in
    (keys_are_strict scheme).irreflexive (word_tile scheme v) (subst (P (word_tile scheme v)) second (subst (λ t. P t (get_or (tiles_of scheme words) j root)) first below))

pub one_word : (scheme : Scheme) (words : List ℕ) (v w : ℕ) → KeysRise scheme words → Contains words v → Contains words w → word_tile scheme v ≡ word_tile scheme w → v ≡ w
one_word scheme words v w rise one other same =
    elim (cases_order one.0 other.0) [
      | inl here ↦ sym one.2 ∙ ap (λ k. get_or words k v) here ∙ get_or_default words other.0 v w other.1 ∙ other.2
      | inr (inl low) ↦ absurd (rising_apart scheme words one.0 other.0 v w rise low other.1 one.2 other.2 same)
      | inr (inr high) ↦ absurd (rising_apart scheme words other.0 one.0 w v rise high one.1 other.2 one.2 (sym same))
    ]

-- a content bit is 1 where the mask of the word has that content
abbrev pub content_bits : Layout → Tile → List ℕ → ℕ → List Bool
content_bits layout r words c = node_bits layout (filter (has_content c) (under layout r words))

content_is : (s : Scene) (words : List ℕ) (w c : ℕ) → IsMadeOf s words → Contains words w
    → bit_at (content_bits s.layout (subtree_root s.layout (tile_in s.layout w)) words c) (place s.layout (tile_in s.layout w)) ≡ has_content c w
content_is s words w c made there =
    let layout = s.layout in
    let t = tile_in layout w in
    let r = subtree_root layout t in
    let kept = filter (has_content c) (under layout r words) in
    same_test (bit_at (node_bits layout kept) (place layout t)) (has_content c w)
    (λ one.
    let from = node_says layout kept (place layout t) one in
    let v = from.element in
    let is = (in_filtered (has_content c) (under layout r words) v).0 from.there in
    let says = under_says layout r words v is.0 in
    let same : tile_in layout v ≡ t =
    tile_from_place layout (tile_in layout v) t (tile_at_is_tile layout.scheme (word_level v) (word_index v)) (tile_at_is_tile layout.scheme (word_level w) (word_index w)) says.1 from.gives in
    subst (λ n. has_content c n ≡ true) (one_word layout.scheme words v w made.are.whole.rise says.0 there same) is.1)
    (λ has. node_from layout kept w made.are.limits.some_subtree_levels ((in_filtered (has_content c) (under layout r words) w).1 (under_from layout r words w there refl, has)))

-- bits from c on, as the number that they make
worth : (digit power : ℕ) → digit < 2 → (if digit == 1 then power else 0) ≡ power * digit
worth zero power low = omega arith
worth (suc zero) power low = omega arith
worth (suc (suc digit)) power low = absurd (omega (arith, low))

one_more : (power rest digit : ℕ) → power * digit + power * 2 * rest ≡ power * (rest * 2 + digit)
one_more power rest digit = omega arith

number_more : (m c n : ℕ) → (if m / 2 ^ c % 2 == 1 then 2 ^ c else 0) + 2 ^ (c + 1) * (m / 2 ^ (c + 1) % 2 ^ n) ≡ 2 ^ c * (m / 2 ^ c % 2 ^ suc n)
number_more m c n =
    let x = m / 2 ^ c in
    let low : x % 2 < 2 = omega arith in
    let half : m / 2 ^ (c + 1) ≡ x / 2 = sym (shr-shr m c 1) in
    let power : 2 ^ (c + 1) ≡ 2 ^ c * 2 = ap (λ e. 2 ^ e) (add-one c) ∙ pow-suc 2 c in
    let parts : x % 2 ^ suc n ≡ x / 2 % 2 ^ n * 2 + x % 2 = ap (λ e. x % 2 ^ e) (sym (add-one n)) ∙ mod-pow-add x n 1 in
    ap (λ a. a + 2 ^ (c + 1) * (m / 2 ^ (c + 1) % 2 ^ n)) (worth (x % 2) (2 ^ c) low)
    ∙ ap (λ p. 2 ^ c * (x % 2) + p * (m / 2 ^ (c + 1) % 2 ^ n)) power
    ∙ ap (λ y. 2 ^ c * (x % 2) + 2 ^ c * 2 * (y % 2 ^ n)) half
    ∙ one_more (2 ^ c) (x / 2 % 2 ^ n) (x % 2)
    ∙ ap (λ w. 2 ^ c * w) (sym parts)

no_number : (p x : ℕ) → 0 ≡ p * (x % 1)
no_number p x =
    let none : x % 1 ≡ 0 = omega arith in
    let nothing : 0 ≡ p * 0 = omega arith in
    nothing ∙ ap (λ n. p * n) (sym none)

mask_is : (s : Scene) (t : Tile) (m c : ℕ) (templates : List (List ℕ)) (bits : ℕ → List Bool) → ((j : ℕ) → bit_at (bits j) (place s.layout t) ≡ (m / 2 ^ j % 2 == 1))
    → mask_from s t c templates (map bit_at (map bits (range_with_len c (length templates)))) ≡ 2 ^ c * (m / 2 ^ c % 2 ^ length templates)
mask_is s t m c [] bits each = no_number (2 ^ c) (m / 2 ^ c)
mask_is s t m c (template ∷ templates) bits each =
    ap (λ (b : Bool). (if b then 2 ^ c else 0) + mask_from s t (c + 1) templates (map bit_at (map bits (range_with_len (c + 1) (length templates))))) (each c)
    ∙ ap (λ n. (if m / 2 ^ c % 2 == 1 then 2 ^ c else 0) + n) (mask_is s t m (c + 1) templates bits each)
    ∙ number_more m c (length templates)

all_of_it : (m n : ℕ) → m < 2 ^ n → 2 ^ 0 * (m / 2 ^ 0 % 2 ^ n) ≡ m
all_of_it m n low =
    let one : (k : ℕ) → 1 * k ≡ k = λ k. omega arith in
    let same : m / 1 ≡ 0 * 2 ^ n + m = omega arith in
    one (m / 1 % 2 ^ n) ∙ ap (λ k. k % 2 ^ n) same ∙ mod_low 0 n m low

pub mask_of_word : (s : Scene) (words : List ℕ) (w : ℕ) → IsMadeOf s words → Contains words w → mask s (tile_in s.layout w) ≡ word_mask w
mask_of_word s words w made there =
    let t = tile_in s.layout w in
    let r = subtree_root s.layout t in
    let templates = s.layout.contents in
    let root = subtree_is_made s.layout words t made.are.limits.some_subtree_levels made.are.whole (into_map (word_tile s.layout.scheme) words w there) in
    ap (λ (o : Outcome). mask_from s t 0 templates (content_bits_of o)) (made.good_at r root)
    ∙ mask_is s t (word_mask w) 0 templates (content_bits s.layout r words) (λ c. content_is s words w c made there)
    ∙ all_of_it (word_mask w) (length templates) (All-contains (λ v. word_mask v < 2 ^ length templates) words w made.are.masks there)
