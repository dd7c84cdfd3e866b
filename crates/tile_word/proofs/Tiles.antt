-- Tiles by the calls of `morton`, and tiles as words.
use Rattle.std.proofs.Common.{◌≡◌, ℕ, ◌+◌, ◌*◌, ◌/◌, ◌^◌, ◌<◌, ◌≤◌, refl, sym, ap, subst, ◌∙◌, arith, lit<, true, inl, inr}
use Rattle.std.proofs.Math.Nat.{pow-le-pow_right}
use Rattle.std.proofs.lemmas.Nat.{pow_pos, mod_below}
use Rattle.std.proofs.lemmas.Bool.{cases_order}
use Rattle.implicit_tiling.specs.declared.Scheme.{Scheme}
use Rattle.implicit_tiling.specs.declared.Scheme.TheVariants.{Quad, Oct}
use Rattle.implicit_tiling.specs.Limits.{most_levels}
use Rattle.implicit_tiling.specs.Tile.{Tile, IsTile, branching, index, interleaved, tile_at, is_key_below}
use Rattle.implicit_tiling.specs.Code.{word, word_level, word_mask, word_index, word_tile, IsWord}
use Rattle.tiling_laws.proofs.Index.{further_places, index_below}
use Rattle.tiling_laws.proofs.TileAt.{same_tile, tile_at_level, tile_at_is_tile, index_of_tile_at, tile_at_index}
use Rattle.tiling_laws.proofs.Order.{below_by_level, below_by_index, below_says}
use Rattle.tile_word.specs.Words.{word_key, HasWord, HasParts, IsOfItsParts, AreOrdered}
use Rattle.tile_word.proofs.Levels.{levels_below_32, indices_fit}
use Rattle.tile_word.proofs.Parts.{level_of_parts, mask_of_parts, index_of_parts, parts_of_word}

-- a coordinate below 2^level is below any power of 2 for a level as high
pub coordinate_fits : (x l k : ℕ) → x < 2 ^ l → l ≤ k → x < 2 ^ k
coordinate_fits x l k h le = let most : 2 ^ l ≤ 2 ^ k = pow-le-pow_right (lit< tt) le in omega (arith, most)

-- the index over all places that a call takes
pub index_of_quad : (t : Tile) → IsTile Quad t → t.level < most_levels Quad → interleaved Quad 32 t.x t.y 0 ≡ index Quad t
index_of_quad t is low =
    further_places Quad t.level 32 t.x t.y 0 is.x_fits is.y_fits (pow_pos t.level) (omega arith) ∙ ap (λ n. interleaved Quad t.level t.x t.y n) (sym is.flat)

pub index_of_oct : (t : Tile) → IsTile Oct t → t.level < most_levels Oct → interleaved Oct 21 t.x t.y t.z ≡ index Oct t
index_of_oct t is low = further_places Oct t.level 21 t.x t.y t.z is.x_fits is.y_fits is.z_fits (omega arith)

-- the same where the scheme is known by an arm
pub index_in_quad : (scheme : Scheme) (t : Tile) (x y : ℕ) → scheme ≡ Quad → IsTile scheme t → t.level < most_levels scheme → x ≡ t.x → y ≡ t.y
    → interleaved Quad 32 x y 0 ≡ index scheme t
index_in_quad scheme t x y quad is low ex ey =
    ap (λ n. interleaved Quad 32 n y 0) ex ∙ ap (λ n. interleaved Quad 32 t.x n 0) ey
    ∙ subst (λ s. IsTile s t → t.level < most_levels s → interleaved Quad 32 t.x t.y 0 ≡ index s t) (sym quad) (index_of_quad t) is low

pub index_in_oct : (scheme : Scheme) (t : Tile) (x y z : ℕ) → scheme ≡ Oct → IsTile scheme t → t.level < most_levels scheme → x ≡ t.x → y ≡ t.y → z ≡ t.z
    → interleaved Oct 21 x y z ≡ index scheme t
index_in_oct scheme t x y z oct is low ex ey ez =
    ap (λ n. interleaved Oct 21 n y z) ex ∙ ap (λ n. interleaved Oct 21 t.x n z) ey ∙ ap (λ n. interleaved Oct 21 t.x t.y n) ez
    ∙ subst (λ s. IsTile s t → t.level < most_levels s → interleaved Oct 21 t.x t.y t.z ≡ index s t) (sym oct) (index_of_oct t) is low

pub coordinate_in_oct : (scheme : Scheme) (l x : ℕ) → scheme ≡ Oct → l < most_levels scheme → x < 2 ^ l → x < 2 ^ 21
coordinate_in_oct scheme l x oct low h =
    let below : l < 21 = subst (λ s. l < most_levels s) oct low in
    coordinate_fits x l 21 h (omega arith)

-- what coordinates of an index are
quad_is : (t : Tile) (i x y : ℕ) → IsTile Quad t → t.level < most_levels Quad → index Quad t ≡ i
    → ((a b : ℕ) → a < 2 ^ 32 → b < 2 ^ 32 → interleaved Quad 32 a b 0 ≡ i → (x ≡ a) × (y ≡ b))
    → record { level = t.level; x = x; y = y; z = 0 } ≡ t
quad_is t i x y is low at only =
    let le : t.level ≤ 32 = omega arith in
    let same = only t.x t.y (coordinate_fits t.x t.level 32 is.x_fits le) (coordinate_fits t.y t.level 32 is.y_fits le) (index_of_quad t is low ∙ at) in
    same_tile (record { level = t.level; x = x; y = y; z = 0 }) t refl same.0 same.1 (sym is.flat)

oct_is : (t : Tile) (i x y z : ℕ) → IsTile Oct t → t.level < most_levels Oct → index Oct t ≡ i
    → ((a b c : ℕ) → a < 2 ^ 21 → b < 2 ^ 21 → c < 2 ^ 21 → interleaved Oct 21 a b c ≡ i → (x ≡ a) × (y ≡ b) × (z ≡ c))
    → record { level = t.level; x = x; y = y; z = z } ≡ t
oct_is t i x y z is low at only =
    let le : t.level ≤ 21 = omega arith in
    let same = only t.x t.y t.z (coordinate_fits t.x t.level 21 is.x_fits le) (coordinate_fits t.y t.level 21 is.y_fits le)
    (coordinate_fits t.z t.level 21 is.z_fits le) (index_of_oct t is low ∙ at) in
    same_tile (record { level = t.level; x = x; y = y; z = z }) t refl same.0 same.1 same.2

pub tile_at_quad : (level i x y : ℕ) → level < most_levels Quad → i < branching Quad ^ level
    → ((a b : ℕ) → a < 2 ^ 32 → b < 2 ^ 32 → interleaved Quad 32 a b 0 ≡ i → (x ≡ a) × (y ≡ b))
    → record { level = level; x = x; y = y; z = 0 } ≡ tile_at Quad level i
tile_at_quad level i x y low h only =
    let at = tile_at_level Quad level i in
    ap (λ (l : ℕ). record { level = l; x = x; y = y; z = 0 }) (sym at)
    ∙ quad_is (tile_at Quad level i) i x y (tile_at_is_tile Quad level i) (subst (λ l. l < most_levels Quad) (sym at) low) (index_of_tile_at Quad level i h) only

pub tile_at_oct : (level i x y z : ℕ) → level < most_levels Oct → i < branching Oct ^ level
    → ((a b c : ℕ) → a < 2 ^ 21 → b < 2 ^ 21 → c < 2 ^ 21 → interleaved Oct 21 a b c ≡ i → (x ≡ a) × (y ≡ b) × (z ≡ c))
    → record { level = level; x = x; y = y; z = z } ≡ tile_at Oct level i
tile_at_oct level i x y z low h only =
    let at = tile_at_level Oct level i in
    ap (λ (l : ℕ). record { level = l; x = x; y = y; z = z }) (sym at)
    ∙ oct_is (tile_at Oct level i) i x y z (tile_at_is_tile Oct level i) (subst (λ l. l < most_levels Oct) (sym at) low) (index_of_tile_at Oct level i h) only

pub tile_in_quad : (scheme : Scheme) (level i x y : ℕ) → scheme ≡ Quad → level < most_levels scheme → i < branching scheme ^ level
    → ((a b : ℕ) → a < 2 ^ 32 → b < 2 ^ 32 → interleaved Quad 32 a b 0 ≡ i → (x ≡ a) × (y ≡ b))
    → record { level = level; x = x; y = y; z = 0 } ≡ tile_at scheme level i
tile_in_quad scheme level i x y quad low h only =
    subst (λ s. level < most_levels s → i < branching s ^ level → record { level = level; x = x; y = y; z = 0 } ≡ tile_at s level i) (sym quad)
    (λ low h. tile_at_quad level i x y low h only) low h

pub tile_in_oct : (scheme : Scheme) (level i x y z : ℕ) → scheme ≡ Oct → level < most_levels scheme → i < branching scheme ^ level
    → ((a b c : ℕ) → a < 2 ^ 21 → b < 2 ^ 21 → c < 2 ^ 21 → interleaved Oct 21 a b c ≡ i → (x ≡ a) × (y ≡ b) × (z ≡ c))
    → record { level = level; x = x; y = y; z = z } ≡ tile_at scheme level i
tile_in_oct scheme level i x y z oct low h only =
    subst (λ s. level < most_levels s → i < branching s ^ level → record { level = level; x = x; y = y; z = z } ≡ tile_at s level i) (sym oct)
    (λ low h. tile_at_oct level i x y z low h only) low h

-- the invariant of a tile that is one by its level and index
pub fits_at : (scheme : Scheme) (level i : ℕ) (t : Tile) → t ≡ tile_at scheme level i → IsTile scheme t
fits_at scheme level i t is = subst (IsTile scheme) (sym is) (tile_at_is_tile scheme level i)

pub index_is_short : (scheme : Scheme) (t : Tile) → t.level < most_levels scheme → index scheme t < 2 ^ 64
index_is_short scheme t low = omega (arith, index_below scheme t, indices_fit scheme t.level low)

-- a word has its parts
pub level_of_word : (scheme : Scheme) (t : Tile) (m : ℕ) → t.level < most_levels scheme → m < 2 ^ 16 → word_level (word scheme t m) ≡ t.level
level_of_word scheme t m low hm = level_of_parts t.level m (index scheme t) hm (index_is_short scheme t low)

pub mask_of_word : (scheme : Scheme) (t : Tile) (m : ℕ) → t.level < most_levels scheme → m < 2 ^ 16 → word_mask (word scheme t m) ≡ m
mask_of_word scheme t m low hm = mask_of_parts t.level m (index scheme t) hm (index_is_short scheme t low)

pub index_of_word : (scheme : Scheme) (t : Tile) (m : ℕ) → t.level < most_levels scheme → word_index (word scheme t m) ≡ index scheme t
index_of_word scheme t m low = index_of_parts t.level m (index scheme t) (index_is_short scheme t low)

pub tile_of_word : (scheme : Scheme) (t : Tile) (m : ℕ) → HasWord scheme t → m < 2 ^ 16 → word_tile scheme (word scheme t m) ≡ t
tile_of_word scheme t m has hm =
    ap (λ l. tile_at scheme l (word_index (word scheme t m))) (level_of_word scheme t m has.within hm)
    ∙ ap (λ i. tile_at scheme t.level i) (index_of_word scheme t m has.within) ∙ tile_at_index scheme t has.is_tile

pub word_is_word : (scheme : Scheme) (t : Tile) (m : ℕ) → t.level < most_levels scheme → m < 2 ^ 16 → IsWord scheme (word scheme t m)
word_is_word scheme t m low hm =
    let level = level_of_word scheme t m low hm in
    record {
      level_fits = subst (λ l. l < most_levels scheme) (sym level) low;
      index_fits = subst (λ i. i < branching scheme ^ word_level (word scheme t m)) (sym (index_of_word scheme t m low))
          (subst (λ l. index scheme t < branching scheme ^ l) (sym level) (index_below scheme t));
    }

pub word_fits : (scheme : Scheme) (t : Tile) (m : ℕ) → t.level < most_levels scheme → m < 2 ^ 16 → word scheme t m < 2 ^ 128
word_fits scheme t m low hm = omega (arith, index_is_short scheme t low, levels_below_32 scheme t.level low)

pub words_have_their_parts : (scheme : Scheme) (t : Tile) (m : ℕ) → HasWord scheme t → m < 2 ^ 16 → HasParts scheme t m (word scheme t m)
words_have_their_parts scheme t m has hm = record {
  is_word = word_is_word scheme t m has.within hm;
  fits = word_fits scheme t m has.within hm;
  tile = tile_of_word scheme t m has hm;
  mask = mask_of_word scheme t m has.within hm;
}

-- and what is a word is that of its parts
pub word_tile_level : (scheme : Scheme) (w : ℕ) → (word_tile scheme w).level ≡ word_level w
word_tile_level scheme w = tile_at_level scheme (word_level w) (word_index w)

pub word_tile_fits : (scheme : Scheme) (w : ℕ) → word_level w < most_levels scheme → (word_tile scheme w).level < most_levels scheme
word_tile_fits scheme w low = subst (λ l. l < most_levels scheme) (sym (word_tile_level scheme w)) low

pub word_tile_is_tile : (scheme : Scheme) (w : ℕ) → IsTile scheme (word_tile scheme w)
word_tile_is_tile scheme w = tile_at_is_tile scheme (word_level w) (word_index w)

pub parts_have_their_word : (scheme : Scheme) (w : ℕ) → IsWord scheme w → IsOfItsParts scheme w
parts_have_their_word scheme w is = record {
  has_word = record { is_tile = word_tile_is_tile scheme w; within = word_tile_fits scheme w is.level_fits };
  mask_fits = mod_below (w / 2 ^ 64) (2 ^ 16) (lit< tt);
  word = ap (λ l. l * 2 ^ 80 + word_mask w * 2 ^ 64 + index scheme (word_tile scheme w)) (word_tile_level scheme w)
      ∙ ap (λ i. word_level w * 2 ^ 80 + word_mask w * 2 ^ 64 + i) (index_of_tile_at scheme (word_level w) (word_index w) is.index_fits)
      ∙ parts_of_word w;
}

-- a word's level and index alone are the word of its tile with no contents
pub key_is_that_of_the_tile : (scheme : Scheme) (w : ℕ) → IsWord scheme w → word_key w ≡ word scheme (word_tile scheme w) 0
key_is_that_of_the_tile scheme w is =
    let level = word_tile_level scheme w in
    let index_is = index_of_tile_at scheme (word_level w) (word_index w) is.index_fits in
    omega (arith, level, index_is)

-- the order of words
level_first : (scheme : Scheme) (t u : Tile) (m n : ℕ) → t.level < most_levels scheme → m < 2 ^ 16 → t.level < u.level → word scheme t m < word scheme u n
level_first scheme t u m n low hm h = omega (arith, index_is_short scheme t low)

key_from_word : (scheme : Scheme) (t u : Tile) (m : ℕ) → u.level < most_levels scheme → m < 2 ^ 16 → word scheme t m < word scheme u m → is_key_below scheme t u ≡ true
key_from_word scheme t u m low hm h =
    elim (cases_order t.level u.level) [
      | inl same ↦ below_by_index scheme t u same (omega arith)
      | inr (inl lower) ↦ below_by_level scheme t u lower
      | inr (inr higher) ↦ absurd (omega (arith, level_first scheme u t m m low hm higher))
    ]

word_from_key : (scheme : Scheme) (t u : Tile) (m : ℕ) → t.level < most_levels scheme → m < 2 ^ 16 → is_key_below scheme t u ≡ true → word scheme t m < word scheme u m
word_from_key scheme t u m low hm h =
    elim (below_says scheme t u h) [
      | inl lower ↦ level_first scheme t u m m low hm lower
      | inr both ↦ omega (arith, both.0, both.1)
    ]

pub words_are_ordered : (scheme : Scheme) (t u : Tile) → HasWord scheme t → HasWord scheme u → AreOrdered scheme t u
words_are_ordered scheme t u one other = record {
  by_key = λ m hm. (key_from_word scheme t u m other.within hm, word_from_key scheme t u m one.within hm);
  by_level = λ m n hm h. level_first scheme t u m n one.within hm h;
}
