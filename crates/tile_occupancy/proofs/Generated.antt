-- What is left of the lines of all points, sorted and each once, is the generated occupancy.
use Rattle.std.proofs.Common.{nat_cmp, ◌≡◌, ℕ, zero, suc, ◌+◌, ◌-◌, ◌^◌, ◌<◌, ◌≤◌, Bool, true, false, eqb, List, [], length, sym, ap, subst, ◌∙◌, arith, lit<, inl, inr}
use Rattle.std.specs.Prelude.{◌%◌, ◌==◌, if◌then◌else◌, slice_index}
use Rattle.std.specs.List.{All, Contains}
use Rattle.std.specs.List.Sorted.{IsPermutation, IsSorted, IsStrictlyIncreasing}
use Rattle.std.specs.List.Retain.{IsFiltered, DiffersFromLast}
use Rattle.std.proofs.Math.Nat.{pow-suc, pow-le-pow_right}
use Rattle.std.proofs.lemmas.Bool.{cases_order}
use Rattle.std.proofs.lemmas.List.{get_or_default}
use Rattle.std.proofs.lemmas.List.Elements.{All-from_get_or, All-weaker}
use Rattle.std.proofs.lemmas.List.Kept.{Contains-dedup_nat}
use Rattle.std.proofs.lemmas.Map.Keys.{IsStrictlyIncreasing-dedup}
use Rattle.std.proofs.lemmas.List.Filters.{All-dedup, dedup_is}
use Rattle.std.proofs.lemmas.List.Sorted.{All-permutation, Contains-permutation}
use Rattle.implicit_tiling.specs.declared.Scheme.{Scheme}
use Rattle.implicit_tiling.specs.Limits.{most_levels, most_contents}
use Rattle.implicit_tiling.specs.Tile.{Tile, IsTile, ancestor, is_key_below}
use Rattle.implicit_tiling.specs.Code.{word, word_tile, IsWord}
use Rattle.tiling_laws.proofs.Order.{below_by_level}
use Rattle.tiling_laws.proofs.Ancestors.{ancestor_is_tile, ancestor_of_ancestor}
use Rattle.tile_word.specs.Words.{word_key, HasWord}
use Rattle.tile_word.proofs.Tiles.{tile_of_word, word_is_word, level_of_word, words_are_ordered}
use Rattle.tile_occupancy.specs.Occupied.{IsWordBelow, IsOccupancy, HasParent, tiles_of}
use Rattle.tile_occupancy.specs.Generated.{point, IsGenerated, generated_mask, generated_word, HasLines, AreGenerated}
use Rattle.tile_occupancy.proofs.Keys.{RiseBefore, by_key, rise_upto, rising_from, places, tile_of_place}
use Rattle.tile_occupancy.proofs.Parents.{parents_from, only_root}
use Rattle.tile_occupancy.proofs.Lines.{IsMade}

-- masks are short
at_most : (b : Bool) (n : ℕ) → (if b then n else 0) ≤ n
at_most true n = omega arith
at_most false n = omega arith

pub mask_below : (c level : ℕ) → generated_mask c level < 2 ^ c
mask_below zero level = lit< tt
mask_below (suc c) level = omega (arith, mask_below c level, at_most (level % suc c == 0) (2 ^ c), pow-suc 2 c)

pub mask_fits : (c level : ℕ) → c ≤ most_contents → generated_mask c level < 2 ^ 16
mask_fits c level few = let most : 2 ^ c ≤ 2 ^ 16 = pow-le-pow_right (lit< tt) few in omega (arith, mask_below c level, most)

-- what the code hands over
pub record Made (scheme : Scheme) (levels contents points number : ℕ) (ws : List ℕ) : Type 0 where
  pub some : 1 ≤ levels
  pub within : levels ≤ most_levels scheme
  pub few : contents ≤ most_contents
  pub points_are_tiles : (k : ℕ) → IsTile scheme (point scheme levels number k)
  pub has : HasLines scheme levels contents points number ws
  pub increase : IsStrictlyIncreasing ws

pub made_of : (scheme : Scheme) (levels contents points number : ℕ) (xs ys zs : List ℕ) → 1 ≤ levels → levels ≤ most_levels scheme → contents ≤ most_contents
    → ((k : ℕ) → IsTile scheme (point scheme levels number k)) → HasLines scheme levels contents points number xs → IsPermutation xs ys → IsSorted nat_cmp ys
    → IsFiltered (DiffersFromLast eqb) [] ys zs → Made scheme levels contents points number zs
made_of scheme levels contents points number xs ys zs some within few tiles has same sorted filtered =
    let is = dedup_is eqb ys zs filtered in
    record {
      some = some;
      within = within;
      few = few;
      points_are_tiles = tiles;
      has = record {
        made = subst (All (IsMade scheme levels contents points number)) (sym is)
            (All-dedup eqb (IsMade scheme levels contents points number) ys (All-permutation (IsMade scheme levels contents points number) xs ys same has.made));
        every = λ k j h inside. subst (λ ws. Contains ws (generated_word scheme contents (ancestor j (point scheme levels number k)))) (sym is)
            (Contains-dedup_nat ys (generated_word scheme contents (ancestor j (point scheme levels number k)))
            (Contains-permutation xs ys (generated_word scheme contents (ancestor j (point scheme levels number k))) same (has.every k j h inside)));
      };
      increase = subst IsStrictlyIncreasing (sym is) (IsStrictlyIncreasing-dedup ys sorted);
    }

-- a generated tile, and its word
record Line (scheme : Scheme) (levels contents w : ℕ) (t : Tile) : Type 0 where
  pub has : HasWord scheme t
  pub below : IsWordBelow scheme levels w
  pub tile : word_tile scheme w ≡ t
  pub word : w ≡ generated_word scheme contents (word_tile scheme w)

line_of : (scheme : Scheme) (levels contents points number k j w : ℕ) (ws : List ℕ) → Made scheme levels contents points number ws → j < levels
    → w ≡ generated_word scheme contents (ancestor j (point scheme levels number k)) → Line scheme levels contents w (ancestor j (point scheme levels number k))
line_of scheme levels contents points number k j w ws made inside at =
    let t = ancestor j (point scheme levels number k) in
    let m = generated_mask contents t.level in
    let hm = mask_fits contents t.level made.few in
    let low : t.level < levels = omega (arith, made.some) in
    let fits : t.level < most_levels scheme = omega (arith, low, made.within) in
    let has : HasWord scheme t = record { is_tile = ancestor_is_tile scheme j (point scheme levels number k) (made.points_are_tiles k); within = fits } in
    let tile : word_tile scheme w ≡ t = ap (word_tile scheme) at ∙ tile_of_word scheme t m has hm in
    record {
      has = has;
      below = subst (IsWordBelow scheme levels) (sym at)
          (record { is_word = word_is_word scheme t m fits hm; low = subst (λ l. l < levels) (sym (level_of_word scheme t m fits hm)) low });
      tile = tile;
      word = at ∙ ap (generated_word scheme contents) (sym tile);
    }

-- of generated words the lower has the lower key
below_from_words : (scheme : Scheme) (contents : ℕ) (t u : Tile) → contents ≤ most_contents → HasWord scheme t → HasWord scheme u
    → generated_word scheme contents t < generated_word scheme contents u → is_key_below scheme t u ≡ true
below_from_words scheme contents t u few one other h =
    elim (cases_order t.level u.level) [
      | inl same ↦ ((words_are_ordered scheme t u one other).by_key (generated_mask contents t.level) (mask_fits contents t.level few)).0
          (subst (λ l. word scheme t (generated_mask contents t.level) < word scheme u (generated_mask contents l)) (sym same) h)
      | inr (inl low) ↦ below_by_level scheme t u low
      | inr (inr high) ↦ absurd (omega (arith, h, (words_are_ordered scheme u t other one).by_level (generated_mask contents u.level) (generated_mask contents t.level) (mask_fits contents u.level few) high))
    ]

record At (scheme : Scheme) (levels contents points number w : ℕ) : Type 0 where
  pub k : ℕ
  pub j : ℕ
  pub point_fits : k < points
  pub inside : j < levels
  pub line : Line scheme levels contents w (ancestor j (point scheme levels number k))

at_place : (scheme : Scheme) (levels contents points number : ℕ) (ws : List ℕ) → Made scheme levels contents points number ws → (i d : ℕ) → i < length ws
    → At scheme levels contents points number (slice_index ws i)
at_place scheme levels contents points number ws made i d h =
    let one = made.has.made i 0 h in
    record {
      k = one.0;
      j = one.1;
      point_fits = one.2;
      inside = one.3;
      line = line_of scheme levels contents points number one.0 one.1 (slice_index ws i) ws made one.3 one.4;
    }

-- the keys rise
step_rises : (scheme : Scheme) (levels contents points number : ℕ) (ws : List ℕ) → Made scheme levels contents points number ws → (i k : ℕ) → i < length ws → k < length ws
    → slice_index ws i < slice_index ws k → word_key (slice_index ws i) < word_key (slice_index ws k)
step_rises scheme levels contents points number ws made i k hi hk h =
    let v = slice_index ws i in
    let w = slice_index ws k in
    let one = (at_place scheme levels contents points number ws made i 0 hi).line in
    let other = (at_place scheme levels contents points number ws made k 0 hk).line in
    let words : generated_word scheme contents (word_tile scheme v) < generated_word scheme contents (word_tile scheme w) =
    subst (λ n. n < generated_word scheme contents (word_tile scheme w)) one.word (subst (λ n. v < n) other.word h) in
    (by_key scheme v w one.below.is_word other.below.is_word).1
    (below_from_words scheme contents (word_tile scheme v) (word_tile scheme w) made.few (subst (HasWord scheme) (sym one.tile) one.has) (subst (HasWord scheme) (sym other.tile) other.has) words)

all_words : (scheme : Scheme) (levels contents points number : ℕ) (ws : List ℕ) → Made scheme levels contents points number ws → All (IsWordBelow scheme levels) ws
all_words scheme levels contents points number ws made =
    All-from_get_or (IsWordBelow scheme levels) ws 0 (λ i h. (at_place scheme levels contents points number ws made i 0 h).line.below)

keys_rise : (scheme : Scheme) (levels contents points number : ℕ) (ws : List ℕ) → Made scheme levels contents points number ws → RiseBefore ws (length ws)
keys_rise scheme levels contents points number ws made =
    rise_upto ws (length ws) (omega arith)
    (λ k some h.
    let back : k - 1 + 1 ≡ k = omega (arith, some) in
    let next : slice_index ws (k - 1) < slice_index ws k = subst (λ n. slice_index ws (k - 1) < slice_index ws n) back (made.increase (k - 1) (omega (arith, back, h))) in
    step_rises scheme levels contents points number ws made (k - 1) k (omega (arith, h)) h next)

-- the tiles are the generated ones
there : (scheme : Scheme) (levels contents points number k j : ℕ) (ws : List ℕ) → Made scheme levels contents points number ws → k < points → j < levels
    → Contains (tiles_of scheme ws) (ancestor j (point scheme levels number k))
there scheme levels contents points number k j ws made h inside =
    let t = ancestor j (point scheme levels number k) in
    let w = generated_word scheme contents t in
    let at = made.has.every k j h inside in
    let within = at.1 in
    let same : slice_index ws at.0 ≡ w = get_or_default ws at.0 0 w within ∙ at.2 in (
      at.0,
      omega (arith, places scheme ws, within),
      tile_of_place scheme ws at.0 0 t within
          ∙ (line_of scheme levels contents points number k j (slice_index ws at.0) ws made inside same).tile,
    )

from_there : (scheme : Scheme) (levels contents points number : ℕ) (ws : List ℕ) (t : Tile) → Made scheme levels contents points number ws → Contains (tiles_of scheme ws) t
    → IsGenerated scheme levels points number t
from_there scheme levels contents points number ws t made at =
    let low = at.1 in
    let within : at.0 < length ws = omega (arith, places scheme ws, low) in
    let one = at_place scheme levels contents points number ws made at.0 0 within in
    (one.k, one.j, one.point_fits, one.inside, sym at.2 ∙ tile_of_place scheme ws at.0 0 t within ∙ one.line.tile)

has_parent : (scheme : Scheme) (levels contents points number k j : ℕ) (ws : List ℕ) → Made scheme levels contents points number ws → k < points → j < levels
    → HasParent (tiles_of scheme ws) (ancestor j (point scheme levels number k))
has_parent scheme levels contents points number k j ws made h inside =
    let p = point scheme levels number k in
    elim (cases_order (j + 1) levels) [
      | inl last ↦ inl (only_root scheme (ancestor j p) (ancestor_is_tile scheme j p (made.points_are_tiles k)) (omega (arith, last)))
      | inr (inl more) ↦ inr (subst (Contains (tiles_of scheme ws)) (sym (ancestor_of_ancestor 1 j p)) (there scheme levels contents points number k (j + 1) ws made h more))
      | inr (inr past) ↦ absurd (omega (arith, past, inside))
    ]

pub whole : (scheme : Scheme) (levels contents points number : ℕ) (ws : List ℕ) → Made scheme levels contents points number ws → IsOccupancy scheme levels ws
whole scheme levels contents points number ws made =
    let words = all_words scheme levels contents points number ws made in
    record {
      are_words = words;
      rise = rising_from scheme ws (All-weaker (IsWordBelow scheme levels) (IsWord scheme) (λ w one. one.is_word) ws words) (keys_rise scheme levels contents points number ws made);
      have_parents = parents_from scheme ws
          (λ i h.
          let one = at_place scheme levels contents points number ws made i 0 h in
          subst (HasParent (tiles_of scheme ws)) (sym one.line.tile) (has_parent scheme levels contents points number one.k one.j ws made one.point_fits one.inside));
    }

pub generated : (scheme : Scheme) (levels contents points number : ℕ) (ws : List ℕ) → Made scheme levels contents points number ws → AreGenerated scheme levels contents points number ws
generated scheme levels contents points number ws made = record {
  tiles = λ t. (
    from_there scheme levels contents points number ws t made,
    λ one. subst (Contains (tiles_of scheme ws)) (sym one.4) (there scheme levels contents points number one.0 one.1 ws made one.2 one.3),
  );
  masks = All-from_get_or (λ w. w ≡ generated_word scheme contents (word_tile scheme w)) ws 0 (λ i h. (at_place scheme levels contents points number ws made i 0 h).line.word);
}
