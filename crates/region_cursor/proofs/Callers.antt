-- What a caller has to know of a walk and of the subtrees that it reads.
use Rattle.std.proofs.Common.{◌≡◌, ℕ, ◌%◌, ◌≤◌, List, Option, Some, refl, sym, ap, subst, ◌∙◌, arith}
use Rattle.std.specs.List.{All}
use Rattle.std.proofs.lemmas.Option.{get_or_from_slice_get}
use Rattle.std.proofs.lemmas.Bool.{eq-eqb}
use Rattle.implicit_tiling.specs.declared.Scheme.{Scheme}
use Rattle.implicit_tiling.specs.Tile.{Tile}
use Rattle.implicit_tiling.specs.Region.{Region}
use Rattle.implicit_tiling.specs.Scene.{Layout}
use Rattle.implicit_tiling.specs.Subtree.{Subtree, IsOf}
use Rattle.implicit_tiling.specs.Limits.{most_subtree_fault}
use Rattle.implicit_tiling.specs.Code.{word, word_tile, word_level, IsWord}
use Rattle.tile_coords.specs.declared.walk_end.WalkEnd.{WalkEnd}
use Rattle.tile_coords.specs.declared.walk_end.WalkEnd.TheVariants.{Partial, Complete, TooMany, Fault}
use Rattle.tile_word.specs.Roots.{IsRootWord}
use Rattle.tile_word.proofs.Tiles.{parts_have_their_word, word_tile_level, word_tile_is_tile}
use Rattle.region_cursor.specs.Cursor.{Cursor, IsWalkOf, IsSameWalk, IsRootKey, FitsSubtree, Fits, EndsAtKey, cursor_key, next_root, root_level_of}
use Rattle.implicit_tiling.specs.Availability.{local_level, IsRootOf}
use Rattle.subtree_outcome.specs.Outcomes.{IsOutcomeAt}
use Rattle.subtree_outcome.specs.Found.{IsTileWord, AreTileWords, IsFaultOf, EndsWithin}
use Rattle.subtree_outcome.specs.declared.outcome.Outcome.{Outcome}
use Rattle.subtree_outcome.specs.declared.outcome.Outcome.TheVariants.{Good, Bad}

-- a walk stays one of its layout
pub walk_stays : (layout : Layout) (region : Region) (old new : Cursor) → IsWalkOf layout region old → IsSameWalk old new → IsWalkOf layout region new
walk_stays layout region old new is same = record {
  same_scheme = same.same_scheme ∙ is.same_scheme;
  same_subtree_levels = same.same_subtree_levels ∙ is.same_subtree_levels;
  same_levels = same.same_levels ∙ is.same_levels;
  same_contents = same.same_contents ∙ is.same_contents;
  same_region = same.same_region ∙ is.same_region;
  some_levels = is.some_levels;
  few_levels = is.few_levels;
}

-- the tile of the next key is the next root
pub next_root_of_key : (c : Cursor) (key : ℕ) → cursor_key c ≡ Some key → next_root c ≡ word_tile c.scheme key
next_root_of_key c key at = ap (word_tile c.scheme) (get_or_from_slice_get c.roots c.position key 0 at)

-- a subtree of the layout that begins with the next root fits the step
subtree_fits : (layout : Layout) (region : Region) (c : Cursor) (key : ℕ) (st : Subtree) → IsWalkOf layout region c → cursor_key c ≡ Some key → IsRootKey c key
    → IsOf layout st → st.root ≡ word_tile c.scheme key → FitsSubtree c st
subtree_fits layout region c key st is at root of begins =
    let scheme = of.same_scheme ∙ sym is.same_scheme in
    let parts = (parts_have_their_word c.scheme key root.root.is_word).word in
    record {
      same_scheme = scheme;
      same_levels = of.same_levels ∙ sym is.same_subtree_levels;
      same_cut = of.same_cut ∙ sym is.same_levels;
      contents_named = omega (arith, of.contents_named, is.same_contents);
      root_at_start = ap (λ n. st.root.level % n) is.same_subtree_levels ∙ of.root_at_start;
      key = at ∙ ap {B = Option ℕ} (λ w. Some w) (sym
          (ap (λ (e : Scheme). word e st.root 0) scheme ∙ ap (λ (t : Tile). word c.scheme t 0) begins
          ∙ ap (word c.scheme (word_tile c.scheme key)) (sym root.root.no_contents) ∙ parts));
    }

-- and so does what is read of any source
pub outcome_fits : (layout : Layout) (region : Region) (c : Cursor) (key : ℕ) (found : Outcome) → IsWalkOf layout region c → cursor_key c ≡ Some key → IsRootKey c key
    → IsOutcomeAt layout (word_tile layout.scheme key) found → Fits c found
outcome_fits layout region c key (Good st) is at root found =
    subtree_fits layout region c key st is at root found.of_layout (found.at_root ∙ ap (λ (e : Scheme). word_tile e key) (sym is.same_scheme))
outcome_fits layout region c key (Bad n) is at root found = tt

-- the words of a step, by the layout
pub words_of_the_layout : (layout : Layout) (region : Region) (c : Cursor) (words : List ℕ) → IsWalkOf layout region c → All (IsTileWord c.scheme c.levels c.contents) words
    → AreTileWords layout words
words_of_the_layout layout region c words is are =
    let a = subst (λ (e : Scheme). All (IsTileWord e c.levels c.contents) words) is.same_scheme are in
    let b = subst (λ n. All (IsTileWord layout.scheme n c.contents) words) is.same_levels a in
    subst (λ n. All (IsTileWord layout.scheme layout.levels n) words) is.same_contents b

-- the key of the next step is one of the layout's
pub key_is : (layout : Layout) (region : Region) (c : Cursor) (key : ℕ) → IsWalkOf layout region c → IsRootKey c key → IsRootWord layout (word_level key) key
key_is layout region c key of_layout root = record {
  is_word = subst (λ (e : Scheme). IsWord e key) of_layout.same_scheme root.root.is_word;
  no_mask = root.root.no_contents;
  at_level = refl;
  below = omega (arith, root.root.at_level, root.below, of_layout.same_levels);
  at_start = subst (λ n. word_level key % n ≡ 0) of_layout.same_subtree_levels (ap (λ l. l % c.subtree_levels) root.root.at_level ∙ root.at_start);
}

-- the fault of what is read
fault_of_read : (layout : Layout) (region : Region) (c : Cursor) (root : Tile) (found : Outcome) (w n : ℕ) → IsWalkOf layout region c → IsOutcomeAt layout root found
    → IsRootKey c w → found ≡ Bad n → IsFaultOf layout w n
fault_of_read layout region c root found w n is read key same =
    let own : (1 ≤ n) × (n ≤ most_subtree_fault) = subst (IsOutcomeAt layout root) same read in
    record { root = key_is layout region c w is key; some = own.0; most = own.1 }

pub ends_within : (layout : Layout) (region : Region) (c : Cursor) (root : Tile) (found : Outcome) (end : WalkEnd) → IsWalkOf layout region c → IsOutcomeAt layout root found
    → EndsAtKey c found end → EndsWithin layout end
ends_within layout region c root found Partial is read ends = tt
ends_within layout region c root found Complete is read ends = tt
ends_within layout region c root found TooMany is read ends = tt
ends_within layout region c root found (Fault w n) is read ends = fault_of_read layout region c root found w n is read ends.0 ends.1

-- the tile of a next key
pub key_is_of_a_root_tile : (layout : Layout) (region : Region) (c : Cursor) (key : ℕ) → IsWalkOf layout region c → IsRootKey c key → IsRootOf layout (word_tile layout.scheme key)
key_is_of_a_root_tile layout region c key is root =
    let level = word_tile_level layout.scheme key in
    let own : (word_tile layout.scheme key).level ≡ root_level_of c = omega (arith, level, root.root.at_level) in
    record {
      is_tile = word_tile_is_tile layout.scheme key;
      within = omega (arith, own, root.below, is.same_levels);
      at_start = eq-eqb (local_level layout (word_tile layout.scheme key)) 0
          (ap (λ l. l % layout.subtree_levels) own ∙ sym (ap (λ n. root_level_of c % n) is.same_subtree_levels) ∙ root.at_start);
    }
