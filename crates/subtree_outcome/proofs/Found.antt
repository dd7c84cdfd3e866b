-- Words and ends that are found, by what is known of them.
use Rattle.std.proofs.Common.{◌≡◌, ℕ, ◌+◌, ◌^◌, ◌<◌, ◌≤◌, ◌++◌, List, get_or, length, subst, sym, ap, arith, length-append}
use Rattle.std.specs.List.{All}
use Rattle.std.proofs.Math.Pow.{pow_mono}
use Rattle.std.proofs.lemmas.List.Elements.{All-append, All-weaker}
use Rattle.implicit_tiling.specs.declared.Scheme.{Scheme}
use Rattle.implicit_tiling.specs.Scene.{Layout}
use Rattle.implicit_tiling.specs.Answer.{most_tiles}
use Rattle.implicit_tiling.specs.Code.{word_level, word_mask, IsWord}
use Rattle.tile_coords.specs.Ends.{EndsAtRoot}
use Rattle.tile_coords.specs.declared.walk_end.WalkEnd.{WalkEnd}
use Rattle.tile_coords.specs.declared.walk_end.WalkEnd.TheVariants.{Partial, Complete, TooMany, Fault}
use Rattle.subtree_outcome.specs.Found.{IsTileWord, AreTileWords, AreTilesOf, EndsWithin}

-- a word of a subtree's tile, by the numbers of its layout
pub tile_word_is : (own scheme : Scheme) (cut levels few many w : ℕ) → own ≡ scheme → cut ≡ levels → few ≤ many → IsWord own w → word_level w < cut → word_mask w < 2 ^ few
    → IsTileWord scheme levels many w
tile_word_is own scheme cut levels few many w same last le is low mask = record {
  is_word = subst (λ (e : Scheme). IsWord e w) same is;
  below = omega (arith, low, last);
  of_contents = omega (arith, mask, pow_mono {i = few} {j = many} le);
}

-- more words behind some
pub tiles_more : (layout : Layout) (words more all : List ℕ) → AreTilesOf layout words → AreTileWords layout more → length words + length more ≤ most_tiles → all ≡ words ++ more
    → AreTilesOf layout all
tiles_more layout words more all found are few is = record {
  are_words = subst (AreTileWords layout) (sym is) (All-append (IsTileWord layout.scheme layout.levels (length layout.contents)) words more found.are_words are);
  few = omega (arith, few, ap (length {A = ℕ}) is, length-append words more);
}

pub are_words : (layout : Layout) (words : List ℕ) → AreTileWords layout words → All (IsWord layout.scheme) words
are_words layout words are = All-weaker (IsTileWord layout.scheme layout.levels (length layout.contents)) (IsWord layout.scheme) (λ w is. is.is_word) words are

-- the root of an end is a word with mask 0
pub ends_at_root : (layout : Layout) (end : WalkEnd) → EndsWithin layout end → EndsAtRoot layout.scheme end
ends_at_root layout Partial is = tt
ends_at_root layout Complete is = tt
ends_at_root layout TooMany is = tt
ends_at_root layout (Fault root number) is = (is.root.is_word, is.root.no_mask)
