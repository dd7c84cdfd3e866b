-- The laws on the worked words: their premises are met, and the answer for all tiles is the four tiles.
use Rattle.std.proofs.Common.{◌≡◌, ◌^◌, ◌<◌, true, [], ◌∷◌, refl, lit<, lit≤, arith, inl, inr}
use Rattle.std.specs.Prelude.{Some}
use Rattle.std.specs.Fmt.{digits}
use Rattle.std.proofs.lemmas.List.Elements.{All-nil, All-from_recursion}
use Rattle.std.proofs.lemmas.List.Kept.{AllPairs-cons}
use Rattle.implicit_tiling.specs.declared.Scheme.TheVariants.{Quad}
use Rattle.implicit_tiling.specs.Files.{file}
use Rattle.implicit_tiling.specs.Tile.{Tile, root, is_key_below}
use Rattle.implicit_tiling.specs.Code.{word_tile, word_mask}
use Rattle.implicit_tiling.specs.Answer.{complete, answer}
use Rattle.implicit_tileset.specs.Scene.{subtree_name, scene_of}
use Rattle.walk_laws.specs.Regions.{whole}
use Rattle.subtree_write.specs.Canonical.{canonical}
use Rattle.tile_occupancy.specs.Occupied.{IsWordBelow, AreWordsBelow, KeysRise, HasParent, HaveParents, tiles_of}
use Rattle.build_laws.specs.Made.{made_subtree, made_roots, made_files}
use Rattle.build_laws.specs.Holds.{AreWordsOf, HaveMadeFiles}
use Rattle.build_laws.proofs.Rows.{quad, words, root_word, inner_word, first_word, last_word, inner, first, last}
use Rattle.build_laws.proofs.Holds.{made_files_hold_the_tiles}
use Rattle.build_laws.proofs.Answer.{all_tiles_are_the_answer}

root_is : IsWordBelow Quad 3 root_word
unfolding root_word
root_is = record { is_word = record { level_fits = lit< tt; index_fits = lit< tt }; low = lit< tt }

inner_is : IsWordBelow Quad 3 inner_word
unfolding inner_word
inner_is = record { is_word = record { level_fits = lit< tt; index_fits = lit< tt }; low = lit< tt }

first_is : IsWordBelow Quad 3 first_word
unfolding first_word
first_is = record { is_word = record { level_fits = lit< tt; index_fits = lit< tt }; low = lit< tt }

last_is : IsWordBelow Quad 3 last_word
unfolding last_word
last_is = record { is_word = record { level_fits = lit< tt; index_fits = lit< tt }; low = lit< tt }

are_words : AreWordsBelow Quad 3 words
unfolding words
are_words = All-from_recursion (IsWordBelow Quad 3) (root_word ∷ inner_word ∷ first_word ∷ last_word ∷ []) (root_is, (inner_is, (first_is, (last_is, tt))))

rise : KeysRise Quad words
unfolding words root_word inner_word first_word last_word
rise =
    let R : Tile → Tile → Type 0 = λ t u. is_key_below Quad t u ≡ true in
    let one = word_tile Quad root_word in
    let two = word_tile Quad inner_word in
    let three = word_tile Quad first_word in
    let four = word_tile Quad last_word in
    AllPairs-cons R one (two ∷ three ∷ four ∷ []) (All-from_recursion (R one) (two ∷ three ∷ four ∷ []) (refl, (refl, (refl, tt))))
    (AllPairs-cons R two (three ∷ four ∷ []) (All-from_recursion (R two) (three ∷ four ∷ []) (refl, (refl, tt)))
    (AllPairs-cons R three (four ∷ []) (All-from_recursion (R three) (four ∷ []) (refl, tt))
    (AllPairs-cons R four [] (All-nil (R four)) (λ i j d low within. absurd (omega (arith, within))))))

have_parents : HaveParents Quad words
unfolding words root_word inner_word first_word last_word
have_parents =
    All-from_recursion (HasParent (tiles_of Quad words)) (tiles_of Quad words)
    (inl refl, (inr (0, lit< tt, refl), (inr (1, lit< tt, refl), (inr (1, lit< tt, refl), tt))))

words_of_the_layout : AreWordsOf quad words
unfolding quad words root_word inner_word first_word last_word
words_of_the_layout = record {
  limits = record { some_subtree_levels = lit≤ tt; few_subtree_levels = lit≤ tt; some_levels = lit≤ tt; few_levels = lit≤ tt; few_contents = lit≤ tt };
  whole = record { are_words = are_words; rise = rise; have_parents = have_parents };
  masks = All-from_recursion (λ w. word_mask w < 2 ^ 1) words (lit< tt, (lit< tt, (lit< tt, (lit< tt, tt))));
}

-- of these files each stands under a name of its own
files_stand : HaveMadeFiles quad words (made_files quad words)
unfolding digits quad words root_word inner_word first_word last_word
files_stand =
    All-from_recursion (λ r. file (subtree_name quad r) (made_files quad words) ≡ Some (canonical (made_subtree quad words r))) (made_roots quad words)
    (refl, (refl, (refl, tt)))

four_tiles : answer (scene_of (made_files quad words) quad) (whole Quad 3) ≡ record { tiles = root ∷ inner ∷ first ∷ last ∷ []; end = complete }
unfolding quad words root_word inner_word first_word last_word inner first last
four_tiles =
    let files = made_files quad words in
    all_tiles_are_the_answer (scene_of files quad) words words_of_the_layout.whole (made_files_hold_the_tiles quad words files words_of_the_layout files_stand)
