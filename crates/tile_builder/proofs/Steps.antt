-- The files of the roots among some words, one word after another.
use Rattle.std.proofs.Common.{◌≡◌, ℕ, ◌+◌, ◌%◌, ◌<◌, ◌≤◌, true, false, cond, List, [], ◌∷◌, ◌++◌, map, length, take, drop, refl, sym, ap, subst, ◌∙◌, arith, append-nil, length-append, length-take}
use Rattle.std.specs.Prelude.{Option, IsNone, filter, slice_index}
use Rattle.std.proofs.lemmas.Bool.{eq-eqb, ne_eqb}
use Rattle.std.proofs.lemmas.List.{take_more, take_all, map-append, length-map}
use Rattle.std.proofs.lemmas.List.Sums.{length-filter, count_by-le-length}
use Rattle.std.proofs.lemmas.List.Elements.{filter-append}
use Rattle.implicit_tiling.specs.declared.Scheme.{Scheme}
use Rattle.implicit_tiling.specs.Files.{Files, file}
use Rattle.implicit_tiling.specs.Tile.{Tile, IsTile, root}
use Rattle.implicit_tiling.specs.Scene.{Layout}
use Rattle.implicit_tiling.specs.Availability.{local_level, is_subtree_root, IsRootOf}
use Rattle.implicit_tiling.specs.Code.{word_level, word_index, word_tile}
use Rattle.implicit_tileset.specs.Scene.{subtree_name}
use Rattle.tiling_laws.proofs.TileAt.{tile_at_is_tile, tile_at_level}
use Rattle.tiling_laws.proofs.Available.{top_is_root}
use Rattle.scene_ports.specs.Files.{HasDistinctNames}
use Rattle.subtree_write.specs.Canonical.{canonical}
use Rattle.tile_occupancy.specs.Occupied.{tiles_of}
use Rattle.build_laws.specs.Made.{tile_in, made_subtree, made_roots, made_files}
use Rattle.build_laws.specs.Holds.{AreWordsOf}
use Rattle.scene_ports.specs.Keeper.{PutsKnown}
use Rattle.scene_ports.specs.declared.keeper.Put.TheVariants.{Kept}
use Rattle.tile_builder.specs.declared.builder.BuildStop.{BuildStop}
use Rattle.tile_builder.specs.Puts.{ArePut, Stops, IfTold, put_of}
use Rattle.tile_builder.proofs.Putting.{none_before, split_at, told_first, told_more, told_stop}

abbrev pub file_of : Layout → List ℕ → Tile → List ℕ × List ℕ
file_of layout words r = (subtree_name layout r, canonical (made_subtree layout words r))

abbrev pub files_of_words : Layout → List ℕ → List ℕ → Files
files_of_words layout words some = map (file_of layout words) (filter (is_subtree_root layout) (tiles_of layout.scheme some))

-- ---- all files

pub files_append : (layout : Layout) (words xs ys : List ℕ) → files_of_words layout words (xs ++ ys) ≡ files_of_words layout words xs ++ files_of_words layout words ys
files_append layout words xs ys =
    let test = is_subtree_root layout in
    let tile = word_tile layout.scheme in
    ap (λ ts. map (file_of layout words) (filter test ts)) (map-append tile xs ys)
    ∙ ap (map (file_of layout words)) (filter-append test (map tile xs) (map tile ys))
    ∙ map-append (file_of layout words) (filter test (map tile xs)) (filter test (map tile ys))

pub files_are_all : (layout : Layout) (words : List ℕ) → 0 < length words → made_files layout words ≡ files_of_words layout words words
files_are_all layout [] some = absurd (omega (arith, some))
files_are_all layout (w ∷ words) some = refl

pub files_without_words : (layout : Layout) (words : List ℕ) → length words ≡ 0 → made_files layout words ≡ file_of layout words root ∷ []
files_without_words layout [] none = refl
files_without_words layout (w ∷ words) none = absurd (omega (arith, none))

pub roots_without_words : (layout : Layout) (words : List ℕ) → length words ≡ 0 → length (made_roots layout words) ≡ 1
roots_without_words layout [] none = refl
roots_without_words layout (w ∷ words) none = absurd (omega (arith, none))

-- ---- the root at a place among the words

pub record IsRootAt (layout : Layout) (words : List ℕ) (i : ℕ) (t : Tile) : Type 0 where
  pub within : i < length words
  pub tile : t ≡ tile_in layout (slice_index words i)
  pub starts : is_subtree_root layout t ≡ true

pub root_is : (layout : Layout) (words : List ℕ) (i : ℕ) (t : Tile) → AreWordsOf layout words → IsRootAt layout words i t → IsRootOf layout t
root_is layout words i t are at =
    let w = slice_index words i in
    let low = (are.whole.are_words i 0 at.within).low in
    record {
      is_tile = subst (IsTile layout.scheme) (sym at.tile) (tile_at_is_tile layout.scheme (word_level w) (word_index w));
      within = omega (arith, low, ap (λ (u : Tile). u.level) at.tile, tile_at_level layout.scheme (word_level w) (word_index w));
      at_start = at.starts;
    }

-- the root of all is one, also where there are no words
pub top_is : (layout : Layout) (words : List ℕ) → AreWordsOf layout words → IsRootOf layout root
top_is layout words are = record {
  is_tile = tile_at_is_tile layout.scheme 0 0;
  within = let some = are.limits.some_levels in omega (arith, some);
  at_start = top_is_root layout root refl;
}

one_file : (layout : Layout) (words : List ℕ) (w : ℕ) (t : Tile) → t ≡ tile_in layout w → is_subtree_root layout t ≡ true → files_of_words layout words (w ∷ []) ≡ file_of layout words t ∷ []
one_file layout words w t tile starts =
    let u = tile_in layout w in
    ap (λ b. map (file_of layout words) (cond b (u ∷ []) [])) (ap (is_subtree_root layout) (sym tile) ∙ starts) ∙ ap (λ v. file_of layout words v ∷ []) (sym tile)

no_file : (layout : Layout) (words : List ℕ) (w : ℕ) (t : Tile) → t ≡ tile_in layout w → is_subtree_root layout t ≡ false → files_of_words layout words (w ∷ []) ≡ []
no_file layout words w t tile starts =
    let u = tile_in layout w in
    ap (λ b. map (file_of layout words) (cond b (u ∷ []) [])) (ap (is_subtree_root layout) (sym tile) ∙ starts)

pub root_more : (layout : Layout) (words : List ℕ) (i : ℕ) (t : Tile) → IsRootAt layout words i t
    → files_of_words layout words (take (i + 1) words) ≡ files_of_words layout words (take i words) ++ file_of layout words t ∷ []
root_more layout words i t at =
    let w = slice_index words i in
    ap (files_of_words layout words) (take_more words i 0 at.within) ∙ files_append layout words (take i words) (w ∷ [])
    ∙ ap (λ fs. files_of_words layout words (take i words) ++ fs) (one_file layout words w t at.tile at.starts)

pub other_more : (layout : Layout) (words : List ℕ) (i : ℕ) (t : Tile) → i < length words → t ≡ tile_in layout (slice_index words i) → is_subtree_root layout t ≡ false
    → files_of_words layout words (take (i + 1) words) ≡ files_of_words layout words (take i words)
other_more layout words i t within tile starts =
    let w = slice_index words i in
    ap (files_of_words layout words) (take_more words i 0 within) ∙ files_append layout words (take i words) (w ∷ [])
    ∙ ap (λ fs. files_of_words layout words (take i words) ++ fs) (no_file layout words w t tile starts) ∙ append-nil (files_of_words layout words (take i words))

-- its file among all
pub files_at : (layout : Layout) (words : List ℕ) (i : ℕ) (t : Tile) → IsRootAt layout words i t
    → made_files layout words ≡ files_of_words layout words (take i words) ++ file_of layout words t ∷ files_of_words layout words (drop (i + 1) words)
files_at layout words i t at =
    let w = slice_index words i in
    let rest = drop (i + 1) words in
    files_are_all layout words (let low = at.within in omega (arith, low)) ∙ ap (files_of_words layout words) (split_at words i 0 at.within)
    ∙ files_append layout words (take i words) (w ∷ rest)
    ∙ ap (λ fs. files_of_words layout words (take i words) ++ fs)
    (files_append layout words (w ∷ []) rest ∙ ap (λ fs. fs ++ files_of_words layout words rest) (one_file layout words w t at.tile at.starts))

pub name_is_new : (layout : Layout) (words : List ℕ) (i : ℕ) (t : Tile) → IsRootAt layout words i t → HasDistinctNames (made_files layout words)
    → IsNone (file (subtree_name layout t) (files_of_words layout words (take i words)))
name_is_new layout words i t at distinct =
    none_before (files_of_words layout words (take i words)) (file_of layout words t) (files_of_words layout words (drop (i + 1) words))
    (subst HasDistinctNames (files_at layout words i t at) distinct)

-- ---- what the code tests

pub starts_by_level : (layout : Layout) (t : Tile) (level levels : ℕ) → level ≡ t.level → levels ≡ layout.subtree_levels → level % levels ≡ 0 → is_subtree_root layout t ≡ true
starts_by_level layout t level levels same of start = eq-eqb (local_level layout t) 0 (ap (λ n. n % layout.subtree_levels) (sym same) ∙ ap (λ n. level % n) (sym of) ∙ start)

pub goes_on_by_level : (layout : Layout) (t : Tile) (level levels : ℕ) → level ≡ t.level → levels ≡ layout.subtree_levels → (level % levels ≡ 0 → ⊥) → is_subtree_root layout t ≡ false
goes_on_by_level layout t level levels same of inner =
    ne_eqb (local_level layout t) 0 (λ start. inner (ap (λ n. n % levels) same ∙ ap (λ n. t.level % n) of ∙ start))

-- ---- what a keeper tells

pub put_top : (layout : Layout) (words : List ℕ) (t : Tile) (old now : Option Files) → length words ≡ 0 → t ≡ root
    → PutsKnown (subtree_name layout t) (canonical (made_subtree layout words t)) old now Kept → IfTold old now (ArePut (made_files layout words))
put_top layout words t old now none at puts =
    let files : made_files layout words ≡ file_of layout words t ∷ [] = files_without_words layout words none ∙ ap (λ u. file_of layout words u ∷ []) (sym at) in
    subst (λ fs. IfTold old now (ArePut fs)) (sym files) (told_more old old now [] (file_of layout words t) refl (told_first old) puts)

pub stop_at_top : (layout : Layout) (words : List ℕ) (t : Tile) (old now : Option Files) (stop : BuildStop) → length words ≡ 0 → t ≡ root
    → PutsKnown (subtree_name layout t) (canonical (made_subtree layout words t)) old now (put_of stop)
    → IfTold old now (λ before after. Stops (made_files layout words) before after stop)
stop_at_top layout words t old now stop none at puts =
    let files : made_files layout words ≡ file_of layout words t ∷ [] = files_without_words layout words none ∙ ap (λ u. file_of layout words u ∷ []) (sym at) in
    told_stop old old now (made_files layout words) [] (file_of layout words t) [] stop files (told_first old) puts

pub put_root : (layout : Layout) (words : List ℕ) (i : ℕ) (t : Tile) (old mid now : Option Files) → IsRootAt layout words i t → HasDistinctNames (made_files layout words)
    → IfTold old mid (ArePut (files_of_words layout words (take i words))) → PutsKnown (subtree_name layout t) (canonical (made_subtree layout words t)) mid now Kept
    → IfTold old now (ArePut (files_of_words layout words (take (i + 1) words)))
put_root layout words i t old mid now at distinct put puts =
    subst (λ fs. IfTold old now (ArePut fs)) (sym (root_more layout words i t at))
    (told_more old mid now (files_of_words layout words (take i words)) (file_of layout words t) (name_is_new layout words i t at distinct) put puts)

pub stop_at_root : (layout : Layout) (words : List ℕ) (i : ℕ) (t : Tile) (old mid now : Option Files) (stop : BuildStop) → IsRootAt layout words i t
    → IfTold old mid (ArePut (files_of_words layout words (take i words))) → PutsKnown (subtree_name layout t) (canonical (made_subtree layout words t)) mid now (put_of stop)
    → IfTold old now (λ before after. Stops (made_files layout words) before after stop)
stop_at_root layout words i t old mid now stop at put puts =
    told_stop old mid now (made_files layout words) (files_of_words layout words (take i words)) (file_of layout words t) (files_of_words layout words (drop (i + 1) words)) stop
    (files_at layout words i t at) put puts

pub all_files : (layout : Layout) (words : List ℕ) (i : ℕ) → 0 < length words → length words ≤ i → files_of_words layout words (take i words) ≡ made_files layout words
all_files layout words i some end = ap (files_of_words layout words) (take_all i words end) ∙ sym (files_are_all layout words some)

pub few_files : (layout : Layout) (words some : List ℕ) (i : ℕ) → length (files_of_words layout words (take i some)) ≤ i
few_files layout words some i =
    let tiles = tiles_of layout.scheme (take i some) in
    omega (
      arith,
      length-map (filter (is_subtree_root layout) tiles) (file_of layout words),
      length-filter (is_subtree_root layout) tiles,
      count_by-le-length (is_subtree_root layout) tiles,
      length-map (take i some) (word_tile layout.scheme),
      length-take i some,
    )

pub root_by_level : (layout : Layout) (scheme : Scheme) (words : List ℕ) (i : ℕ) (t : Tile) (level levels : ℕ) → i < length words → scheme ≡ layout.scheme
    → t ≡ word_tile scheme (slice_index words i) → level ≡ t.level → levels ≡ layout.subtree_levels → level % levels ≡ 0 → IsRootAt layout words i t
root_by_level layout scheme words i t level levels within same at of_tile of_layout start = record {
  within = within;
  tile = at ∙ ap (λ s. word_tile s (slice_index words i)) same;
  starts = starts_by_level layout t level levels of_tile of_layout start;
}

pub other_by_level : (layout : Layout) (scheme : Scheme) (words : List ℕ) (i : ℕ) (t : Tile) (level levels : ℕ) → i < length words → scheme ≡ layout.scheme
    → t ≡ word_tile scheme (slice_index words i) → level ≡ t.level → levels ≡ layout.subtree_levels → (level % levels ≡ 0 → ⊥)
    → files_of_words layout words (take (i + 1) words) ≡ files_of_words layout words (take i words)
other_by_level layout scheme words i t level levels within same at of_tile of_layout inner =
    other_more layout words i t within (at ∙ ap (λ s. word_tile s (slice_index words i)) same) (goes_on_by_level layout t level levels of_tile of_layout inner)

-- how many files there are
pub count_more : (layout : Layout) (words : List ℕ) (i : ℕ) (t : Tile) (files : ℕ) → IsRootAt layout words i t → files ≡ length (files_of_words layout words (take i words))
    → files + 1 ≡ length (files_of_words layout words (take (i + 1) words))
count_more layout words i t files at count =
    omega (
      arith,
      count,
      ap length (root_more layout words i t at),
      length-append (files_of_words layout words (take i words)) (file_of layout words t ∷ []),
    )

pub count_is : (layout : Layout) (words : List ℕ) (i files : ℕ) → 0 < length words → length words ≤ i → files ≡ length (files_of_words layout words (take i words))
    → files ≡ length (made_roots layout words)
count_is layout words i files some end count =
    count ∙ ap length (all_files layout words i some end) ∙ length-map (made_roots layout words) (file_of layout words)
