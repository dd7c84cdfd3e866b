-- A walk gives each tile once, whatever it reads.
use Rattle.std.proofs.Common.{◌≡◌, ◌≢◌, ℕ, ◌+◌, ◌^◌, ◌<◌, ◌≤◌, Bool, true, false, List, [], ◌∷◌, ◌++◌, length, take, map, get_or, All, Contains, AllPairs, Some, refl, sym, ap, subst, ◌∙◌, arith, length-append}
use Rattle.std.specs.Prelude.{nat_lt, ◌==◌}
use Rattle.std.proofs.lemmas.Bool.{false≢true}
use Rattle.std.proofs.lemmas.List.{length-map, length-take, get_or-map, get_or-take, map-append, take_more}
use Rattle.std.proofs.lemmas.List.Elements.{All-nil, All-append, All-map, All-take, Contains-append_left, Contains-append_right}
use Rattle.std.proofs.lemmas.Option.{slice_get_within, get_or_from_slice_get}
use Rattle.implicit_tiling.specs.declared.Scheme.{Scheme}
use Rattle.implicit_tiling.specs.Tile.{Tile, ancestor, is_key_below}
use Rattle.implicit_tiling.specs.Region.{Region, is_in}
use Rattle.implicit_tiling.specs.Subtree.{Subtree, IsSubtree}
use Rattle.implicit_tiling.specs.Scene.{Layout}
use Rattle.implicit_tiling.specs.Code.{word, word_tile, word_level}
use Rattle.implicit_tiling.specs.Nodes.{level_words, child_words}
use Rattle.tiling_laws.proofs.Order.{all_pairs_append}
use Rattle.tiling_laws.proofs.Rising.{keys_are_strict, contains_first}
use Rattle.tile_word.specs.Words.{HasWord}
use Rattle.tile_word.proofs.Tiles.{level_of_word, tile_of_word, word_tile_level}
use Rattle.walk_laws.proofs.Segments.{local_low}
use Rattle.region_scan.specs.NodeLaws.{IsNodeWord, RiseInKeyOrder}
use Rattle.region_scan.proofs.NodeWords.{found_words_are_words, found_words_rise}
use Rattle.subtree_outcome.specs.declared.outcome.Outcome.{Outcome}
use Rattle.subtree_outcome.specs.declared.outcome.Outcome.TheVariants.{Good, Bad}
use Rattle.region_cursor.specs.Cursor.{Cursor, Fits, FitsSubtree, IsRootKey, cursor_key, local_level_of, is_last_local}
use Rattle.region_cursor.specs.Moves.{begun, over, level_after, pair_after, moved_on, room, children_if, counted, with_children, made_by, made}
use Rattle.walk_course.specs.Spread.{tiles_of, IsOnce, HasDone, IsSpread, IsLimited}

-- what is found below a root: tiles of one level that are in the region, each once
record Found (region : Region) (r : Tile) (l level : ℕ) (tiles : List Tile) : Type 0 where
  pub once : IsOnce tiles
  pub in_region : All (λ t. is_in region t ≡ true) tiles
  pub at_level : All (λ t. t.level ≡ level) tiles
  pub above : All (λ t. ancestor l t ≡ r) tiles

pairs_take : {X : Type 0} (R : X → X → Type 0) (n : ℕ) (xs : List X) → AllPairs R xs → AllPairs R (take n xs)
pairs_take R n xs pairs = λ i j d low high.
    let within : j < n = omega (arith, high, length-take n xs) in
    let inside : j < length xs = omega (arith, high, length-take n xs) in
    subst (λ x. R x (get_or (take n xs) j d)) (sym (get_or-take n xs i d (omega (arith, low, within))))
    (subst (λ y. R (get_or xs i d) y) (sym (get_or-take n xs j d within)) (pairs i j d low inside))

found_in : (st : Subtree) (region : Region) (l masks : ℕ) (words : List ℕ) → All (IsNodeWord st region l masks) words → RiseInKeyOrder st words
    → Found region st.root l (st.root.level + l) (map (word_tile st.scheme) words)
found_in st region l masks words are rise =
    let f = word_tile st.scheme in
    record {
      once = λ i j d low high same.
          let last : j < length words = omega (arith, high, length-map words f) in
          let first : i < length words = omega (arith, low, last) in
          let rises : is_key_below st.scheme (f (get_or words i 0)) (f (get_or words j 0)) ≡ true = rise i j 0 low last in
          let here : f (get_or words j 0) ≡ f (get_or words i 0) = sym (get_or-map f words j 0 d last) ∙ sym same ∙ get_or-map f words i 0 d first in
          (keys_are_strict st.scheme).irreflexive (f (get_or words i 0)) (subst (λ t. is_key_below st.scheme (f (get_or words i 0)) t ≡ true) here rises);
      in_region = All-map (λ t. is_in region t ≡ true) f words (λ k d low. (are k d low).in_region);
      at_level = All-map (λ t. t.level ≡ st.root.level + l) f words (λ k d low. word_tile_level st.scheme (get_or words k d) ∙ (are k d low).level);
      above = All-map (λ t. ancestor l t ≡ st.root) f words (λ k d low. (are k d low).above);
    }

found_tiles : (st : Subtree) (region : Region) (l n : ℕ) → IsSubtree st → Found region st.root l (st.root.level + l) (map (word_tile st.scheme) (take n (level_words st region l)))
found_tiles st region l n limits =
    let words = level_words st region l in
    let masks = 2 ^ length st.contents in
    found_in st region l masks (take n words) (All-take (IsNodeWord st region l masks) n words ((found_words_are_words st region limits).tiles l))
    (pairs_take (λ v w. is_key_below st.scheme (word_tile st.scheme v) (word_tile st.scheme w) ≡ true) n words ((found_words_rise st region limits).tiles l))

found_children : (st : Subtree) (region : Region) → IsSubtree st → Found region st.root st.levels (st.root.level + st.levels) (map (word_tile st.scheme) (child_words st region))
found_children st region limits =
    found_in st region st.levels 1 (child_words st region) (found_words_are_words st region limits).children (found_words_rise st region limits).children

-- the root at hand is not among those that are done
not_done : (roots : List Tile) (position : ℕ) (r : Tile) → IsOnce roots → position < length roots → get_or roots position r ≡ r → Contains (take position roots) r → ⊥
not_done roots position r once low at there =
    let before : there.0 < position = omega (arith, there.1, length-take position roots) in
    once there.0 position r before low (sym (get_or-take position roots there.0 r before) ∙ there.2 ∙ sym at)

-- so what is found below it isn't there yet
joined : (region : Region) (roots given new : List Tile) (position l level : ℕ) (r : Tile) → IsOnce roots → position < length roots → get_or roots position r ≡ r → IsOnce given
    → All (λ t. t.level ≡ level → Contains (take position roots) (ancestor l t)) given → Found region r l level new → IsOnce (given ++ new)
joined region roots given new position l level r apart low at once below found =
    all_pairs_append (λ t u. t ≢ u) given new once found.once
    (λ i d before j e behind same.
    let here : ancestor l (get_or given i d) ≡ r = ap (ancestor l) same ∙ found.above j e behind in
    let there = below i d before (ap (λ (t : Tile). t.level) same ∙ found.at_level j e behind) in
    not_done roots position r apart low at (subst (Contains (take position roots)) here there))

-- the root at hand is done with the step
one_more_done : (roots : List Tile) (position : ℕ) (r : Tile) → position < length roots → get_or roots position r ≡ r → Contains (take (position + 1) roots) r
one_more_done roots position r low at =
    let more = take_more roots position r low in
    subst (λ xs. Contains xs r) (sym (more ∙ ap (λ x. take position roots ++ x ∷ []) at)) (Contains-append_right (take position roots) (r ∷ []) r (contains_first r []))

still_done : (roots : List Tile) (position : ℕ) (t r : Tile) → position < length roots → Contains (take position roots) t → Contains (take (position + 1) roots) t
still_done roots position t r low there =
    subst (λ xs. Contains xs t) (sym (take_more roots position r low)) (Contains-append_left (take position roots) (get_or roots position r ∷ []) t there)

-- a walk that has made a step and not yet moved on
record HasMade (c : Cursor) (given : List Tile) : Type 0 where
  pub count : length given ≡ c.count
  pub in_region : All (λ t. is_in c.region t ≡ true) given
  pub once : IsOnce given
  pub roots : IsOnce (tiles_of c c.roots)
  pub next_roots : IsOnce (tiles_of c c.next_roots)
  pub no_deeper : All (λ t. t.level ≤ c.level) given
  pub below : All (λ t. t.level ≡ c.level → Contains (take (c.position + 1) (tiles_of c c.roots)) (ancestor (local_level_of c) t)) given
  pub next_below : All (λ t. Contains (take (c.position + 1) (tiles_of c c.roots)) (ancestor c.subtree_levels t)) (tiles_of c c.next_roots)
  pub none_yet : is_last_local c ≡ false → c.next_roots ≡ []

no_key : (c : Cursor) (key : ℕ) → cursor_key (over c) ≡ Some key → ⊥
no_key c key at = cc

spread_over : (c : Cursor) (given : List Tile) → length given ≡ c.count → All (λ t. is_in c.region t ≡ true) given → IsOnce given → IsSpread (over c)
spread_over c given count in_region once = record { given = given; count = count; in_region = in_region; once = once; going = λ key at. absurd (no_key c key at) }

nothing_twice : IsOnce []
nothing_twice = λ i j d low high. absurd (omega (arith, high))

deeper : (c : Cursor) (given : List Tile) → All (λ t. t.level ≤ c.level) given → All (λ t. t.level ≤ c.level + 1) given
deeper c given are = λ k d low. omega (arith, are k d low)

none_deeper : (c : Cursor) (given : List Tile) (P : Tile → Type 0) → All (λ t. t.level ≤ c.level) given → All (λ t. t.level ≡ c.level + 1 → P t) given
none_deeper c given P are = λ k d low level. absurd (omega (arith, are k d low, level))

spread_down : (c : Cursor) (given : List Tile) (at_end last : Bool) → is_last_local c ≡ last → HasMade c given → IsSpread (level_after at_end last c)
spread_down c given true last is h = spread_over c given h.count h.in_region h.once
spread_down c given false true is h = record {
  given = given;
  count = h.count;
  in_region = h.in_region;
  once = h.once;
  going = λ key at. record {
    roots = h.next_roots;
    next_roots = nothing_twice;
    no_deeper = deeper c given h.no_deeper;
    below = none_deeper c given (λ t. Contains (take 0 (tiles_of c c.next_roots)) (ancestor (local_level_of (level_after false true c)) t)) h.no_deeper;
    next_below = All-nil (λ t. Contains (take 0 (tiles_of c c.next_roots)) (ancestor c.subtree_levels t));
    none_yet = λ inner. refl;
  };
}
spread_down c given false false is h = record {
  given = given;
  count = h.count;
  in_region = h.in_region;
  once = h.once;
  going = λ key at. record {
    roots = h.roots;
    next_roots = h.next_roots;
    no_deeper = deeper c given h.no_deeper;
    below = none_deeper c given (λ t. Contains (take 0 (tiles_of c c.roots)) (ancestor (local_level_of (level_after false false c)) t)) h.no_deeper;
    next_below = subst (λ (words : List ℕ). All (λ t. Contains (take 0 (tiles_of c c.roots)) (ancestor c.subtree_levels t)) (tiles_of c words)) (sym (h.none_yet is))
        (All-nil (λ t. Contains (take 0 (tiles_of c c.roots)) (ancestor c.subtree_levels t)));
    none_yet = λ inner. h.none_yet is;
  };
}

spread_on : (c : Cursor) (given : List Tile) (more : Bool) → HasMade c given → IsSpread (pair_after more c)
spread_on c given true h = record {
  given = given;
  count = h.count;
  in_region = h.in_region;
  once = h.once;
  going = λ key at. record {
    roots = h.roots;
    next_roots = h.next_roots;
    no_deeper = h.no_deeper;
    below = h.below;
    next_below = h.next_below;
    none_yet = h.none_yet;
  };
}
spread_on c given false h = spread_down c given (c.level == c.region.level) (is_last_local c) refl h

spread_moved_on : (c : Cursor) (given : List Tile) → HasMade c given → IsSpread (moved_on c)
spread_moved_on c given h = spread_on c given (nat_lt (c.position + 1) (length c.roots)) h

-- the root of a subtree that fits, and the level of what is found in it
record AtRoot (c : Cursor) (st : Subtree) : Type 0 where
  pub low : c.position < length (tiles_of c c.roots)
  pub at : get_or (tiles_of c c.roots) c.position st.root ≡ st.root
  pub level : st.root.level + local_level_of c ≡ c.level

at_root : (c : Cursor) (st : Subtree) (key : ℕ) → cursor_key c ≡ Some key → IsRootKey c key → FitsSubtree c st → IsSubtree st → AtRoot c st
at_root c st key here root fits limits =
    let short : 0 < 2 ^ 16 = omega arith in
    let own = word st.scheme st.root 0 in
    let within = slice_get_within c.roots c.position own fits.key in
    let is_key : key ≡ own = sym (get_or_from_slice_get c.roots c.position key 0 here) ∙ get_or_from_slice_get c.roots c.position own 0 fits.key in
    let has : HasWord st.scheme st.root = record { is_tile = limits.root_is_tile; within = omega (arith, limits.root_below_cut, limits.few_levels_in_all) } in
    let level = level_of_word st.scheme st.root 0 (omega (arith, limits.root_below_cut, limits.few_levels_in_all)) short in
    record {
      low = omega (arith, within, length-map c.roots (word_tile c.scheme));
      at = get_or-map (word_tile c.scheme) c.roots c.position 0 st.root within
          ∙ ap (word_tile c.scheme) (get_or_from_slice_get c.roots c.position own 0 fits.key)
          ∙ ap (λ (e : Scheme). word_tile e own) (sym fits.same_scheme) ∙ tile_of_word st.scheme st.root 0 has short;
      level = omega (arith, level, ap word_level is_key, root.root.at_level, local_low c.level c.subtree_levels);
    }

-- the words of one scheme are those of the other
as_cursor : (c : Cursor) (st : Subtree) (words : List ℕ) (region : Region) (r : Tile) (l level : ℕ) → st.scheme ≡ c.scheme → Found region r l level (map (word_tile st.scheme) words)
    → Found region r l level (tiles_of c words)
as_cursor c st words region r l level same found = subst (λ (e : Scheme). Found region r l level (map (word_tile e) words)) same found

-- the roots below, with those of the subtree
record HasNext (c : Cursor) (next : List ℕ) : Type 0 where
  pub once : IsOnce (tiles_of c next)
  pub below : All (λ t. Contains (take (c.position + 1) (tiles_of c c.roots)) (ancestor c.subtree_levels t)) (tiles_of c next)
  pub none_yet : is_last_local c ≡ false → next ≡ []

next_by : (c : Cursor) (given : List Tile) (st : Subtree) (last : Bool) → is_last_local c ≡ last → HasDone c given → AtRoot c st → FitsSubtree c st → IsSubtree st
    → HasNext c (children_if last c.next_roots (child_words st c.region))
next_by c given st false is done root fits limits = record {
  once = done.next_roots;
  below = λ k d low. still_done (tiles_of c c.roots) c.position (ancestor c.subtree_levels (get_or (tiles_of c c.next_roots) k d)) st.root root.low (done.next_below k d low);
  none_yet = done.none_yet;
}
next_by c given st true is done root fits limits =
    let f = word_tile c.scheme in
    let children = child_words st c.region in
    let P : Tile → Type 0 = λ t. Contains (take (c.position + 1) (tiles_of c c.roots)) (ancestor c.subtree_levels t) in
    let found = subst (λ l. Found c.region st.root l (st.root.level + st.levels) (tiles_of c children)) fits.same_levels
    (as_cursor c st children c.region st.root st.levels (st.root.level + st.levels) fits.same_scheme (found_children st c.region limits)) in
    record {
      once = subst IsOnce (sym (map-append f c.next_roots children))
          (joined c.region (tiles_of c c.roots) (tiles_of c c.next_roots) (tiles_of c children) c.position c.subtree_levels (st.root.level + st.levels) st.root done.roots root.low root.at
          done.next_roots (λ k d low level. done.next_below k d low) found);
      below = subst (All P) (sym (map-append f c.next_roots children))
          (All-append P (tiles_of c c.next_roots) (tiles_of c children)
          (λ k d low. still_done (tiles_of c c.roots) c.position (ancestor c.subtree_levels (get_or (tiles_of c c.next_roots) k d)) st.root root.low (done.next_below k d low))
          (λ k d low. subst (Contains (take (c.position + 1) (tiles_of c c.roots))) (sym (found.above k d low)) (one_more_done (tiles_of c c.roots) c.position st.root root.low root.at)));
      none_yet = λ inner. absurd (false≢true (sym inner ∙ is));
    }

-- a step of a subtree
module _ (c : Cursor) (st : Subtree) (spread : IsSpread c) (done : HasDone c spread.given) (root : AtRoot c st) (fits : FitsSubtree c st) (limits : IsSubtree st) where
  words : List ℕ
  words = take (room c) (level_words st c.region (local_level_of c))

  found : Found c.region st.root (local_level_of c) c.level (tiles_of c words)
  unfolding words
  found = subst (λ n. Found c.region st.root (local_level_of c) n (tiles_of c words)) root.level
      (as_cursor c st words c.region st.root (local_level_of c) (st.root.level + local_level_of c) fits.same_scheme (found_tiles st c.region (local_level_of c) (room c) limits))

  given_more : List Tile
  given_more = spread.given ++ tiles_of c words

  count_more : length given_more ≡ c.count + length words
  unfolding given_more
  count_more = omega (arith, length-append spread.given (tiles_of c words), spread.count, length-map words (word_tile c.scheme))

  in_region_more : All (λ t. is_in c.region t ≡ true) given_more
  unfolding given_more
  in_region_more = All-append (λ t. is_in c.region t ≡ true) spread.given (tiles_of c words) spread.in_region found.in_region

  once_more : IsOnce given_more
  unfolding given_more
  once_more = joined c.region (tiles_of c c.roots) spread.given (tiles_of c words) c.position (local_level_of c) c.level st.root done.roots root.low root.at spread.once done.below found

  has_made : HasMade (counted words (with_children false c (child_words st c.region))) given_more
  unfolding given_more
  has_made =
      let next = next_by c spread.given st (is_last_local c) refl done root fits limits in
      let P : Tile → Type 0 = λ t. t.level ≡ c.level → Contains (take (c.position + 1) (tiles_of c c.roots)) (ancestor (local_level_of c) t) in
      record {
        count = count_more;
        in_region = in_region_more;
        once = once_more;
        roots = done.roots;
        next_roots = next.once;
        no_deeper = All-append (λ t. t.level ≤ c.level) spread.given (tiles_of c words) done.no_deeper (λ k d low. omega (arith, found.at_level k d low));
        below = All-append P spread.given (tiles_of c words)
            (λ k d low level. still_done (tiles_of c c.roots) c.position (ancestor (local_level_of c) (get_or spread.given k d)) st.root root.low (done.below k d low level))
            (λ k d low level. subst (Contains (take (c.position + 1) (tiles_of c c.roots))) (sym (found.above k d low)) (one_more_done (tiles_of c c.roots) c.position st.root root.low root.at));
        next_below = next.below;
        none_yet = next.none_yet;
      }

  spread_by : (more : Bool) → IsSpread (made_by more words (counted words (with_children more c (child_words st c.region)))).after
  spread_by true = spread_over (counted words (with_children true c (child_words st c.region))) given_more count_more in_region_more once_more
  spread_by false = spread_moved_on (counted words (with_children false c (child_words st c.region))) given_more has_made

spread_good : (c : Cursor) (st : Subtree) (key : ℕ) → IsSpread c → cursor_key c ≡ Some key → IsRootKey c key → FitsSubtree c st → IsSubtree st → IsSpread (made c (Good st)).after
unfolding words
spread_good c st key spread at root fits limits =
    spread_by c st spread (spread.going key at) (at_root c st key at root fits limits) fits limits (nat_lt (room c) (length (level_words st c.region (local_level_of c))))

-- one step more
pub spread_made : (c : Cursor) (found : Outcome) (key : ℕ) → IsSpread c → cursor_key c ≡ Some key → IsRootKey c key → Fits c found → IsLimited found → IsSpread (made c found).after
spread_made c (Good st) key spread at root fits limits = spread_good c st key spread at root fits limits
spread_made c (Bad number) key spread at root fits limits = spread_over c spread.given spread.count spread.in_region spread.once

-- and before the first one
pub spread_begun : (layout : Layout) (region : Region) → IsSpread (begun layout region)
spread_begun layout region = record {
  given = [];
  count = refl;
  in_region = All-nil (λ t. is_in region t ≡ true);
  once = nothing_twice;
  going = λ key at. record {
    roots = λ i j d low high. absurd (omega (arith, low, high));
    next_roots = nothing_twice;
    no_deeper = All-nil (λ t. t.level ≤ 0);
    below = All-nil (λ t. t.level ≡ 0 → Contains (take 0 (tiles_of (begun layout region) (begun layout region).roots)) (ancestor (local_level_of (begun layout region)) t));
    next_below = All-nil (λ t. Contains (take 0 (tiles_of (begun layout region) (begun layout region).roots)) (ancestor layout.subtree_levels t));
    none_yet = λ inner. refl;
  };
}
