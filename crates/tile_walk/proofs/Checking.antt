-- A check of all reached roots, frontier by frontier.
use Rattle.std.proofs.Common.{◌≡◌, ℕ, suc, ◌+◌, ◌-◌, ◌%◌, ◌<◌, ◌≤◌, true, false, List, [], ◌∷◌, ◌++◌, length, map, take, drop, get_or, Option, Some, refl, sym, ap, subst, ◌∙◌, arith, append_assoc, append-nil, length-append}
use Rattle.std.specs.Prelude.{option_map}
use Rattle.std.specs.List.{flat_map, filter_map, cons_option, range_with_len}
use Rattle.std.proofs.lemmas.List.{map-append, length-map, take_more, take-append-drop, take_all, take-map, length-take, length-take-le}
use Rattle.std.proofs.Math.Seq.{drop-cons}
use Rattle.std.proofs.Math.Nat.{zero-mod}
use Rattle.std.proofs.lemmas.List.Elements.{All-append, All-take, filter_map-append}
use Rattle.implicit_tiling.specs.declared.Scheme.{Scheme}
use Rattle.implicit_tiling.specs.Tile.{Tile, IsTile, root}
use Rattle.implicit_tiling.specs.Region.{Region}
use Rattle.implicit_tiling.specs.Scene.{Layout, Scene, good, bad, fault_of}
use Rattle.implicit_tiling.specs.Subtree.{Subtree, IsSubtree, IsOf, bits_of}
use Rattle.implicit_tiling.specs.Nodes.{child_words}
use Rattle.implicit_tiling.specs.Answer.{fault_at}
use Rattle.implicit_tiling.specs.Checked.{most_roots, Checked, checked}
use Rattle.implicit_tiling.specs.Code.{word, word_tile}
use Rattle.implicit_tiling.specs.Steps.{walk_roots}
use Rattle.tile_word.proofs.Tiles.{parts_have_their_word}
use Rattle.region_scan.proofs.NodeWords.{found_words_are_words}
use Rattle.walk_laws.specs.Children.{roots_below}
use Rattle.walk_laws.specs.Frontiers.{whole_of, reached_above, reached_at}
use Rattle.walk_laws.proofs.Lists.{flat_map-map}
use Rattle.walk_laws.proofs.Children.{roots_go_down, no_root_below_a_fault, next_level}
use Rattle.walk_laws.proofs.Whole.{whole_is_a_region}
use Rattle.walk_laws.proofs.Faults.{walk_is_root}
use Rattle.walk_laws.proofs.Frontiers.{reached_go_down, reached_are_all}
use Rattle.walk_laws.proofs.Checked.{reached_at_a_root, checked_is_all, checked_is_cut}
use Rattle.tile_coords.specs.declared.walk_end.FoundFault.{FoundFault}
use Rattle.tile_coords.specs.declared.walk_end.CheckEnd.{CheckEnd}
use Rattle.tile_word.specs.Roots.{IsRootWord, AreRoots}
use Rattle.subtree_outcome.specs.Outcomes.{IsFoundAt}
use Rattle.tile_walk.specs.Checks.{found_faults, IsOnWalk, Counts, IsCheck}
use Rattle.tile_coords.specs.Found.{found_of}
use Rattle.tile_walk.proofs.Words.{child_tiles}
use Rattle.tile_walk.proofs.Roots.{child_is_root, decoded, first_tiles}

-- the roots above a level are looked at, and those of the level come next, as far as they are kept
pub record IsCheckedTo (s : Scene) (level : ℕ) (roots : List ℕ) (looked : ℕ) (found : List FoundFault) : Type 0 where
  pub faults : found ≡ map (found_of s.layout.scheme) (filter_map (fault_at s) (reached_above s level))
  pub count : looked ≡ length (reached_above s level)
  pub tiles : map (word_tile s.layout.scheme) roots ≡ take (most_roots + 1) (walk_roots s (whole_of s) level)

-- the faults of some roots and then of others
faults-append : (s : Scene) (rs ts : List Tile)
    → map (found_of s.layout.scheme) (filter_map (fault_at s) (rs ++ ts)) ≡ map (found_of s.layout.scheme) (filter_map (fault_at s) rs) ++ map (found_of s.layout.scheme) (filter_map (fault_at s) ts)
faults-append s rs ts =
    ap (map (found_of s.layout.scheme)) (filter_map-append (fault_at s) rs ts) ∙ map-append (found_of s.layout.scheme) (filter_map (fault_at s) rs) (filter_map (fault_at s) ts)

pub found_faults-more : (s : Scene) (roots : List ℕ) (i : ℕ) (old mid new : List FoundFault) → i < length roots → mid ≡ old ++ found_faults s (take i roots)
    → new ≡ mid ++ found_faults s (get_or roots i 0 ∷ []) → new ≡ old ++ found_faults s (take (i + 1) roots)
found_faults-more s roots i old mid new low so more =
    let f = word_tile s.layout.scheme in
    let r = get_or roots i 0 in
    more ∙ ap (λ w. w ++ found_faults s (r ∷ [])) so ∙ append_assoc old (found_faults s (take i roots)) (found_faults s (r ∷ []))
    ∙ ap (λ w. old ++ w) (sym (faults-append s (map f (take i roots)) (f r ∷ []))
    ∙ ap (λ ts. map (found_of s.layout.scheme) (filter_map (fault_at s) ts)) (sym (map-append f (take i roots) (r ∷ [])) ∙ ap (map f) (sym (take_more roots i 0 low))))

-- a root's word is that of its tile
word_again : (layout : Layout) (level w : ℕ) → IsRootWord layout level w → word layout.scheme (word_tile layout.scheme w) 0 ≡ w
word_again layout level w is =
    ap (λ m. word layout.scheme (word_tile layout.scheme w) m) (sym is.no_mask) ∙ (parts_have_their_word layout.scheme w is.is_word).word

-- the fault of one root
pub one_fault : (s : Scene) (level w n : ℕ) (r : Tile) (old new : List FoundFault) → IsRootWord s.layout level w → r ≡ word_tile s.layout.scheme w → s.outcome r ≡ bad n
    → new ≡ old ++ record { root = w; number = n } ∷ [] → new ≡ old ++ found_faults s (w ∷ [])
one_fault s level w n r old new root same is more =
    let t = word_tile s.layout.scheme w in
    let fault : fault_of (s.outcome t) ≡ Some n = ap (λ u. fault_of (s.outcome u)) (sym same) ∙ ap fault_of is in
    let seen : Option ℕ → List FoundFault = λ o. map (found_of s.layout.scheme) (cons_option (option_map (λ k. (t, k)) o) []) in
    let one : ℕ → List FoundFault = λ v. record { root = v; number = n } ∷ [] in
    more ∙ ap (λ fs. old ++ fs) (sym (ap seen fault ∙ ap one (word_again s.layout level w root)))

pub no_next : (s : Scene) (region : Region) (w n : ℕ) (r : Tile) (next : List ℕ) → 1 ≤ s.layout.subtree_levels → IsTile s.layout.scheme r → IsOnWalk s region w
    → r ≡ word_tile s.layout.scheme w → s.outcome r ≡ bad n → length next ≤ most_roots + 1
    → map (word_tile s.layout.scheme) next ≡ take (most_roots + 1) (map (word_tile s.layout.scheme) next ++ roots_below s region (word_tile s.layout.scheme w))
no_next s region w n r next some tile on same is few =
    let t = word_tile s.layout.scheme w in
    let P : Tile → Type 0 = IsTile s.layout.scheme in
    let none = no_root_below_a_fault s region t n some (subst P same tile) (walk_is_root s region t on) (ap s.outcome (sym same) ∙ is) in
    let kept = map (word_tile s.layout.scheme) next in
    sym (take_all (most_roots + 1) kept (omega (arith, few, length-map next (word_tile s.layout.scheme))))
    ∙ ap (take (most_roots + 1)) (sym (append-nil kept) ∙ ap (λ ts. kept ++ ts) (sym none))

pub next_by_words : (s : Scene) (region : Region) (w : ℕ) (st : Subtree) (r : Tile) (old new : List ℕ) → IsSubtree st → IsFoundAt s.layout r st → r ≡ word_tile s.layout.scheme w
    → IsOnWalk s region w → s.outcome r ≡ good (bits_of st) → new ≡ take (most_roots + 1) (old ++ child_words st region)
    → map (word_tile s.layout.scheme) new ≡ take (most_roots + 1) (map (word_tile s.layout.scheme) old ++ roots_below s region (word_tile s.layout.scheme w))
next_by_words s region w st r old new limits found same on is more =
    let f = word_tile s.layout.scheme in
    let made = decoded s region w st r limits found same on is in
    ap (map f) more ∙ sym (take-map f (most_roots + 1) (old ++ child_words st region)) ∙ ap (take (most_roots + 1)) (map-append f old (child_words st region)
    ∙ ap (λ ts. map f old ++ ts) (child_tiles s region st made ∙ ap (roots_below s region) (found.at_root ∙ same)))

pub next_are_roots : (layout : Layout) (st : Subtree) (region : Region) (level : ℕ) (old new : List ℕ) → IsSubtree st → IsOf layout st → 1 ≤ layout.subtree_levels → st.root.level ≡ level
    → AreRoots layout (level + layout.subtree_levels) old → (n : ℕ) → new ≡ take n (old ++ child_words st region) → AreRoots layout (level + layout.subtree_levels) new
next_are_roots layout st region level old new limits of some at are n more =
    let last = level + layout.subtree_levels - 1 in
    let next : last + 1 ≡ level + layout.subtree_levels = omega (arith, some) in
    let P : ℕ → Type 0 = λ l. AreRoots layout l (child_words st region) in
    let Q : List ℕ → Type 0 = AreRoots layout (level + layout.subtree_levels) in
    let each : AreRoots layout (last + 1) (child_words st region) =
    λ k d low. child_is_root layout st region last (get_or (child_words st region) k d) of some (omega (arith, at, of.same_levels, some)) ((found_words_are_words st region limits).children k d low) in
    let root = IsRootWord layout (level + layout.subtree_levels) in
    subst Q (sym more) (All-take root n (old ++ child_words st region) (All-append root old (child_words st region) are (subst P next each)))

pub roots_at : (layout : Layout) (level other : ℕ) (roots : List ℕ) → level ≡ other → AreRoots layout level roots → AreRoots layout other roots
roots_at layout level other roots same are = let P : ℕ → Type 0 = λ l. AreRoots layout l roots in subst P same are

-- where a turn ends among the roots of a frontier, those before it are all that are looked at
pub cut_here : (s : Scene) (level : ℕ) (roots : List ℕ) (looked : ℕ) (found : List FoundFault) (end : CheckEnd) → IsCheckedTo s level roots looked found → AreRoots s.layout level roots
    → Counts looked (length roots) end → end.more ≡ true
    → let done = reached_above s level ++ map (word_tile s.layout.scheme) (take (end.looked - looked) roots) in
    (length done ≡ end.looked) × (checked s ≡ record { looked = done; faults = filter_map (fault_at s) done; more = true })
cut_here s level roots looked found end is are counts more =
    let f = word_tile s.layout.scheme in
    let cut = counts.cut more in
    let i = end.looked - looked in
    let low : i < length roots = omega (arith, cut.1, counts.some) in
    let r = are i 0 low in
    let before = map f (take i roots) in
    let kept = map f (drop (suc i) roots) in
    let left = drop (most_roots + 1) (walk_roots s (whole_of s) level) in
    let after = kept ++ left in
    let here : take (most_roots + 1) (walk_roots s (whole_of s) level) ≡ before ++ f (get_or roots i 0) ∷ kept =
    sym is.tiles ∙ ap (map f) (sym (take-append-drop i roots) ∙ ap (λ ws. take i roots ++ ws) (drop-cons roots i 0 low)) ∙ map-append f (take i roots) (get_or roots i 0 ∷ drop (suc i) roots) in
    let parts : walk_roots s (whole_of s) level ≡ before ++ f (get_or roots i 0) ∷ after =
    sym (take-append-drop (most_roots + 1) (walk_roots s (whole_of s) level)) ∙ ap (λ ts. ts ++ left) here ∙ append_assoc before (f (get_or roots i 0) ∷ kept) left in
    let done = reached_above s level ++ before in
    let rest = after ++ flat_map (reached_at s) (range_with_len (level + 1) (s.layout.levels - (level + 1))) in
    let all = reached_at_a_root s level before (f (get_or roots i 0)) after r.at_start r.below parts in
    let count : length done ≡ end.looked = omega (arith, length-append (reached_above s level) before, length-map (take i roots) f, length-take-le i roots (omega (arith, low)), is.count, counts.some) in
    (count, checked_is_cut s done (f (get_or roots i 0)) rest all (count ∙ cut.0))

-- a turn ends among the roots of a frontier
pub check_is_cut : (s : Scene) (level : ℕ) (roots : List ℕ) (looked : ℕ) (found new : List FoundFault) (end : CheckEnd) → IsCheckedTo s level roots looked found → AreRoots s.layout level roots
    → Counts looked (length roots) end → end.more ≡ true → new ≡ found ++ found_faults s (take (end.looked - looked) roots) → IsCheck s new end
check_is_cut s level roots looked found new end is are counts more so =
    let i = end.looked - looked in
    let before = map (word_tile s.layout.scheme) (take i roots) in
    let c = cut_here s level roots looked found end is are counts more in
    let fw = map (found_of s.layout.scheme) in
    record {
      faults_are = so ∙ ap (λ fs. fs ++ found_faults s (take i roots)) is.faults ∙ sym (faults-append s (reached_above s level) before) ∙ ap (λ (k : Checked). fw k.faults) (sym c.1);
      looked_is = sym c.0 ∙ ap (λ (k : Checked). length k.looked) (sym c.1);
      more_is = more ∙ ap (λ (k : Checked). k.more) (sym c.1);
    }

-- where no more roots are kept than may be looked at, they are all
all_are_kept : (ts rs : List Tile) → ts ≡ take (most_roots + 1) rs → length ts ≤ most_roots → ts ≡ rs
all_are_kept ts rs is few = is ∙ take_all (most_roots + 1) rs (omega (arith, few, ap (length {A = Tile}) is, length-take (most_roots + 1) rs))

-- the roots above the next level, where a turn goes on
pub above_next : (s : Scene) (level next_level : ℕ) (roots : List ℕ) (looked : ℕ) (found : List FoundFault) (end : CheckEnd) → 1 ≤ s.layout.subtree_levels
    → level % s.layout.subtree_levels ≡ 0 → next_level ≡ level + s.layout.subtree_levels → IsCheckedTo s level roots looked found → Counts looked (length roots) end → end.more ≡ false
    → reached_above s next_level ≡ reached_above s level ++ map (word_tile s.layout.scheme) (take (end.looked - looked) roots)
above_next s level next_level roots looked found end some start up is counts all =
    let f = word_tile s.layout.scheme in
    let count = counts.all all in
    let tiles : map f roots ≡ walk_roots s (whole_of s) level = all_are_kept (map f roots) (walk_roots s (whole_of s) level) is.tiles (omega (arith, count, counts.few, length-map roots f)) in
    let taken : take (end.looked - looked) roots ≡ roots = take_all (end.looked - looked) roots (omega (arith, count)) in
    ap (reached_above s) up ∙ reached_go_down s level some start ∙ ap (λ ts. reached_above s level ++ ts) (sym tiles) ∙ ap (λ ws. reached_above s level ++ map f ws) (sym taken)

-- a turn that goes on
pub check_goes_on : (s : Scene) (level next_level : ℕ) (roots none next : List ℕ) (looked : ℕ) (found new : List FoundFault) (end : CheckEnd) → 1 ≤ s.layout.subtree_levels
    → level % s.layout.subtree_levels ≡ 0 → next_level ≡ level + s.layout.subtree_levels → IsCheckedTo s level roots looked found → Counts looked (length roots) end → end.more ≡ false
    → new ≡ found ++ found_faults s (take (end.looked - looked) roots) → none ≡ []
    → map (word_tile s.layout.scheme) next ≡ take (most_roots + 1) (map (word_tile s.layout.scheme) none ++ flat_map (λ w. roots_below s (whole_of s) (word_tile s.layout.scheme w)) roots)
    → IsCheckedTo s next_level next end.looked new
check_goes_on s level next_level roots none next looked found new end some start up is counts all so empty more =
    let f = word_tile s.layout.scheme in
    let whole = whole_of s in
    let count = counts.all all in
    let these = map f roots in
    let tiles : these ≡ walk_roots s whole level = all_are_kept these (walk_roots s whole level) is.tiles (omega (arith, count, counts.few, length-map roots f)) in
    let taken : take (end.looked - looked) roots ≡ roots = take_all (end.looked - looked) roots (omega (arith, count)) in
    let done : reached_above s (level + s.layout.subtree_levels) ≡ reached_above s level ++ these = reached_go_down s level some start ∙ ap (λ ts. reached_above s level ++ ts) (sym tiles) in
    let P : ℕ → Type 0 = λ l. IsCheckedTo s l next end.looked new in
    let fw = map (found_of s.layout.scheme) in
    subst P (sym up) (record {
      faults = so ∙ ap (λ ws. found ++ found_faults s ws) taken ∙ ap (λ fs. fs ++ found_faults s roots) is.faults ∙ sym (faults-append s (reached_above s level) these)
          ∙ ap (λ ts. fw (filter_map (fault_at s) ts)) (sym done);
      count = omega (arith, count, is.count, ap (length {A = Tile}) done, length-append (reached_above s level) these, length-map roots f);
      tiles = more ∙ ap (take (most_roots + 1)) (ap (λ ws. map f ws ++ flat_map (λ w. roots_below s whole (f w)) roots) empty ∙ sym (flat_map-map (roots_below s whole) f roots)
          ∙ ap (flat_map (roots_below s whole)) tiles ∙ sym (roots_go_down s whole level some start));
    })

-- all turns are done
pub check_is_all : (s : Scene) (level : ℕ) (roots : List ℕ) (looked : ℕ) (found : List FoundFault) (end : CheckEnd) → 1 ≤ s.layout.levels → s.layout.levels ≤ level
    → IsCheckedTo s level roots looked found → looked ≤ most_roots → end.looked ≡ looked → end.more ≡ false → IsCheck s found end
check_is_all s level roots looked found end some high is few same more =
    let all = reached_are_all s level some high in
    let c = checked_is_all s (omega (arith, few, is.count, ap (length {A = Tile}) all)) in
    let fw = map (found_of s.layout.scheme) in
    record {
      faults_are = is.faults ∙ ap (λ ts. fw (filter_map (fault_at s) ts)) all ∙ ap (λ (k : Checked). fw k.faults) (sym c);
      looked_is = same ∙ is.count ∙ ap (length {A = Tile}) all ∙ ap (λ (k : Checked). length k.looked) (sym c);
      more_is = more ∙ ap (λ (k : Checked). k.more) (sym c);
    }

-- the same, of the roots that are looked at
pub above_all : (s : Scene) (level : ℕ) (roots : List ℕ) (looked : ℕ) (found : List FoundFault) → 1 ≤ s.layout.levels → s.layout.levels ≤ level
    → IsCheckedTo s level roots looked found → looked ≤ most_roots → reached_above s level ≡ (checked s).looked
above_all s level roots looked found some high is few =
    let all = reached_are_all s level some high in
    let c = checked_is_all s (omega (arith, few, is.count, ap (length {A = Tile}) all)) in
    all ∙ ap (λ (k : Checked). k.looked) (sym c)

-- before the first turn
pub check_begins : (s : Scene) (scheme : Scheme) (roots : List ℕ) (level : ℕ) (found : List FoundFault) → scheme ≡ s.layout.scheme → 1 ≤ s.layout.levels → roots ≡ word scheme root 0 ∷ []
    → level ≡ 0 → found ≡ [] → IsCheckedTo s level roots 0 found
check_begins s scheme roots level found same some first start none =
    let tiles = first_tiles s (whole_of s) scheme roots same some (whole_is_a_region s.layout.scheme s.layout.levels) first in
    let one = ap (length {A = Tile}) (sym tiles) ∙ length-map roots (word_tile s.layout.scheme) ∙ ap (length {A = ℕ}) first in
    let P : ℕ → Type 0 = λ l. IsCheckedTo s l roots 0 found in
    subst P (sym start) (record { faults = none; count = refl; tiles = tiles ∙ sym (take_all (most_roots + 1) (walk_roots s (whole_of s) 0) (omega (arith, one))) })
