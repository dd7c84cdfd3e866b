-- The fetches of a check, frontier by frontier.
use Rattle.std.proofs.Common.{◌≡◌, ◌∙◌, ℕ, ◌+◌, ◌-◌, ◌%◌, ◌<◌, ◌≤◌, true, false, List, [], ◌∷◌, ◌++◌, length, map, take, get_or, refl, sym, ap, subst, arith, length-append}
use Rattle.std.specs.Prelude.{Option, IfSome}
use Rattle.std.proofs.lemmas.List.{map-append, length-map, take_more, length-take-le}
use Rattle.implicit_tiling.specs.Files.{Files}
use Rattle.implicit_tiling.specs.Tile.{Tile}
use Rattle.implicit_tiling.specs.Scene.{Layout}
use Rattle.implicit_tiling.specs.Checked.{most_roots, Checked, checked}
use Rattle.implicit_tiling.specs.Code.{word_tile}
use Rattle.implicit_tileset.specs.Scene.{scene_of}
use Rattle.walk_laws.specs.Frontiers.{reached_above}
use Rattle.tile_coords.specs.declared.walk_end.FoundFault.{FoundFault}
use Rattle.tile_coords.specs.declared.walk_end.CheckEnd.{CheckEnd}
use Rattle.tile_word.specs.Roots.{AreRoots}
use Rattle.subtree_outcome.specs.Fetched.{HasFetched}
use Rattle.subtree_outcome.proofs.Reading.{of_told, both_told, told_always}
use Rattle.subtree_outcome.proofs.Fetching.{none_fetched, fetched_together}
use Rattle.tile_walk.specs.Checks.{Counts, HasLookedAt}
use Rattle.tile_walk.proofs.Checking.{IsCheckedTo, cut_here, above_next, above_all}

-- one root more
pub mapped_more : (f : ℕ → Tile) (roots : List ℕ) (i root : ℕ) → i < length roots → root ≡ get_or roots i 0 → map f (take (i + 1) roots) ≡ map f (take i roots) ++ f root ∷ []
mapped_more f roots i root low at = ap (map f) (take_more roots i 0 low) ∙ map-append f (take i roots) (get_or roots i 0 ∷ []) ∙ ap (λ w. map f (take i roots) ++ f w ∷ []) (sym at)

pub fetched_for : (layout : Layout) (told : Option Files) (f : ℕ → Tile) (roots : List ℕ) (i j before now : ℕ) → i ≡ j → HasFetched layout told (map f (take i roots)) before now
    → HasFetched layout told (map f (take j roots)) before now
fetched_for layout told f roots i j before now same has = subst (λ k. HasFetched layout told (map f (take k roots)) before now) same has

-- the fetches of the turns so far: those for the roots above a level, where files are told
pub record HasLookedTo (layout : Layout) (told : Option Files) (level looked before now : ℕ) : Type 0 where
  pub roots : List Tile
  pub fetched : HasFetched layout told roots before now
  pub as_many : length roots ≡ looked
  pub of_scene : IfSome told (λ files. roots ≡ reached_above (scene_of files layout) level)

pub looked_at_none : (layout : Layout) (told : Option Files) (level before : ℕ) → level ≡ 0 → HasLookedTo layout told level 0 before before
looked_at_none layout told level before start = record {
  roots = [];
  fetched = none_fetched layout told before;
  as_many = refl;
  of_scene = told_always told _ (λ files. sym (ap (reached_above (scene_of files layout)) start));
}

-- the roots of a turn behind them
as_many_more : (f : ℕ → Tile) (done : List Tile) (roots : List ℕ) (looked : ℕ) (end : CheckEnd) → length done ≡ looked → looked ≤ end.looked → end.looked ≤ looked + length roots
    → length (done ++ map f (take (end.looked - looked) roots)) ≡ end.looked
as_many_more f done roots looked end are some within =
    omega (arith, are, some, length-append done (map f (take (end.looked - looked) roots)), length-map (take (end.looked - looked) roots) f, length-take-le (end.looked - looked) roots (omega (arith, some, within)))

pub looked_at_more : (layout : Layout) (told now_told : Option Files) (level next_level : ℕ) (roots these : List ℕ) (looked : ℕ) (found : List FoundFault) (end : CheckEnd) (before mid now : ℕ) → 1 ≤ layout.subtree_levels
    → level % layout.subtree_levels ≡ 0 → next_level ≡ level + layout.subtree_levels → these ≡ roots → Counts looked (length these) end → end.more ≡ false
    → IfSome told (λ all. IsCheckedTo (scene_of all layout) level roots looked found) → HasLookedTo layout told level looked before mid
    → HasFetched layout now_told (map (word_tile layout.scheme) (take (end.looked - looked) these)) mid now → now_told ≡ told → HasLookedTo layout told next_level end.looked before now
looked_at_more layout told now_told level next_level roots these looked found end before mid now some start up are counts all at so fetched same =
    let f = word_tile layout.scheme in
    let more = map f (take (end.looked - looked) these) in
    record {
      roots = so.roots ++ more;
      fetched = fetched_together layout told now_told so.roots more (so.roots ++ more) before mid now so.fetched fetched same refl;
      as_many = as_many_more f so.roots these looked end so.as_many counts.some (omega (arith, counts.all all));
      of_scene = both_told told (λ files. IsCheckedTo (scene_of files layout) level roots looked found) (λ files. so.roots ≡ reached_above (scene_of files layout) level)
          (λ files. so.roots ++ more ≡ reached_above (scene_of files layout) next_level)
          (λ files is roots_are. let P : List ℕ → Type 0 = λ ws. Counts looked (length ws) end in
          ap (λ ts. ts ++ more) roots_are ∙ ap (λ ws. reached_above (scene_of files layout) level ++ map f (take (end.looked - looked) ws)) are
          ∙ sym (above_next (scene_of files layout) level next_level roots looked found end some start up is (subst P are counts) all)) at so.of_scene;
    }

pub looked_at_cut : (layout : Layout) (told now_told : Option Files) (level : ℕ) (roots these : List ℕ) (looked : ℕ) (found : List FoundFault) (end : CheckEnd) (before mid now : ℕ)
    → AreRoots layout level roots → these ≡ roots → Counts looked (length these) end → end.more ≡ true
    → IfSome told (λ all. IsCheckedTo (scene_of all layout) level roots looked found) → HasLookedTo layout told level looked before mid
    → HasFetched layout now_told (map (word_tile layout.scheme) (take (end.looked - looked) these)) mid now → now_told ≡ told → HasLookedAt layout told end.looked before now
looked_at_cut layout told now_told level roots these looked found end before mid now roots_are are counts cut at so fetched same =
    let f = word_tile layout.scheme in
    let more = map f (take (end.looked - looked) these) in
    record {
      roots = so.roots ++ more;
      fetched = fetched_together layout told now_told so.roots more (so.roots ++ more) before mid now so.fetched fetched same refl;
      as_many = as_many_more f so.roots these looked end so.as_many counts.some (omega (arith, (counts.cut cut).1));
      of_scene = both_told told (λ files. IsCheckedTo (scene_of files layout) level roots looked found) (λ files. so.roots ≡ reached_above (scene_of files layout) level)
          (λ files. so.roots ++ more ≡ (checked (scene_of files layout)).looked)
          (λ files is above. let P : List ℕ → Type 0 = λ ws. Counts looked (length ws) end in
          let c = cut_here (scene_of files layout) level roots looked found end is roots_are (subst P are counts) cut in
          ap (λ ts. ts ++ more) above ∙ ap (λ ws. reached_above (scene_of files layout) level ++ map f (take (end.looked - looked) ws)) are
          ∙ ap (λ (k : Checked). k.looked) (sym c.1)) at so.of_scene;
    }

pub looked_at_all : (layout : Layout) (told : Option Files) (level : ℕ) (roots : List ℕ) (looked : ℕ) (found : List FoundFault) (before now : ℕ) → 1 ≤ layout.levels → layout.levels ≤ level → looked ≤ most_roots
    → IfSome told (λ all. IsCheckedTo (scene_of all layout) level roots looked found) → HasLookedTo layout told level looked before now → HasLookedAt layout told looked before now
looked_at_all layout told level roots looked found before now some high few at so = record {
  roots = so.roots;
  fetched = so.fetched;
  as_many = so.as_many;
  of_scene = both_told told (λ files. IsCheckedTo (scene_of files layout) level roots looked found) (λ files. so.roots ≡ reached_above (scene_of files layout) level)
      (λ files. so.roots ≡ (checked (scene_of files layout)).looked)
      (λ files is above. above ∙ above_all (scene_of files layout) level roots looked found some high is few) at so.of_scene;
}
