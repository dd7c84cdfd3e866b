-- Fetches for some roots after those for others.
use Rattle.std.proofs.Common.{◌≡◌, ℕ, ◌+◌, ◌*◌, ◌≤◌, List, [], ◌∷◌, ◌++◌, length, map, Option, Some, None, refl, sym, ap, ◌∙◌, subst, arith, length-append}
use Rattle.std.specs.Prelude.{IfSome}
use Rattle.std.specs.List.{sum}
use Rattle.std.proofs.lemmas.List.{map-append}
use Rattle.std.proofs.lemmas.List.Sums.{sum_by-append}
use Rattle.implicit_tiling.specs.Files.{Files}
use Rattle.implicit_tiling.specs.Tile.{Tile}
use Rattle.implicit_tiling.specs.Scene.{Layout}
use Rattle.implicit_tileset.specs.FileOutcome.{cost}
use Rattle.scene_ports.specs.Counts.{more_by}
use Rattle.subtree_outcome.specs.Fetched.{HasFetched, most_fetches, cost_of_all}
use Rattle.subtree_outcome.proofs.Reading.{told_always, of_told, both_told, told_same}

pub none_fetched : (layout : Layout) (told : Option Files) (before : ℕ) → HasFetched layout told [] before before
none_fetched layout told before = record {
  fetches = 0;
  counted = omega arith;
  some = omega arith;
  few = omega arith;
  of_files = told_always told (λ all. 0 ≡ cost_of_all all layout []) (λ all. refl);
}

pub costs_together : (files : Files) (layout : Layout) (roots more : List Tile) → cost_of_all files layout (roots ++ more) ≡ cost_of_all files layout roots + cost_of_all files layout more
costs_together files layout roots more = ap sum (map-append (cost files layout) roots more) ∙ sum_by-append (λ n. n) (map (cost files layout) roots) (map (cost files layout) more)

times_more : (k m n : ℕ) → k * m + k * n ≡ k * (m + n)
times_more k m n = omega arith

pub fetched_together : (layout : Layout) (told now_told : Option Files) (roots more all : List Tile) (before mid now : ℕ) → HasFetched layout told roots before mid → HasFetched layout now_told more mid now
    → now_told ≡ told → all ≡ roots ++ more → HasFetched layout told all before now
fetched_together layout told now_told roots more all before mid now first then same is =
    let m = most_fetches layout in
    let long : length all ≡ length roots + length more = ap length is ∙ length-append roots more in
    let few : m * length roots + m * length more ≡ m * length all = times_more m (length roots) (length more) ∙ ap (λ n. m * n) (sym long) in
    record {
      fetches = first.fetches + then.fetches;
      counted = omega (arith, first.counted, then.counted);
      some = omega (arith, first.some, then.some, long);
      few = omega (arith, first.few, then.few, few);
      of_files = both_told told (λ files. first.fetches ≡ cost_of_all files layout roots) (λ files. then.fetches ≡ cost_of_all files layout more) (λ files. first.fetches + then.fetches ≡ cost_of_all files layout all)
          (λ files a b. ap (λ n. n + then.fetches) a ∙ ap (λ n. cost_of_all files layout roots + n) b ∙ sym (ap (cost_of_all files layout) is ∙ costs_together files layout roots more))
          first.of_files (told_same now_told told (λ files. then.fetches ≡ cost_of_all files layout more) same then.of_files);
    }

-- some of the fetches, where those for more roots are counted
pub fetched_at_most : (layout : Layout) (told : Option Files) (roots : List Tile) (before now : ℕ) → HasFetched layout told roots before now → now ≤ more_by (most_fetches layout * length roots) before
fetched_at_most layout told roots before now has = omega (arith, has.counted, has.few)

-- the same root by another name
pub fetched_at : (layout : Layout) (told : Option Files) (tile root : Tile) (before now : ℕ) → tile ≡ root → HasFetched layout told (tile ∷ []) before now → HasFetched layout told (root ∷ []) before now
fetched_at layout told tile root before now same has = subst (λ t. HasFetched layout told (t ∷ []) before now) same has

-- the fetches for the first of some roots
pub fetched_of_first : (layout : Layout) (told : Option Files) (first rest all : List Tile) (before now : ℕ) → HasFetched layout told first before now → all ≡ first ++ rest
    → IfSome told (λ files. now ≤ more_by (cost_of_all files layout all) before)
fetched_of_first layout told first rest all before now has is =
    of_told told (λ files. has.fetches ≡ cost_of_all files layout first) (λ files. now ≤ more_by (cost_of_all files layout all) before)
    (λ files same. let whole : cost_of_all files layout all ≡ cost_of_all files layout first + cost_of_all files layout rest = ap (cost_of_all files layout) is ∙ costs_together files layout first rest in
    omega (arith, has.counted, same, whole)) has.of_files

few_of_first : (m a b n : ℕ) → a ≤ b → n ≤ m * a → n ≤ m * b
few_of_first m a b n le few = grind arith

pub few_fetched : (layout : Layout) (told : Option Files) (first : List Tile) (many before now : ℕ) → HasFetched layout told first before now → length first ≤ many → now ≤ more_by (most_fetches layout * many) before
few_fetched layout told first many before now has within =
    let few = few_of_first (most_fetches layout) (length first) many has.fetches within has.few in
    omega (arith, has.counted, few)
