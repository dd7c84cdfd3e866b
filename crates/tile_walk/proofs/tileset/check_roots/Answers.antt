use Rattle.std.proofs.Common.{◌≡◌, ◌<◌, ◌+◌, ◌-◌, ◌*◌, ◌∙◌, ◌++◌, ◌∷◌, ◌≤◌, ℕ, List, [], length, map, take, take_all, get_or, refl, ap, subst, sym, arith, append-nil}
use Rattle.std.proofs.lemmas.List.{length-map}
use Rattle.std.specs.List.{flat_map, All}
use Rattle.std.proofs.lemmas.Grind.{get_or_default_zero}
use Rattle.implicit_tiling.specs.Checked.{most_roots}
use Rattle.implicit_tiling.specs.Tile.{Tile}
use Rattle.implicit_tiling.specs.Code.{word_tile, word_level}
use Rattle.implicit_tileset.specs.Scene.{scene_of}
use Rattle.walk_laws.specs.Children.{roots_below}
use Rattle.tile_walk.specs.Checks.{IsOnWalk, found_faults}
use Rattle.subtree_outcome.proofs.Reading.{both_told, of_told, told_same, told_always}
use Rattle.subtree_outcome.proofs.Counting.{stays}
use Rattle.subtree_outcome.proofs.Fetching.{none_fetched, fetched_together}
use Rattle.tile_walk.proofs.Roots.{one_kept_more}
use Rattle.tile_walk.proofs.Checking.{found_faults-more, roots_at}
use Rattle.tile_walk.proofs.Looking.{mapped_more, fetched_for}
use Rattle.tile_walk.proofs.tileset.check_roots.Goals as goal

-- what is kept of no more roots
kept_first : (f : ℕ → Tile) (n : ℕ) (next : List ℕ) → length next ≤ n → map f next ≡ take n (map f next ++ [])
kept_first f n next few = sym (ap (take n) (append-nil (map f next)) ∙ take_all n (map f next) (omega (arith, few, length-map next f)))

pub loop-root-init : goal.loop-root-init
loop-root-init g c =
    let layout = c.args.layout.now in
    let told = g.S.FileSource.told c.args.files.now in
    record {
      faults_on = told_always told _ (λ all. sym (append-nil c.args.found.now.items));
      roots_on = told_always told _ (λ all. kept_first (word_tile layout.scheme) (most_roots + 1) c.args.next.now.items c.requires.kept);
      kept = c.requires.kept;
      count_is = omega arith;
      few = c.requires.few;
      next_are = c.requires.next;
      faults_are = c.requires.faults;
      later = omega arith;
      sure = refl;
      fetched = none_fetched layout told _;
      same = refl;
    }

pub check_root-requires-clause-next : goal.check_root-requires-clause-next
check_root-requires-clause-next g c =
    let at : c.root-item.result ≡ get_or c.args.frontier.now.roots.items c.loop-root.root-index 0 =
    c.root-item.is ∙ ap (λ ws. get_or ws c.loop-root.root-index c.root-item.result) c.deref-root-items.ensures.value
    ∙ get_or_default_zero c.args.frontier.now.roots.items c.loop-root.root-index c.root-item.result (omega (arith, ap (length {A = ℕ}) c.deref-root-items.ensures.value)) in
    let layout = c.args.layout.now in
    let is = c.requires.roots c.loop-root.root-index 0 (omega (arith, ap (length {A = ℕ}) c.deref-root-items.ensures.value)) in
    roots_at layout (c.args.frontier.now.turn * layout.subtree_levels + layout.subtree_levels) _ c.loop-root.next.items (ap (λ l. l + layout.subtree_levels) (sym (ap word_level at ∙ is.at_level))) c.loop-root.invariant.next_are

pub check_root-requires-clause-on_walk : goal.check_root-requires-clause-on_walk
check_root-requires-clause-on_walk g c =
    let at : c.root-item.result ≡ get_or c.args.frontier.now.roots.items c.loop-root.root-index 0 =
    c.root-item.is ∙ ap (λ ws. get_or ws c.loop-root.root-index c.root-item.result) c.deref-root-items.ensures.value
    ∙ get_or_default_zero c.args.frontier.now.roots.items c.loop-root.root-index c.root-item.result (omega (arith, ap (length {A = ℕ}) c.deref-root-items.ensures.value)) in
    let layout = c.args.layout.now in
    let region = c.args.region.now in
    let here = of_told (g.S.FileSource.told c.args.files.now) (λ all. All (IsOnWalk (scene_of all layout) region) c.args.frontier.now.roots.items)
    (λ all. IsOnWalk (scene_of all layout) region c.root-item.result)
    (λ all on. subst (IsOnWalk (scene_of all layout) region) (sym at) (on c.loop-root.root-index 0 (omega (arith, ap (length {A = ℕ}) c.deref-root-items.ensures.value)))) c.requires.on_walk in
    told_same (g.S.FileSource.told c.args.files.now) (g.S.FileSource.told c.loop-root.files) _ (sym c.loop-root.invariant.same) here

pub loop-root-preserved : goal.loop-root-preserved
loop-root-preserved g c =
    let at : c.root-item.result ≡ get_or c.args.frontier.now.roots.items c.loop-root.root-index 0 =
    c.root-item.is ∙ ap (λ ws. get_or ws c.loop-root.root-index c.root-item.result) c.deref-root-items.ensures.value
    ∙ get_or_default_zero c.args.frontier.now.roots.items c.loop-root.root-index c.root-item.result (omega (arith, ap (length {A = ℕ}) c.deref-root-items.ensures.value)) in
    let layout = c.args.layout.now in
    let region = c.args.region.now in
    let f = word_tile layout.scheme in
    let i = c.loop-root.root-index in
    let roots = c.args.frontier.now.roots.items in
    let root = c.root-item.result in
    let low : i < length roots = omega (arith, ap (length {A = ℕ}) c.deref-root-items.ensures.value) in
    let is = c.requires.roots i 0 low in
    record {
      faults_on = both_told (g.S.FileSource.told c.args.files.now) (λ all. c.loop-root.found.items ≡ c.args.found.now.items ++ found_faults (scene_of all layout) (take i roots))
          (λ all. c.check_root.new.found.items ≡ c.loop-root.found.items ++ found_faults (scene_of all layout) (root ∷ [])) _
          (λ all on more. found_faults-more (scene_of all layout) roots i c.args.found.now.items c.loop-root.found.items c.check_root.new.found.items low on
          (subst (λ w. c.check_root.new.found.items ≡ c.loop-root.found.items ++ found_faults (scene_of all layout) (w ∷ [])) at more))
          c.loop-root.invariant.faults_on
          (told_same (g.S.FileSource.told c.loop-root.files) (g.S.FileSource.told c.args.files.now) _ c.loop-root.invariant.same c.in_ok-check_root.ensures.found);
      roots_on = both_told (g.S.FileSource.told c.args.files.now)
          (λ all. map f c.loop-root.next.items ≡ take (most_roots + 1) (map f c.args.next.now.items ++ flat_map (λ w. roots_below (scene_of all layout) region (f w)) (take i roots)))
          (λ all. map f c.check_root.new.next.items ≡ take (most_roots + 1) (map f c.loop-root.next.items ++ roots_below (scene_of all layout) region (f root))) _
          (λ all on more. one_kept_more f (λ w. roots_below (scene_of all layout) region (f w)) (most_roots + 1) roots c.args.next.now.items c.loop-root.next.items c.check_root.new.next.items i low on
          (subst (λ w. map f c.check_root.new.next.items ≡ take (most_roots + 1) (map f c.loop-root.next.items ++ roots_below (scene_of all layout) region (f w))) at more))
          c.loop-root.invariant.roots_on
          (told_same (g.S.FileSource.told c.loop-root.files) (g.S.FileSource.told c.args.files.now) _ c.loop-root.invariant.same c.in_ok-check_root.ensures.roots);
      count_is = omega (arith, c.loop-root.invariant.count_is);
      kept = c.in_ok-check_root.ensures.kept;
      few = omega (arith, c.loop-root.invariant.few, c.if-count-eq-MOST_ROOTS.false);
      next_are = roots_at layout _ (c.args.frontier.now.turn * layout.subtree_levels + layout.subtree_levels) c.check_root.new.next.items (ap (λ l. l + layout.subtree_levels) (ap word_level at ∙ is.at_level)) c.in_ok-check_root.ensures.next;
      faults_are = c.in_ok-check_root.ensures.faults;
      later = omega (arith, c.loop-root.invariant.later, c.check_root.ensures.later);
      sure = stays c.check_root.result _ _ _ _ _ c.in_ok-check_root.was c.check_root.ensures.sure c.loop-root.invariant.sure;
      fetched = fetched_together layout (g.S.FileSource.told c.args.files.now) (g.S.FileSource.told c.loop-root.files) (map f (take i roots)) (f root ∷ []) (map f (take (i + 1) roots)) _ _ _
          c.loop-root.invariant.fetched c.in_ok-check_root.ensures.fetched c.loop-root.invariant.same (mapped_more f roots i root (omega arith) at);
      same = c.check_root.ensures.same ∙ c.loop-root.invariant.same;
    }

pub returns-clause-roots : goal.returns-clause-roots
returns-clause-roots g c =
    let layout = c.args.layout.now in
    let f = word_tile layout.scheme in
    of_told (g.S.FileSource.told c.args.files.now)
    (λ all. map f c.loop-root.next.items
    ≡ take (most_roots + 1) (map f c.args.next.now.items ++ flat_map (λ w. roots_below (scene_of all layout) c.args.region.now (f w)) (take c.loop-root.root-index c.args.frontier.now.roots.items))) _
    (λ all on goes. on
    ∙ ap (λ ws. take (most_roots + 1) (map f c.args.next.now.items ++ flat_map (λ w. roots_below (scene_of all layout) c.args.region.now (f w)) ws)) (take_all _ _ (omega (arith, ap (length {A = ℕ}) c.deref-root-items.ensures.value))))
    c.loop-root.invariant.roots_on

pub returns-clause-fetched : goal.returns-clause-fetched
returns-clause-fetched g c =
    let layout = c.args.layout.now in
    fetched_for layout (g.S.FileSource.told c.args.files.now) (word_tile layout.scheme) c.args.frontier.now.roots.items c.loop-root.root-index (c.loop-root.count - c.args.frontier.now.looked) _ _ (omega (arith, c.loop-root.invariant.count_is)) c.loop-root.invariant.fetched

pub returns-then-count-eq-MOST_ROOTS-clause-fetched : goal.returns-then-count-eq-MOST_ROOTS-clause-fetched
returns-then-count-eq-MOST_ROOTS-clause-fetched g c =
    let layout = c.args.layout.now in
    fetched_for layout (g.S.FileSource.told c.args.files.now) (word_tile layout.scheme) c.args.frontier.now.roots.items c.loop-root.root-index (c.loop-root.count - c.args.frontier.now.looked) _ _ (omega (arith, c.loop-root.invariant.count_is)) c.loop-root.invariant.fetched
