use Rattle.std.proofs.Common.{◌≡◌, ◌+◌, length, ◌++◌, ◌∷◌, [], ◌∙◌, map, take, drop, take_all, get_or, refl, sym, ap, subst, arith, append-nil}
use Rattle.std.specs.List.{flat_map}
use Rattle.std.proofs.lemmas.Grind.{get_or_default_zero}
use Rattle.implicit_tiling.specs.Code.{word_tile}
use Rattle.implicit_tileset.specs.Scene.{scene_of}
use Rattle.tile_coords.specs.declared.walk_end.WalkEnd.{WalkEnd}
use Rattle.tile_coords.specs.declared.walk_end.WalkEnd.TheVariants.{Partial}
use Rattle.reference_walk.specs.Walks.{GoesOn, Walks, word_pair, next_roots}
use Rattle.subtree_outcome.proofs.Reading.{both_told, of_told, told_same, told_always}
use Rattle.subtree_outcome.proofs.Counting.{stays}
use Rattle.subtree_outcome.proofs.Fetching.{none_fetched, fetched_together, fetched_of_first, few_fetched}
use Rattle.tile_walk.proofs.Looking.{mapped_more}
use Rattle.tile_walk.proofs.Roots.{one_next_more}
use Rattle.reference_walk.proofs.Walks.{goes_nowhere, one_root_more, ends_in_level, in_two, few_first}
use Rattle.reference_walk.proofs.level.walk_level.Goals as goal

pub loop-root-init : goal.loop-root-init
loop-root-init g c =
    let layout = c.args.layout.now in
    let told = g.S.FileSource.told c.args.files.now in
    record {
      walks = told_always told _ (λ all. goes_nowhere (scene_of all layout) c.args.region.now c.args.found.now.words.items c.requires.found.few);
      roots_on = told_always told _ (λ all. sym (append-nil (map (word_tile layout.scheme) c.args.found.now.next.items)));
      found = c.requires.found;
      next = c.requires.next;
      later = omega arith;
      sure = refl;
      fetched = none_fetched layout told _;
      same = refl;
    }

pub loop-root-preserved : goal.loop-root-preserved
loop-root-preserved g c =
    let layout = c.args.layout.now in
    let region = c.args.region.now in
    let pair = word_pair layout.scheme c.args.level in
    let root = c.root-item.result in
    let at : root ≡ get_or c.args.roots.now c.loop-root.root-index 0 =
    c.root-item.is ∙ get_or_default_zero c.args.roots.now c.loop-root.root-index c.root-item.result (omega arith) in
    record {
      walks = both_told (g.S.FileSource.told c.args.files.now)
          (λ all. GoesOn (scene_of all layout) region (map pair (take c.loop-root.root-index c.args.roots.now)) c.args.found.now.words.items c.loop-root.found.words.items)
          (λ all. Walks (scene_of all layout) region (pair root ∷ []) c.loop-root.found.words.items c.step.new.found.words.items c.in_ok-end.end) _
          (λ all on is. let P : WalkEnd → Type 0 = Walks (scene_of all layout) region (map pair (take (c.loop-root.root-index + 1) c.args.roots.now)) c.args.found.now.words.items c.step.new.found.words.items in
          subst P c.in-Partial.is
          (one_root_more (scene_of all layout) region pair c.args.roots.now c.loop-root.root-index c.args.found.now.words.items c.loop-root.found.words.items c.step.new.found.words.items c.in_ok-end.end
          (omega arith) on (subst (λ w. Walks (scene_of all layout) region (pair w ∷ []) c.loop-root.found.words.items c.step.new.found.words.items c.in_ok-end.end) at is)))
          c.loop-root.invariant.walks
          (told_same (g.S.FileSource.told c.loop-root.files) (g.S.FileSource.told c.args.files.now) _ c.loop-root.invariant.same c.in_ok-end.ensures.walks);
      roots_on = both_told (g.S.FileSource.told c.args.files.now)
          (λ all. map (word_tile layout.scheme) c.loop-root.found.next.items ≡ map (word_tile layout.scheme) c.args.found.now.next.items
          ++ flat_map (λ w. next_roots (scene_of all layout) region c.args.level (word_tile layout.scheme w)) (take c.loop-root.root-index c.args.roots.now))
          (λ all. c.in_ok-end.end ≡ Partial → map (word_tile layout.scheme) c.step.new.found.next.items ≡ map (word_tile layout.scheme) c.loop-root.found.next.items
          ++ next_roots (scene_of all layout) region c.args.level (word_tile layout.scheme root)) _
          (λ all on more. one_next_more (word_tile layout.scheme) (λ w. next_roots (scene_of all layout) region c.args.level (word_tile layout.scheme w)) c.args.roots.now
          c.args.found.now.next.items c.loop-root.found.next.items c.step.new.found.next.items c.loop-root.root-index (omega arith) on
          (subst (λ w. map (word_tile layout.scheme) c.step.new.found.next.items ≡ map (word_tile layout.scheme) c.loop-root.found.next.items
          ++ next_roots (scene_of all layout) region c.args.level (word_tile layout.scheme w)) at (more c.in-Partial.is))) c.loop-root.invariant.roots_on
          (told_same (g.S.FileSource.told c.loop-root.files) (g.S.FileSource.told c.args.files.now) _ c.loop-root.invariant.same c.in_ok-end.ensures.roots);
      found = c.in_ok-end.ensures.found;
      next = c.in_ok-end.ensures.next;
      later = omega (arith, c.loop-root.invariant.later, c.step.ensures.later);
      sure = stays c.step.result _ _ _ _ _ c.in_ok-end.was c.step.ensures.sure c.loop-root.invariant.sure;
      fetched = fetched_together layout (g.S.FileSource.told c.args.files.now) (g.S.FileSource.told c.loop-root.files) (map (word_tile layout.scheme) (take c.loop-root.root-index c.args.roots.now))
          (word_tile layout.scheme root ∷ []) (map (word_tile layout.scheme) (take (c.loop-root.root-index + 1) c.args.roots.now)) _ _ _ c.loop-root.invariant.fetched c.in_ok-end.ensures.fetched
          c.loop-root.invariant.same (mapped_more (word_tile layout.scheme) c.args.roots.now c.loop-root.root-index root (omega arith) at);
      same = c.step.ensures.same ∙ c.loop-root.invariant.same;
    }

pub returns-in_default-clause-walks : goal.returns-in_default-clause-walks
returns-in_default-clause-walks g c =
    let layout = c.args.layout.now in
    let region = c.args.region.now in
    let pair = word_pair layout.scheme c.args.level in
    let root = c.root-item.result in
    let at : root ≡ get_or c.args.roots.now c.loop-root.root-index 0 =
    c.root-item.is ∙ get_or_default_zero c.args.roots.now c.loop-root.root-index c.root-item.result (omega arith) in
    both_told (g.S.FileSource.told c.args.files.now)
    (λ all. GoesOn (scene_of all layout) region (map pair (take c.loop-root.root-index c.args.roots.now)) c.args.found.now.words.items c.loop-root.found.words.items)
    (λ all. Walks (scene_of all layout) region (pair root ∷ []) c.loop-root.found.words.items c.step.new.found.words.items c.in_ok-end.end) _
    (λ all on is. ends_in_level (scene_of all layout) region pair c.args.roots.now c.loop-root.root-index c.args.found.now.words.items c.loop-root.found.words.items c.step.new.found.words.items
    c.in_ok-end.end (omega arith) c.in_default.not-Partial on
    (subst (λ w. Walks (scene_of all layout) region (pair w ∷ []) c.loop-root.found.words.items c.step.new.found.words.items c.in_ok-end.end) at is)) c.loop-root.invariant.walks
    (told_same (g.S.FileSource.told c.loop-root.files) (g.S.FileSource.told c.args.files.now) _ c.loop-root.invariant.same c.in_ok-end.ensures.walks)

pub returns-in_default-clause-fetched : goal.returns-in_default-clause-fetched
returns-in_default-clause-fetched g c =
    let layout = c.args.layout.now in
    let tile = word_tile layout.scheme in
    let roots = c.args.roots.now in
    let i = c.loop-root.root-index in
    let root = c.root-item.result in
    let at : root ≡ get_or roots i 0 = c.root-item.is ∙ get_or_default_zero roots i root (omega arith) in
    let now = fetched_together layout (g.S.FileSource.told c.args.files.now) (g.S.FileSource.told c.loop-root.files) (map tile (take i roots)) (tile root ∷ []) (map tile (take (i + 1) roots)) _ _ _
    c.loop-root.invariant.fetched c.in_ok-end.ensures.fetched c.loop-root.invariant.same (mapped_more tile roots i root (omega arith) at) in
    fetched_of_first layout (g.S.FileSource.told c.args.files.now) (map tile (take (i + 1) roots)) (map tile (drop (i + 1) roots)) (map tile roots) _ _ now (in_two tile roots (i + 1))

pub returns-in_default-clause-few : goal.returns-in_default-clause-few
returns-in_default-clause-few g c =
    let layout = c.args.layout.now in
    let tile = word_tile layout.scheme in
    let roots = c.args.roots.now in
    let i = c.loop-root.root-index in
    let root = c.root-item.result in
    let at : root ≡ get_or roots i 0 = c.root-item.is ∙ get_or_default_zero roots i root (omega arith) in
    let now = fetched_together layout (g.S.FileSource.told c.args.files.now) (g.S.FileSource.told c.loop-root.files) (map tile (take i roots)) (tile root ∷ []) (map tile (take (i + 1) roots)) _ _ _
    c.loop-root.invariant.fetched c.in_ok-end.ensures.fetched c.loop-root.invariant.same (mapped_more tile roots i root (omega arith) at) in
    few_fetched layout (g.S.FileSource.told c.args.files.now) (map tile (take (i + 1) roots)) (length roots) _ _ now (few_first tile roots (i + 1))

pub returns-clause-fetched : goal.returns-clause-fetched
returns-clause-fetched g c =
    let layout = c.args.layout.now in
    let tile = word_tile layout.scheme in
    let roots = c.args.roots.now in
    let i = c.loop-root.root-index in
    fetched_of_first layout (g.S.FileSource.told c.args.files.now) (map tile (take i roots)) (map tile (drop i roots)) (map tile roots) _ _ c.loop-root.invariant.fetched (in_two tile roots i)

pub returns-clause-few : goal.returns-clause-few
returns-clause-few g c =
    let layout = c.args.layout.now in
    let tile = word_tile layout.scheme in
    let roots = c.args.roots.now in
    let i = c.loop-root.root-index in
    few_fetched layout (g.S.FileSource.told c.args.files.now) (map tile (take i roots)) (length roots) _ _ c.loop-root.invariant.fetched (few_first tile roots i)

pub returns-in_default-clause-roots : goal.returns-in_default-clause-roots
returns-in_default-clause-roots g c = told_always (g.S.FileSource.told c.args.files.now) _ (λ all goes. absurd (c.in_default.not-Partial goes))

pub returns-clause-roots : goal.returns-clause-roots
returns-clause-roots g c =
    let layout = c.args.layout.now in
    of_told (g.S.FileSource.told c.args.files.now) _ _ (λ all on goes. on ∙ ap (λ ws. map (word_tile layout.scheme) c.args.found.now.next.items
    ++ flat_map (λ w. next_roots (scene_of all layout) c.args.region.now c.args.level (word_tile layout.scheme w)) ws) (take_all _ _ (omega arith))) c.loop-root.invariant.roots_on
