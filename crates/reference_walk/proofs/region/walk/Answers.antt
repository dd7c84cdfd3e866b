use Rattle.std.proofs.Common.{◌≡◌, ◌≤◌, ◌+◌, ◌++◌, [], List, ℕ, ◌∙◌, map, length, refl, ap, sym, subst, arith}
use Rattle.std.specs.List.{flat_map, All}
use Rattle.std.proofs.lemmas.List.Elements.{All-nil}
use Rattle.implicit_tiling.specs.Code.{word_tile}
use Rattle.implicit_tiling.specs.Region.{Region}
use Rattle.implicit_tiling.specs.Scene.{Layout}
use Rattle.implicit_tiling.specs.Steps.{root_level}
use Rattle.implicit_tileset.specs.Scene.{scene_of}
use Rattle.scene_ports.specs.Counts.{more_by}
use Rattle.walk_laws.specs.Pairs.{pairs_above}
use Rattle.tile_coords.specs.declared.walk_end.WalkEnd.{WalkEnd}
use Rattle.tile_coords.specs.declared.walk_end.WalkEnd.TheVariants.{Partial}
use Rattle.tile_word.specs.Roots.{AreRoots}
use Rattle.subtree_outcome.specs.Found.{IsTileWord, AreTileWords}
use Rattle.subtree_outcome.specs.Fetched.{cost_of_all}
use Rattle.reference_walk.specs.Walks.{cost_of_pairs, GoesOn, Walks, word_pair, next_roots, is_last, frontier_if, IsWalked}
use Rattle.subtree_outcome.proofs.Reading.{both_told, three_told, of_told, told_same, told_always}
use Rattle.subtree_outcome.proofs.Counting.{stays}
use Rattle.reference_walk.proofs.Walks.{one_level_more, answer_at_level, complete_answer, read_one_level, read_at_most}
use Rattle.tile_walk.proofs.Roots.{first_roots_are}
use Rattle.reference_walk.proofs.Frontier.{IsAt, begins, roots_if_next, is_at_next}
use Rattle.reference_walk.proofs.region.walk.Goals as goal

pub loop-level-init : goal.loop-level-init
loop-level-init g c =
    let layout = c.args.layout.now in
    let scheme = ap (λ (l : Layout). l.scheme) c.layout.view_is in
    let levels = ap (λ (l : Layout). l.levels) c.layout.view_is in
    let some : 1 ≤ layout.levels = omega (arith, levels, c.layout.invariant.some_levels) in
    let P : ℕ → Type 0 = λ l. AreRoots layout l c.in_ok-roots.roots.items in
    let W : List ℕ → Type 0 = AreTileWords layout in
    let first : 0 ≡ root_level layout 0 = omega arith in
    record {
      at = told_always (g.S.FileSource.told c.args.files.now) (λ all. IsAt (scene_of all layout) c.args.region.now 0 c.in_ok-roots.roots.items c.args.found.now.words.items)
          (λ all. begins (scene_of all layout) c.args.region.now c.layout.inside.scheme c.in_ok-roots.roots.items c.args.found.now.words.items scheme some c.requires.region.is_region
          c.in_ok-roots.ensures c.requires.empty);
      roots_are = subst P first (first_roots_are layout c.layout.inside.scheme c.in_ok-roots.roots.items scheme some c.in_ok-roots.ensures);
      found = record { are_words = subst W (sym c.requires.empty) (All-nil (IsTileWord layout.scheme layout.levels (length layout.contents))); few = omega (arith, ap (length {A = ℕ}) c.requires.empty) };
      none = c.requires.none;
      later = omega arith;
      sure = refl;
      fetched = told_always (g.S.FileSource.told c.args.files.now) _ (λ all. omega arith);
      same = refl;
    }

pub walk_level-requires-clause-roots : goal.walk_level-requires-clause-roots
walk_level-requires-clause-roots g c =
    let P : List ℕ → Type 0 = AreRoots c.args.layout.now (root_level c.args.layout.now c.loop-level.level) in
    subst P (sym c.deref.ensures.value) c.loop-level.invariant.roots_are

pub walk_level-requires-clause-on_walk : goal.walk_level-requires-clause-on_walk
walk_level-requires-clause-on_walk g c =
    let layout = c.args.layout.now in
    let region = c.args.region.now in
    let walked = of_told (g.S.FileSource.told c.args.files.now) (λ all. IsAt (scene_of all layout) region c.loop-level.level c.loop-level.roots.items c.loop-level.found.words.items)
    (λ all. All (IsWalked (scene_of all layout) region c.loop-level.level) c.deref.result.now)
    (λ all at. let P : List ℕ → Type 0 = All (IsWalked (scene_of all layout) region c.loop-level.level) in subst P (sym c.deref.ensures.value) at.walked) c.loop-level.invariant.at in
    told_same (g.S.FileSource.told c.args.files.now) (g.S.FileSource.told c.loop-level.files) _ (sym c.loop-level.invariant.same) walked

pub returns-in_default-clause-answer : goal.returns-in_default-clause-answer
returns-in_default-clause-answer g c =
    let layout = c.args.layout.now in
    let region = c.args.region.now in
    let levels = ap (λ (l : Layout). l.subtree_levels) c.layout.view_is in
    let some : 1 ≤ layout.subtree_levels = omega (arith, levels, c.layout.invariant.some_subtree_levels) in
    let same = ap (λ (r : Region). r.level) c.region.view_is in
    let low : c.loop-level.level ≤ region.level = omega (arith, c.loop-level-test.true, same) in
    both_told (g.S.FileSource.told c.args.files.now) (λ all. IsAt (scene_of all layout) region c.loop-level.level c.loop-level.roots.items c.loop-level.found.words.items)
    (λ all. Walks (scene_of all layout) region (map (word_pair layout.scheme c.loop-level.level) c.deref.result.now) c.loop-level.found.words.items c.walk_level.new.found.words.items c.in_ok-end.end) _
    (λ all at is. let s = scene_of all layout in
    let P : List ℕ → Type 0 = λ ws. Walks s region (map (word_pair layout.scheme c.loop-level.level) ws) c.loop-level.found.words.items c.walk_level.new.found.words.items c.in_ok-end.end in
    answer_at_level s region c.loop-level.level c.walk_level.new.found.words.items c.in_ok-end.end some low c.in_default.not-Partial c.in_ok-end.ensures.end
    (one_level_more s region c.loop-level.level c.loop-level.roots.items c.loop-level.found.words.items c.walk_level.new.found.words.items c.in_ok-end.end at.tiles at.goes (subst P c.deref.ensures.value is)))
    c.loop-level.invariant.at
    (told_same (g.S.FileSource.told c.loop-level.files) (g.S.FileSource.told c.args.files.now)
    (λ all. Walks (scene_of all layout) region (map (word_pair layout.scheme c.loop-level.level) c.deref.result.now) c.loop-level.found.words.items c.walk_level.new.found.words.items c.in_ok-end.end)
    c.loop-level.invariant.same c.in_ok-end.ensures.walks)

pub loop-level-preserved : goal.loop-level-preserved
loop-level-preserved g c =
    let layout = c.args.layout.now in
    let region = c.args.region.now in
    let level = c.loop-level.level in
    let roots = c.loop-level.roots.items in
    let words = c.loop-level.found.words.items in
    let next = c.walk_level.new.found.next.items in
    let after = c.walk_level.new.found.words.items in
    let levels = ap (λ (l : Layout). l.subtree_levels) c.layout.view_is in
    let some : 1 ≤ layout.subtree_levels = omega (arith, levels, c.layout.invariant.some_subtree_levels) in
    let came = c.frontier-roots.ensures ∙ ap (frontier_if (is_last layout level) roots) (ap (λ v. v.items) c.replace-next.ensures.value) in
    record {
      at = three_told (g.S.FileSource.told c.args.files.now) (λ all. IsAt (scene_of all layout) region level roots words)
          (λ all. Walks (scene_of all layout) region (map (word_pair layout.scheme level) c.deref.result.now) words after c.in_ok-end.end)
          (λ all. c.in_ok-end.end ≡ Partial → map (word_tile layout.scheme) next ≡ map (word_tile layout.scheme) c.loop-level.found.next.items
          ++ flat_map (λ w. next_roots (scene_of all layout) region level (word_tile layout.scheme w)) c.deref.result.now) _
          (λ all at is found. let s = scene_of all layout in
          let P : WalkEnd → Type 0 = Walks s region (map (word_pair layout.scheme level) c.deref.result.now) words after in
          let Q : List ℕ → Type 0 = λ ws. GoesOn s region (map (word_pair layout.scheme level) ws) words after in
          let same = c.deref.ensures.value in
          let rest = λ (ws : List ℕ). map (word_tile layout.scheme) c.loop-level.found.next.items ++ flat_map (λ w. next_roots s region level (word_tile layout.scheme w)) ws in
          is_at_next s region level (is_last layout level) roots next c.frontier-roots.result.items c.loop-level.found.next.items words after some refl c.loop-level.invariant.roots_are at
          (subst Q same (subst P c.in-Partial.is is)) c.loop-level.invariant.none (found c.in-Partial.is ∙ ap rest same) came)
          c.loop-level.invariant.at
          (told_same (g.S.FileSource.told c.loop-level.files) (g.S.FileSource.told c.args.files.now) _ c.loop-level.invariant.same c.in_ok-end.ensures.walks)
          (told_same (g.S.FileSource.told c.loop-level.files) (g.S.FileSource.told c.args.files.now) _ c.loop-level.invariant.same c.in_ok-end.ensures.roots);
      roots_are = roots_if_next layout level (is_last layout level) roots next c.frontier-roots.result.items some refl c.loop-level.invariant.roots_are c.in_ok-end.ensures.next came;
      found = c.in_ok-end.ensures.found;
      none = ap (λ v. v.items) c.replace-next.ensures.after ∙ c.new.ensures.items;
      later = omega (arith, c.loop-level.invariant.later, c.walk_level.ensures.later);
      sure = stays c.walk_level.result _ _ _ _ _ c.in_ok-end.was c.walk_level.ensures.sure c.loop-level.invariant.sure;
      fetched = three_told (g.S.FileSource.told c.args.files.now) (λ all. IsAt (scene_of all layout) region level roots words)
          (λ all. g.S.FileSource.fetches c.loop-level.files ≤ more_by (cost_of_pairs all layout (pairs_above (scene_of all layout) region level)) (g.S.FileSource.fetches c.args.files.now))
          (λ all. g.S.FileSource.fetches c.walk_level.new.files ≤ more_by (cost_of_all all layout (map (word_tile layout.scheme) c.deref.result.now)) (g.S.FileSource.fetches c.loop-level.files)) _
          (λ all at so more. read_one_level all (scene_of all layout) region level roots c.deref.result.now _ _ _ c.deref.ensures.value at.tiles so more)
          c.loop-level.invariant.at c.loop-level.invariant.fetched
          (told_same (g.S.FileSource.told c.loop-level.files) (g.S.FileSource.told c.args.files.now) _ c.loop-level.invariant.same c.in_ok-end.ensures.fetched);
      same = c.walk_level.ensures.same ∙ c.loop-level.invariant.same;
    }

pub returns-in_default-clause-fetched : goal.returns-in_default-clause-fetched
returns-in_default-clause-fetched g c =
    let layout = c.args.layout.now in
    let region = c.args.region.now in
    let level = c.loop-level.level in
    let same = ap (λ (r : Region). r.level) c.region.view_is in
    three_told (g.S.FileSource.told c.args.files.now) (λ all. IsAt (scene_of all layout) region level c.loop-level.roots.items c.loop-level.found.words.items)
    (λ all. g.S.FileSource.fetches c.loop-level.files ≤ more_by (cost_of_pairs all layout (pairs_above (scene_of all layout) region level)) (g.S.FileSource.fetches c.args.files.now))
    (λ all. g.S.FileSource.fetches c.walk_level.new.files ≤ more_by (cost_of_all all layout (map (word_tile layout.scheme) c.deref.result.now)) (g.S.FileSource.fetches c.loop-level.files)) _
    (λ all at so more. let s = scene_of all layout in
    read_at_most all s region (level + 1) _ _ (omega (arith, c.loop-level-test.true, same))
    (read_one_level all s region level c.loop-level.roots.items c.deref.result.now _ _ _ c.deref.ensures.value at.tiles so more))
    c.loop-level.invariant.at c.loop-level.invariant.fetched
    (told_same (g.S.FileSource.told c.loop-level.files) (g.S.FileSource.told c.args.files.now) _ c.loop-level.invariant.same c.in_ok-end.ensures.fetched)

pub returns-clause-fetched : goal.returns-clause-fetched
returns-clause-fetched g c =
    let layout = c.args.layout.now in
    let region = c.args.region.now in
    let same = ap (λ (r : Region). r.level) c.region.view_is in
    of_told (g.S.FileSource.told c.args.files.now)
    (λ all. g.S.FileSource.fetches c.loop-level.files ≤ more_by (cost_of_pairs all layout (pairs_above (scene_of all layout) region c.loop-level.level)) (g.S.FileSource.fetches c.args.files.now)) _
    (λ all so. read_at_most all (scene_of all layout) region c.loop-level.level _ _ (omega (arith, c.loop-level-test.false, c.loop-level.auto.level-end, same)) so)
    c.loop-level.invariant.fetched

pub returns-clause-answer : goal.returns-clause-answer
returns-clause-answer g c =
    let layout = c.args.layout.now in
    let region = c.args.region.now in
    let levels = ap (λ (l : Layout). l.subtree_levels) c.layout.view_is in
    let some : 1 ≤ layout.subtree_levels = omega (arith, levels, c.layout.invariant.some_subtree_levels) in
    let same = ap (λ (r : Region). r.level) c.region.view_is in
    let end : c.loop-level.level ≡ region.level + 1 = omega (arith, c.loop-level-test.false, c.loop-level.auto.level-end, same) in
    of_told (g.S.FileSource.told c.args.files.now) (λ all. IsAt (scene_of all layout) region c.loop-level.level c.loop-level.roots.items c.loop-level.found.words.items) _
    (λ all at. let s = scene_of all layout in
    let P : ℕ → Type 0 = λ l. GoesOn s region (pairs_above s region l) [] c.loop-level.found.words.items in
    complete_answer s region c.loop-level.found.words.items some (subst P end at.goes)) c.loop-level.invariant.at
