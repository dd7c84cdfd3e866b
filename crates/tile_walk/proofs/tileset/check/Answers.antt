use Rattle.std.proofs.Common.{◌≡◌, ◌≤◌, ◌+◌, ◌-◌, ◌*◌, ◌%◌, ◌∙◌, ◌++◌, List, ℕ, map, take, refl, ap, sym, subst, arith}
use Rattle.std.specs.Prelude.{false}
use Rattle.std.specs.List.{flat_map, All}
use Rattle.std.proofs.lemmas.Nat.{mod-mul-add}
use Rattle.implicit_tiling.specs.Checked.{most_roots}
use Rattle.implicit_tiling.specs.Code.{word_tile}
use Rattle.implicit_tiling.specs.Region.{Region}
use Rattle.implicit_tiling.specs.Scene.{Layout}
use Rattle.implicit_tileset.specs.Scene.{scene_of}
use Rattle.tile_coords.specs.declared.walk_end.CheckEnd.{CheckEnd}
use Rattle.tile_coords.specs.declared.walk_end.FoundFault.{FoundFault}
use Rattle.std.proofs.lemmas.List.Elements.{All-nil}
use Rattle.walk_laws.specs.Children.{roots_below}
use Rattle.walk_laws.specs.Frontiers.{whole_of}
use Rattle.tile_walk.specs.Checks.{IsOnWalk, found_faults, IsFault, AreFaults}
use Rattle.subtree_outcome.proofs.Reading.{both_told, three_told, of_told, told_same, told_always}
use Rattle.subtree_outcome.proofs.Counting.{stays}
use Rattle.tile_walk.proofs.Roots.{kept_on_walk, first_roots_are}
use Rattle.tile_walk.proofs.Checking.{IsCheckedTo, check_begins, check_is_cut, check_goes_on, check_is_all, roots_at}
use Rattle.tile_walk.proofs.Looking.{looked_at_none, looked_at_more, looked_at_cut, looked_at_all}
use Rattle.tile_walk.proofs.tileset.check.Goals as goal

-- a level where subtrees begin
starts : (turn n : ℕ) → 1 ≤ n → turn * n % n ≡ 0
starts turn n some = let whole : turn * n ≡ turn * n + 0 = omega arith in ap (λ l. l % n) whole ∙ mod-mul-add turn n 0 some

-- turns that are as many as the levels
all_turns : (turn levels n : ℕ) → 1 ≤ n → levels ≤ turn → levels ≤ turn * n
all_turns turn levels n some le = grind arith

pub loop-turn-init : goal.loop-turn-init
loop-turn-init g c =
    let layout = c.args.layout.now in
    let scheme = ap (λ (l : Layout). l.scheme) c.layout.view_is in
    let levels = ap (λ (l : Layout). l.levels) c.layout.view_is in
    let some : 1 ≤ layout.levels = omega (arith, levels, c.layout.invariant.some_levels) in
    let roots = c.in_ok-roots.roots.items in
    let none : List FoundFault → Type 0 = AreFaults layout in
    record {
      at = told_always (g.S.FileSource.told c.args.files.now) _
          (λ all. check_begins (scene_of all layout) c.layout.inside.scheme roots _ c.args.found.now.items scheme some c.in_ok-roots.ensures (omega arith) c.requires.empty);
      turn_is = refl;
      roots_are = roots_at layout 0 _ roots (omega arith) (first_roots_are layout c.layout.inside.scheme roots scheme some c.in_ok-roots.ensures);
      faults_are = subst none (sym c.requires.empty) (All-nil (IsFault layout));
      few = omega arith;
      later = omega arith;
      sure = refl;
      fetched = looked_at_none layout (g.S.FileSource.told c.args.files.now) _ _ (omega arith);
      same = refl;
    }

pub returns-then-end-clause-fetched : goal.returns-then-end-clause-fetched
returns-then-end-clause-fetched g c =
    let layout = c.args.layout.now in
    let level = c.loop-turn.frontier.turn * layout.subtree_levels in
    let roots = c.loop-turn.frontier.roots.items in
    looked_at_cut layout (g.S.FileSource.told c.args.files.now) (g.S.FileSource.told c.loop-turn.files) level roots roots c.loop-turn.frontier.looked c.loop-turn.found.items c.in_ok-end.end _ _ _
    c.loop-turn.invariant.roots_are refl c.in_ok-end.ensures.counted c.if-end.true c.loop-turn.invariant.at c.loop-turn.invariant.fetched c.in_ok-end.ensures.fetched c.loop-turn.invariant.same

pub check_roots-requires-clause-on_walk : goal.check_roots-requires-clause-on_walk
check_roots-requires-clause-on_walk g c =
    let layout = c.args.layout.now in
    let region = c.args.region.now in
    let level = c.loop-turn.frontier.turn * layout.subtree_levels in
    let here = of_told (g.S.FileSource.told c.args.files.now) (λ all. IsCheckedTo (scene_of all layout) level c.loop-turn.frontier.roots.items c.loop-turn.frontier.looked c.loop-turn.found.items)
    (λ all. All (IsOnWalk (scene_of all layout) region) c.loop-turn.frontier.roots.items)
    (λ all at. let s = scene_of all layout in
    let P : Region → Type 0 = λ r. All (IsOnWalk s r) c.loop-turn.frontier.roots.items in
    subst P (sym c.requires.region) (kept_on_walk s (whole_of s) level (most_roots + 1) c.loop-turn.frontier.roots.items at.tiles)) c.loop-turn.invariant.at in
    told_same (g.S.FileSource.told c.args.files.now) (g.S.FileSource.told c.loop-turn.files) _ (sym c.loop-turn.invariant.same) here

pub returns-then-end-clause-checked : goal.returns-then-end-clause-checked
returns-then-end-clause-checked g c =
    let layout = c.args.layout.now in
    let level = c.loop-turn.frontier.turn * layout.subtree_levels in
    let roots = c.loop-turn.frontier.roots.items in
    let end = c.in_ok-end.end in
    both_told (g.S.FileSource.told c.args.files.now) (λ all. IsCheckedTo (scene_of all layout) level roots c.loop-turn.frontier.looked c.loop-turn.found.items)
    (λ all. c.check_roots.new.found.items ≡ c.loop-turn.found.items ++ found_faults (scene_of all layout) (take (end.looked - c.loop-turn.frontier.looked) c.loop-turn.frontier.roots.items)) _
    (λ all at so. let s = scene_of all layout in
    check_is_cut s level roots c.loop-turn.frontier.looked c.loop-turn.found.items c.check_roots.new.found.items end at c.loop-turn.invariant.roots_are
    c.in_ok-end.ensures.counted c.if-end.true so)
    c.loop-turn.invariant.at
    (told_same (g.S.FileSource.told c.loop-turn.files) (g.S.FileSource.told c.args.files.now)
    (λ all. c.check_roots.new.found.items ≡ c.loop-turn.found.items ++ found_faults (scene_of all layout) (take (end.looked - c.loop-turn.frontier.looked) c.loop-turn.frontier.roots.items))
    c.loop-turn.invariant.same c.in_ok-end.ensures.found)

pub loop-turn-preserved : goal.loop-turn-preserved
loop-turn-preserved g c =
    let layout = c.args.layout.now in
    let region = c.args.region.now in
    let turn = c.loop-turn.turn in
    let level = c.loop-turn.frontier.turn * layout.subtree_levels in
    let same_turn : turn * layout.subtree_levels ≡ level = ap (λ t. t * layout.subtree_levels) (sym c.loop-turn.invariant.turn_is) in
    let up : (turn + 1) * layout.subtree_levels ≡ level + layout.subtree_levels = omega (arith, same_turn) in
    let roots = c.loop-turn.frontier.roots.items in
    let looked = c.loop-turn.frontier.looked in
    let old = c.loop-turn.found.items in
    let new = c.check_roots.new.found.items in
    let next = c.check_roots.new.next.items in
    let none = c.new-next.result.items in
    let end = c.in_ok-end.end in
    let f = word_tile layout.scheme in
    let levels = ap (λ (l : Layout). l.subtree_levels) c.layout.view_is in
    let some : 1 ≤ layout.subtree_levels = omega (arith, levels, c.layout.invariant.some_subtree_levels) in
    record {
      at = three_told (g.S.FileSource.told c.args.files.now) (λ all. IsCheckedTo (scene_of all layout) level roots looked old)
          (λ all. new ≡ old ++ found_faults (scene_of all layout) (take (end.looked - looked) c.loop-turn.frontier.roots.items))
          (λ all. end.more ≡ false → map f next ≡ take (most_roots + 1) (map f none ++ flat_map (λ w. roots_below (scene_of all layout) region (f w)) c.loop-turn.frontier.roots.items)) _
          (λ all at so more. let s = scene_of all layout in
          check_goes_on s level ((turn + 1) * layout.subtree_levels) roots none next looked old new end some (starts c.loop-turn.frontier.turn layout.subtree_levels some) up at
          c.in_ok-end.ensures.counted c.if-end.false so c.new-next.ensures.items
          (more c.if-end.false ∙ ap (take (most_roots + 1)) (ap (λ r. map f none ++ flat_map (λ w. roots_below s r (f w)) roots) c.requires.region)))
          c.loop-turn.invariant.at
          (told_same (g.S.FileSource.told c.loop-turn.files) (g.S.FileSource.told c.args.files.now) _ c.loop-turn.invariant.same c.in_ok-end.ensures.found)
          (told_same (g.S.FileSource.told c.loop-turn.files) (g.S.FileSource.told c.args.files.now) _ c.loop-turn.invariant.same c.in_ok-end.ensures.roots);
      turn_is = refl;
      roots_are = roots_at layout (level + layout.subtree_levels) ((turn + 1) * layout.subtree_levels) next (sym up) c.in_ok-end.ensures.next;
      faults_are = c.in_ok-end.ensures.faults;
      few = c.in_ok-end.ensures.counted.few;
      later = omega (arith, c.loop-turn.invariant.later, c.check_roots.ensures.later);
      sure = stays c.check_roots.result _ _ _ _ _ c.in_ok-end.was c.check_roots.ensures.sure c.loop-turn.invariant.sure;
      fetched = looked_at_more layout (g.S.FileSource.told c.args.files.now) (g.S.FileSource.told c.loop-turn.files) level ((turn + 1) * layout.subtree_levels) roots roots looked old end _ _ _
          some (starts c.loop-turn.frontier.turn layout.subtree_levels some) up refl c.in_ok-end.ensures.counted c.if-end.false c.loop-turn.invariant.at c.loop-turn.invariant.fetched c.in_ok-end.ensures.fetched c.loop-turn.invariant.same;
      same = c.check_roots.ensures.same ∙ c.loop-turn.invariant.same;
    }

pub returns-clause-checked : goal.returns-clause-checked
returns-clause-checked g c =
    let layout = c.args.layout.now in
    let level = c.loop-turn.frontier.turn * layout.subtree_levels in
    let subtree_levels = ap (λ (l : Layout). l.subtree_levels) c.layout.view_is in
    let levels = ap (λ (l : Layout). l.levels) c.layout.view_is in
    let some : 1 ≤ layout.subtree_levels = omega (arith, subtree_levels, c.layout.invariant.some_subtree_levels) in
    let some_levels : 1 ≤ layout.levels = omega (arith, levels, c.layout.invariant.some_levels) in
    let high : layout.levels ≤ level = all_turns c.loop-turn.frontier.turn layout.levels layout.subtree_levels some (omega (arith, levels, c.loop-turn-test.false, c.loop-turn.invariant.turn_is)) in
    of_told (g.S.FileSource.told c.args.files.now) (λ all. IsCheckedTo (scene_of all layout) level c.loop-turn.frontier.roots.items c.loop-turn.frontier.looked c.loop-turn.found.items) _
    (λ all at. check_is_all (scene_of all layout) level c.loop-turn.frontier.roots.items c.loop-turn.frontier.looked c.loop-turn.found.items (record { looked = c.loop-turn.frontier.looked; more = false })
    some_levels high at c.loop-turn.invariant.few refl refl) c.loop-turn.invariant.at

pub returns-clause-fetched : goal.returns-clause-fetched
returns-clause-fetched g c =
    let layout = c.args.layout.now in
    let level = c.loop-turn.frontier.turn * layout.subtree_levels in
    let subtree_levels = ap (λ (l : Layout). l.subtree_levels) c.layout.view_is in
    let levels = ap (λ (l : Layout). l.levels) c.layout.view_is in
    let some : 1 ≤ layout.subtree_levels = omega (arith, subtree_levels, c.layout.invariant.some_subtree_levels) in
    let some_levels : 1 ≤ layout.levels = omega (arith, levels, c.layout.invariant.some_levels) in
    let high : layout.levels ≤ level = all_turns c.loop-turn.frontier.turn layout.levels layout.subtree_levels some (omega (arith, levels, c.loop-turn-test.false, c.loop-turn.invariant.turn_is)) in
    looked_at_all layout (g.S.FileSource.told c.args.files.now) level c.loop-turn.frontier.roots.items c.loop-turn.frontier.looked c.loop-turn.found.items _ _ some_levels high c.loop-turn.invariant.few c.loop-turn.invariant.at c.loop-turn.invariant.fetched
