use Rattle.std.proofs.Common.{◌≡◌, ◌*◌, ◌≤◌}
use Rattle.std.specs.Prelude.{IfSome}
use Rattle.implicit_tiling.specs.Checked.{most_roots}
use Rattle.implicit_tileset.specs.Scene.{scene_of}
use Rattle.tile_word.specs.Roots.{AreRoots}
use Rattle.tile_walk.specs.Checks.{AreFaults}
use Rattle.tile_walk.proofs.Checking.{IsCheckedTo}
use Rattle.tile_walk.proofs.Looking.{HasLookedTo}
use Rattle.tile_walk.proofs.tileset.check.Given as goal

abbrev pub invariant-loop-turn : goal.invariant-loop-turn
invariant-loop-turn g l = record {
  at : IfSome (g.S.FileSource.told l.fn.files)
      (λ all. IsCheckedTo (scene_of all l.fn.layout) (l.frontier.turn * l.fn.layout.subtree_levels) l.frontier.roots.items l.frontier.looked l.found.items);
  turn_is : l.frontier.turn ≡ l.turn;
  roots_are : AreRoots l.fn.layout (l.frontier.turn * l.fn.layout.subtree_levels) l.frontier.roots.items;
  faults_are : AreFaults l.fn.layout l.found.items;
  few : l.frontier.looked ≤ most_roots;
  later : g.S.FileSource.faults l.fn.files ≤ g.S.FileSource.faults l.files;
  sure : g.S.FileSource.faults l.files ≡ g.S.FileSource.faults l.fn.files;
  fetched : HasLookedTo l.fn.layout (g.S.FileSource.told l.fn.files) (l.frontier.turn * l.fn.layout.subtree_levels) l.frontier.looked (g.S.FileSource.fetches l.fn.files) (g.S.FileSource.fetches l.files);
  same : g.S.FileSource.told l.files ≡ g.S.FileSource.told l.fn.files;
}
