use Rattle.std.proofs.Common.{◌≡◌, ◌+◌, ◌*◌, ◌≤◌, ◌++◌, length, take, map}
use Rattle.std.specs.Prelude.{IfSome}
use Rattle.std.specs.List.{flat_map}
use Rattle.implicit_tiling.specs.Checked.{most_roots}
use Rattle.implicit_tiling.specs.Code.{word_tile}
use Rattle.implicit_tileset.specs.Scene.{scene_of}
use Rattle.subtree_outcome.specs.Fetched.{HasFetched}
use Rattle.walk_laws.specs.Children.{roots_below}
use Rattle.tile_word.specs.Roots.{AreRoots}
use Rattle.tile_walk.specs.Checks.{found_faults, AreFaults}
use Rattle.tile_walk.proofs.tileset.check_roots.Given as goal

abbrev pub invariant-loop-root : goal.invariant-loop-root
invariant-loop-root g l = record {
  faults_on : IfSome (g.S.FileSource.told l.fn.files)
      (λ all. l.found.items ≡ l.fn.found.items ++ found_faults (scene_of all l.fn.layout) (take l.root-index l.fn.frontier.roots.items));
  roots_on : IfSome (g.S.FileSource.told l.fn.files)
      (λ all. map (word_tile l.fn.layout.scheme) l.next.items ≡ take (most_roots + 1) (map (word_tile l.fn.layout.scheme) l.fn.next.items
      ++ flat_map (λ w. roots_below (scene_of all l.fn.layout) l.fn.region (word_tile l.fn.layout.scheme w)) (take l.root-index l.fn.frontier.roots.items)));
  kept : length l.next.items ≤ most_roots + 1;
  count_is : l.count ≡ l.fn.frontier.looked + l.root-index;
  few : l.count ≤ most_roots;
  next_are : AreRoots l.fn.layout (l.fn.frontier.turn * l.fn.layout.subtree_levels + l.fn.layout.subtree_levels) l.next.items;
  faults_are : AreFaults l.fn.layout l.found.items;
  later : g.S.FileSource.faults l.fn.files ≤ g.S.FileSource.faults l.files;
  sure : g.S.FileSource.faults l.files ≡ g.S.FileSource.faults l.fn.files;
  fetched : HasFetched l.fn.layout (g.S.FileSource.told l.fn.files) (map (word_tile l.fn.layout.scheme) (take l.root-index l.fn.frontier.roots.items)) (g.S.FileSource.fetches l.fn.files) (g.S.FileSource.fetches l.files);
  same : g.S.FileSource.told l.files ≡ g.S.FileSource.told l.fn.files;
}
