use Rattle.std.proofs.Common.{◌≡◌, ◌≤◌, []}
use Rattle.std.specs.Prelude.{IfSome}
use Rattle.implicit_tiling.specs.Steps.{root_level}
use Rattle.implicit_tileset.specs.Scene.{scene_of}
use Rattle.scene_ports.specs.Counts.{more_by}
use Rattle.walk_laws.specs.Pairs.{pairs_above}
use Rattle.tile_word.specs.Roots.{AreRoots}
use Rattle.subtree_outcome.specs.Found.{AreTilesOf}
use Rattle.reference_walk.specs.Walks.{cost_of_pairs}
use Rattle.reference_walk.proofs.Frontier.{IsAt}
use Rattle.reference_walk.proofs.region.walk.Given as goal

abbrev pub invariant-loop-level : goal.invariant-loop-level
invariant-loop-level g l = record {
  at : IfSome (g.S.FileSource.told l.fn.files) (λ all. IsAt (scene_of all l.fn.layout) l.fn.region l.level l.roots.items l.found.words.items);
  roots_are : AreRoots l.fn.layout (root_level l.fn.layout l.level) l.roots.items;
  found : AreTilesOf l.fn.layout l.found.words.items;
  none : l.found.next.items ≡ [];
  later : g.S.FileSource.faults l.fn.files ≤ g.S.FileSource.faults l.files;
  sure : g.S.FileSource.faults l.files ≡ g.S.FileSource.faults l.fn.files;
  fetched : IfSome (g.S.FileSource.told l.fn.files)
      (λ all. g.S.FileSource.fetches l.files ≤ more_by (cost_of_pairs all l.fn.layout (pairs_above (scene_of all l.fn.layout) l.fn.region l.level)) (g.S.FileSource.fetches l.fn.files));
  same : g.S.FileSource.told l.files ≡ g.S.FileSource.told l.fn.files;
}
