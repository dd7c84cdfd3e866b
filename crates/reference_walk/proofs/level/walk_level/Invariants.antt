use Rattle.std.proofs.Common.{◌≡◌, ◌+◌, ◌≤◌, ◌++◌, take, map}
use Rattle.std.specs.Prelude.{IfSome}
use Rattle.std.specs.List.{flat_map}
use Rattle.implicit_tiling.specs.Code.{word_tile}
use Rattle.implicit_tileset.specs.Scene.{scene_of}
use Rattle.subtree_outcome.specs.Fetched.{HasFetched}
use Rattle.tile_word.specs.Roots.{AreRoots}
use Rattle.subtree_outcome.specs.Found.{AreTilesOf}
use Rattle.reference_walk.specs.Walks.{GoesOn, word_pair, next_roots}
use Rattle.reference_walk.proofs.level.walk_level.Given as goal

abbrev pub invariant-loop-root : goal.invariant-loop-root
invariant-loop-root g l = record {
  walks : IfSome (g.S.FileSource.told l.fn.files)
      (λ all. GoesOn (scene_of all l.fn.layout) l.fn.region (map (word_pair l.fn.layout.scheme l.fn.level) (take l.root-index l.fn.roots)) l.fn.found.words.items l.found.words.items);
  roots_on : IfSome (g.S.FileSource.told l.fn.files)
      (λ all. map (word_tile l.fn.layout.scheme) l.found.next.items ≡ map (word_tile l.fn.layout.scheme) l.fn.found.next.items
      ++ flat_map (λ w. next_roots (scene_of all l.fn.layout) l.fn.region l.fn.level (word_tile l.fn.layout.scheme w)) (take l.root-index l.fn.roots));
  found : AreTilesOf l.fn.layout l.found.words.items;
  next : AreRoots l.fn.layout (l.fn.level + 1) l.found.next.items;
  later : g.S.FileSource.faults l.fn.files ≤ g.S.FileSource.faults l.files;
  sure : g.S.FileSource.faults l.files ≡ g.S.FileSource.faults l.fn.files;
  fetched : HasFetched l.fn.layout (g.S.FileSource.told l.fn.files) (map (word_tile l.fn.layout.scheme) (take l.root-index l.fn.roots)) (g.S.FileSource.fetches l.fn.files) (g.S.FileSource.fetches l.files);
  same : g.S.FileSource.told l.files ≡ g.S.FileSource.told l.fn.files;
}
