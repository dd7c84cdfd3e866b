use Rattle.std.proofs.Common.{◌≡◌, ℕ, List, ◌≤◌, ◌<◌, ◌+◌, ◌-◌, ◌*◌, ◌^◌, length, None}
use Rattle.std.specs.Prelude.{IfSome, ◌≢◌}
use Rattle.implicit_tileset.specs.Scene.{scene_of}
use Rattle.tile_coords.specs.declared.walk_end.WalkEnd.TheVariants.{Partial}
use Rattle.region_cursor.specs.Cursor.{IsWalkOf, IsRootKey, cursor_key}
use Rattle.subtree_outcome.specs.Found.{AreTilesOf, EndsWithin}
use Rattle.framed_walk.specs.Frames.{AreAtRest}
use Rattle.framed_walk.specs.Reads.{HasRead}
use Rattle.framed_walk.proofs.Reading.{IsWalkedBy}
use Rattle.framed_walk.proofs.walk.walk.Given as goal

abbrev pub invariant-loop-next : goal.invariant-loop-next
invariant-loop-next g l = record {
  rest : AreAtRest l.fn.layout (g.S.FileSource.told l.fn.files) l.pool;
  of_layout : IsWalkOf l.fn.layout l.fn.cursor.region l.cursor;
  within : l.cursor.level ≤ l.cursor.region.level;
  count : l.cursor.count ≡ length l.words.items;
  next_is : l.next ≡ cursor_key l.cursor;
  root : IfSome l.next (IsRootKey l.cursor);
  few : length l.cursor.roots < 2 ^ 64;
  found : AreTilesOf l.fn.layout l.words.items;
  end_is : EndsWithin l.fn.layout l.end;
  over : l.next ≡ None → l.end ≢ Partial;
  read : (keys : List ℕ) × HasRead l.fn.layout (g.S.FileSource.told l.fn.files) l.fn.pool keys l.pool (g.S.FileSource.fetches l.fn.files) (g.S.FileSource.fetches l.files)
      × IfSome (g.S.FileSource.told l.fn.files) (λ all. IsWalkedBy (scene_of all l.fn.layout) l.fn.cursor.region l.cursor l.next l.words.items l.end keys);
  sure : g.S.FileSource.faults l.files ≡ g.S.FileSource.faults l.fn.files;
  later : g.S.FileSource.faults l.fn.files ≤ g.S.FileSource.faults l.files;
  same : g.S.FileSource.told l.files ≡ g.S.FileSource.told l.fn.files;
}

abbrev pub decreases-loop-next : goal.decreases-loop-next
decreases-loop-next g l = (l.cursor.region.level - l.cursor.level) * 2 ^ 64 + (length l.cursor.roots - l.cursor.position)
