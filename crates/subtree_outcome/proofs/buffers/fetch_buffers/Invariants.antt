use Rattle.std.proofs.Common.{◌≡◌, ◌≤◌, map, take}
use Rattle.std.specs.Prelude.{IfSome, string_bytes}
use Rattle.implicit_tiling.specs.Files.{file}
use Rattle.implicit_tiling.specs.Limits.{most_file_bytes}
use Rattle.scene_ports.specs.Counts.{more_by}
use Rattle.subtree_file.specs.Buffers.{AreFetched, left_after}
use Rattle.subtree_outcome.proofs.buffers.fetch_buffers.Given as goal

abbrev pub invariant-loop-name : goal.invariant-loop-name
invariant-loop-name g l = record {
  fetched : IfSome (g.S.FileSource.told l.fn.files) (λ all. AreFetched (λ n. file n all) most_file_bytes (map string_bytes (take l.name-index l.fn.names)) l.buffers.items);
  left : l.left ≡ left_after most_file_bytes l.buffers.items;
  low : l.left ≤ most_file_bytes;
  counted : g.S.FileSource.fetches l.files ≡ more_by l.name-index (g.S.FileSource.fetches l.fn.files);
  sure : g.S.FileSource.faults l.files ≡ g.S.FileSource.faults l.fn.files;
  later : g.S.FileSource.faults l.fn.files ≤ g.S.FileSource.faults l.files;
  same : g.S.FileSource.told l.files ≡ g.S.FileSource.told l.fn.files;
}
