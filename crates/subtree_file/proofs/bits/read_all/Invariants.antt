use Rattle.std.proofs.Common.{◌≡◌, false, map, take}
use Rattle.std.specs.List.{list_any}
use Rattle.subtree_file.specs.Buffers.{sources_seen}
use Rattle.subtree_file.proofs.Viewed.{miscounted, bits_at}
use Rattle.subtree_file.proofs.bits.read_all.Given as goal

abbrev pub invariant-loop-one : goal.invariant-loop-one
invariant-loop-one l = record {
  read : l.all.items ≡ map (bits_at (sources_seen l.sources)) (take l.one-index l.used);
  counted : list_any (miscounted (sources_seen l.sources)) (take l.one-index l.used) ≡ false;
}
