use Rattle.std.proofs.Common.{◌≡◌, length, map, take}
use Rattle.serde_json.specs.View.{view}
use Rattle.subtree_write.specs.Canonical.{availability_values}
use Rattle.subtree_write.specs.Added.{Adds}
use Rattle.subtree_write.proofs.streams.Streams.write_each.Given as goal

abbrev pub invariant-loop-bits : goal.invariant-loop-bits
invariant-loop-bits l = record {
  values : map view l.values.items ≡ availability_values (length l.initial.self.views.items) (take l.bits-index l.availabilities);
  added : Adds l.initial.self l.self (take l.bits-index l.availabilities);
}
