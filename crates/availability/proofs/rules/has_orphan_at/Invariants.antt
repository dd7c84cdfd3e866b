use Rattle.std.proofs.Common.{◌*◌}
use Rattle.availability.proofs.Orphans.{NoOrphanBefore}
use Rattle.availability.proofs.rules.has_orphan_at.Given as goal

abbrev pub invariant-loop-word : goal.invariant-loop-word
invariant-loop-word l = NoOrphanBefore l.fn.scheme l.tiles l.local (64 * l.word)
