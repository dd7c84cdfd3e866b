use Rattle.std.proofs.Common.{◌≡◌, ℕ, ◌≤◌, ◌<◌, ◌^◌, false}
use Rattle.implicit_tiling.specs.Tile.{branching}
use Rattle.availability.specs.Rules.{raw_orphan}
use Rattle.availability.proofs.subtree.Subtree.has_orphan.Given as goal

abbrev pub invariant-loop-local : goal.invariant-loop-local
invariant-loop-local l = (n m : ℕ) → 1 ≤ n → n < l.local → m < branching l.self.scheme ^ n → raw_orphan l.self.scheme l.self.tiles n m ≡ false
