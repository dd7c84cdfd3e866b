use Rattle.std.proofs.Common.{◌≡◌, ◌≤◌, ℕ, Some}
use Rattle.std.specs.List.{slice_get}
use Rattle.std.specs.Arc.{arc_value}
use Rattle.std.specs.Vec.{vec_len}
use Rattle.shared_pool.proofs.host.shares.Given as goal

abbrev pub invariant-loop : goal.invariant-loop
invariant-loop g l = record {
  many : vec_len l.locks ≡ l.counter;
  same : (j : ℕ) (k : _) → slice_get l.locks.items j ≡ Some k → arc_value k ≡ arc_value l.lock;
}
