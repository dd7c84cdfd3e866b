use Rattle.std.proofs.Common.{◌≡◌, ◌<◌, ◌+◌, ◌*◌, ◌^◌, ℕ, length, slice_index}
use Rattle.sharing_trials.proofs.prefixes.some_numbers.Given as goal

abbrev pub invariant-loop-i : goal.invariant-loop-i
invariant-loop-i l = (length l.words.items ≡ l.i) × ((j : ℕ) → j < l.i → slice_index l.words.items j ≡ (l.first + j) * 2 ^ 64 + (l.first + j))
