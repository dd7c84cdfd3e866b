-- An input that is taken whole (this project's own).
use Rattle.std.specs.Prelude.{ℕ, ◌≡◌, ◌<◌, ◌≤◌, List, [], Option, Some, None}
use Rattle.scene_ports.specs.Counts.{more_by}

-- the most bytes of an input
abbrev pub most_input_bytes : ℕ
most_input_bytes = 1048576

-- the bytes are all that was left, and nothing is left now, where the inlet told what it had left
abbrev pub IsWhole : Option (List ℕ) → Option (List ℕ) → List ℕ → Type 0
IsWhole None now bytes = Unit {0}
IsWhole (Some left) now bytes = (bytes ≡ left) × (now ≡ Some [])

-- by the counts of the bytes that were taken, before and now: more of them than an input may have
abbrev pub IsLong : ℕ → ℕ → Type 0
IsLong before now = (n : ℕ) × (most_input_bytes < n) × (now ≡ more_by n before)

-- and no more of them than that
abbrev pub IsShort : ℕ → ℕ → Type 0
IsShort before now = (n : ℕ) × (n ≤ most_input_bytes) × (now ≡ more_by n before)
