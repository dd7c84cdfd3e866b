-- For proofs and inner functions: what is hashed of a word, its two numbers.
use Rattle.std.specs.Prelude.{ℕ, ◌/◌, ◌%◌, ◌^◌, List, ◌++◌}
use Rattle.std.specs.Hash as fed

abbrev pub fed_word : ℕ → List (List ℕ)
fed_word w = fed.u64 (w / 2 ^ 64) ++ fed.u64 (w % 2 ^ 64)
