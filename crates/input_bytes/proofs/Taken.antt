-- Bytes that are taken one block after another.
use Rattle.std.proofs.Common.{◌≡◌, ℕ, ◌+◌, ◌-◌, ◌^◌, ◌≤◌, List, [], ◌++◌, refl, sym, ap, ◌∙◌, subst, append-nil, arith, max, min}
use Rattle.std.specs.Prelude.{Option, Some, None}
use Rattle.std.specs.Io.KnownBytes.{Consumes, Keeps, IsAtEnd}
use Rattle.scene_ports.specs.Counts.{more_by}
use Rattle.input_bytes.specs.Input.{IsWhole}

-- at the end all was taken
pub all_taken : (before now last : Option (List ℕ)) (bytes : List ℕ) → Consumes before now bytes → IsAtEnd now → Keeps now last → IsWhole before last bytes
all_taken None now last bytes taken end kept = tt
all_taken (Some left) None last bytes taken end kept = absurd taken
all_taken (Some left) (Some rest) None bytes taken end kept = absurd kept
all_taken (Some left) (Some rest) (Some more) bytes taken end kept =
    (sym (taken ∙ ap (λ r. bytes ++ r) end ∙ append-nil bytes), ap Some (kept ∙ end))

-- counts of one part and then of another are the count of both
pub more_twice : (m n count : ℕ) → more_by n (more_by m count) ≡ more_by (m + n) count
more_twice m n count = grind (arith)
