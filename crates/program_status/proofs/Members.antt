-- Members of sets of statuses.
use Rattle.std.proofs.Common.{ℕ, zero, suc, ◌≤◌, Bool, true, false, List, ◌∷◌, arith}
use Rattle.std.specs.Prelude.{◌||◌}
use Rattle.std.specs.List.{list_any}
use Rattle.program_status.specs.declared.status.Status.{Status}
use Rattle.program_status.specs.declared.status.Status.TheVariants.{BadLayout}
use Rattle.program_status.specs.Sets.{IsOneOf, Passes, is_same, layout_faults}

passes_or : (a b : Bool) → Passes b → Passes (a || b)
passes_or true b h = tt
passes_or false b h = h

-- what is in a set is in a larger one
pub in_larger : (first : Status) (statuses : List Status) (status : Status) → IsOneOf statuses status → IsOneOf (first ∷ statuses) status
in_larger first statuses status h = passes_or (is_same status first) (list_any (is_same status) statuses) h

-- the numbers of the faults of `tileset.json`
pub numbered : (number : ℕ) → 1 ≤ number → number ≤ 12 → IsOneOf layout_faults (BadLayout number)
numbered zero some few = absurd (omega (arith, some))
numbered (suc zero) some few = tt
numbered (suc (suc zero)) some few = tt
numbered (suc (suc (suc zero))) some few = tt
numbered (suc (suc (suc (suc zero)))) some few = tt
numbered (suc (suc (suc (suc (suc zero))))) some few = tt
numbered (suc (suc (suc (suc (suc (suc zero)))))) some few = tt
numbered (suc (suc (suc (suc (suc (suc (suc zero))))))) some few = tt
numbered (suc (suc (suc (suc (suc (suc (suc (suc zero)))))))) some few = tt
numbered (suc (suc (suc (suc (suc (suc (suc (suc (suc zero))))))))) some few = tt
numbered (suc (suc (suc (suc (suc (suc (suc (suc (suc (suc zero)))))))))) some few = tt
numbered (suc (suc (suc (suc (suc (suc (suc (suc (suc (suc (suc zero))))))))))) some few = tt
numbered (suc (suc (suc (suc (suc (suc (suc (suc (suc (suc (suc (suc zero)))))))))))) some few = tt
numbered (suc (suc (suc (suc (suc (suc (suc (suc (suc (suc (suc (suc (suc more))))))))))))) some few = absurd (omega (arith, few))
