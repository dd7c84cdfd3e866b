-- The passes that a host hands out.
use Rattle.std.proofs.Common.{◌≡◌, ◌∙◌, ℕ, zero, suc, ◌+◌, ◌<◌, List, [], ◌∷◌, ◌++◌, length, refl, sym, ap, subst, arith}
use Rattle.std.specs.List.{All, slice_index_or}
use Rattle.std.proofs.lemmas.List.Elements.{All-append}
use Rattle.shared_pool.specs.declared.note.Note.{Note}
use Rattle.shared_pool.specs.Seen.{fresh, first_note}
use Rattle.viewer_session.specs.Sessions.{SceneSeen, PassSeen}
use Rattle.viewer_session.specs.Starts.{IsNewPass}

all_one : (P : PassSeen → Type 0) (x : PassSeen) → P x → (k : ℕ) (d : PassSeen) → k < length (x ∷ []) → P (slice_index_or (x ∷ []) k d)
all_one P x p zero d below = p
all_one P x p (suc k) d below = absurd (omega (arith, below))

-- one pass more of the scene
pub pass_added : (s : SceneSeen) (passes : List PassSeen) (pass : PassSeen) → All (IsNewPass s) passes → IsNewPass s pass → All (IsNewPass s) (passes ++ pass ∷ [])
pass_added s passes pass all new = All-append (IsNewPass s) passes (pass ∷ []) all (all_one (IsNewPass s) pass new)

pub no_pass : (s : SceneSeen) (passes : List PassSeen) → passes ≡ [] → All (IsNewPass s) passes
no_pass s passes none = subst (All (IsNewPass s)) (sym none) (λ k d below. absurd (omega (arith, below)))

-- the host of so many passes has so many numbers
length_fresh : (K : Type 0) (first n : ℕ) → length (fresh {K = K} first n) ≡ n
length_fresh K first zero = refl
length_fresh K first (suc n) = ap suc (length_fresh K (first + 1) n)

pub numbers_at_first : {K T : Type 0} (note : Note K T) (count : ℕ) → note ≡ first_note count → length note.granted + 0 ≡ count
numbers_at_first {K} {T} note count is = let same = ap (λ (n : Note K T). length n.granted) is in let all = length_fresh K 0 count in omega (arith, same, all)
