-- Fetches that are counted one after another.
use Rattle.std.proofs.Common.{◌≡◌, ◌≢◌, ℕ, ◌+◌, ◌≤◌, Result, Ok, Err, ap, ◌∙◌, arith}
use Rattle.scene_ports.specs.Counts.{one_more, more_by}

-- none, one, and more
pub none_more : (count : ℕ) → more_by 0 count ≡ count
none_more count = omega arith

pub one_counted : (n count : ℕ) → one_more (more_by n count) ≡ more_by (n + 1) count
one_counted n count = omega arith

pub more_counted : (m n count : ℕ) → more_by m (more_by n count) ≡ more_by (n + m) count
more_counted m n count = omega arith

pub more_at_most : (m n count : ℕ) → m ≤ n → more_by m count ≤ more_by n count
more_at_most m n count le = omega (arith, le)

-- a fetch after n others, and m fetches
pub then_one : (n begin mid now : ℕ) → mid ≡ more_by n begin → now ≡ one_more mid → now ≡ more_by (n + 1) begin
then_one n begin mid now so more = more ∙ ap one_more so ∙ one_counted n begin

pub then_more : (m n begin mid now : ℕ) → mid ≡ more_by n begin → now ≡ more_by m mid → now ≡ more_by (n + m) begin
then_more m n begin mid now so more = more ∙ ap (more_by m) so ∙ more_counted m n begin

pub then_at_most : (m n begin mid now : ℕ) → mid ≤ more_by n begin → now ≤ more_by m mid → now ≤ more_by (n + m) begin
then_at_most m n begin mid now so more = omega (arith, so, more)

-- a count that stays unless the result is some Err, where it is an Ok
not_both : {T E : Type 0} (r : Result T E) (x : T) (e : E) → r ≡ Ok x → r ≡ Err e → ⊥
not_both r x e is other = cc

pub stays : {T E : Type 0} (r : Result T E) (x : T) (e : E) (begin mid now : ℕ) → r ≡ Ok x → (r ≢ Err e → now ≡ mid) → mid ≡ begin → now ≡ begin
stays r x e begin mid now is sure so = sure (λ other. not_both r x e is other) ∙ so
