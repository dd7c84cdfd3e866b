-- What there is for the lines of a worker.
use Rattle.std.proofs.Common.{◌≡◌, ℕ, ◌+◌, ◌<◌, ◌≤◌, Bool, true, false, List, [], ◌∷◌, ◌++◌, length, map, refl, sym, ap, ◌∙◌, arith, append-nil}
use Rattle.std.specs.Prelude.{◌%◌, ◌==◌, ◌≢◌}
use Rattle.std.proofs.lemmas.Bool.{eq-eqb, ne_eqb}
use Rattle.batch_blocks.specs.Workers.{worker_of, kept_where, of_worker}

-- in front of more
kept_append : {X : Type 0} (own : Bool) (x : X) (xs ys : List X) → kept_where own x (xs ++ ys) ≡ kept_where own x xs ++ ys
kept_append true x xs ys = refl
kept_append false x xs ys = refl

pub of_worker-append : {X : Type 0} (workers worker n m : ℕ) (xs ys : List X) → m ≡ n + length xs
    → of_worker workers worker n (xs ++ ys) ≡ of_worker workers worker n xs ++ of_worker workers worker m ys
of_worker-append workers worker n m [] ys at = ap (λ k. of_worker workers worker k ys) (omega (arith, at))
of_worker-append workers worker n m (x ∷ xs) ys at =
    ap (kept_where (worker_of workers n == worker) x) (of_worker-append workers worker (n + 1) m xs ys (omega (arith, at)))
    ∙ kept_append (worker_of workers n == worker) x (of_worker workers worker (n + 1) xs) (of_worker workers worker m ys)

-- a line has the same worker in each round
same_worker : (workers first k : ℕ) → first % 64 ≡ 0 → k < 64 → worker_of workers (first + k) ≡ worker_of workers k
same_worker workers first k start low = ap (λ i. i % workers) (omega (arith, start, low))

pub of_worker-round : {X : Type 0} (workers worker first k m : ℕ) (xs : List X) → m ≡ first + k → first % 64 ≡ 0 → k + length xs ≤ 64
    → of_worker workers worker m xs ≡ of_worker workers worker k xs
of_worker-round workers worker first k m [] at start few = refl
of_worker-round workers worker first k m (x ∷ xs) at start few =
    ap (λ own. kept_where own x (of_worker workers worker (m + 1) xs))
    (ap (λ i. worker_of workers i == worker) at ∙ ap (λ v. v == worker) (same_worker workers first k start (omega (arith, few))))
    ∙ ap (kept_where (worker_of workers k == worker) x)
    (of_worker-round workers worker first (k + 1) (m + 1) xs (omega (arith, at)) start (omega (arith, few)))

-- one line more: it is the worker's own, or another's
pub of_worker-own : {X : Type 0} (workers worker n : ℕ) (xs : List X) (x : X) → n ≡ length xs → worker_of workers n ≡ worker
    → of_worker workers worker 0 (xs ++ x ∷ []) ≡ of_worker workers worker 0 xs ++ x ∷ []
of_worker-own workers worker n xs x at own =
    of_worker-append workers worker 0 n xs (x ∷ []) (omega (arith, at))
    ∙ ap (λ is. of_worker workers worker 0 xs ++ kept_where is x []) (eq-eqb (worker_of workers n) worker own)

pub of_worker-other : {X : Type 0} (workers worker n : ℕ) (xs : List X) (x : X) → n ≡ length xs → worker_of workers n ≢ worker
    → of_worker workers worker 0 (xs ++ x ∷ []) ≡ of_worker workers worker 0 xs
of_worker-other workers worker n xs x at other =
    of_worker-append workers worker 0 n xs (x ∷ []) (omega (arith, at))
    ∙ ap (λ is. of_worker workers worker 0 xs ++ kept_where is x []) (ne_eqb (worker_of workers n) worker other)
    ∙ append-nil (of_worker workers worker 0 xs)
