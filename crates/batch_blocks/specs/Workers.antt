-- Which worker answers which line of a batch (this project's own).
use Rattle.std.specs.Prelude.{ℕ, ◌+◌, ◌-◌, ◌%◌, ◌^◌, ◌==◌, ◌≤◌, Bool, true, false, List, [], ◌∷◌, min}

-- the most lines that are answered before their blocks are written
abbrev pub round_lines : ℕ
round_lines = 64

-- the worker of the line of a number, counted from 0: in each round worker w of W has the lines w, w + W and so on
abbrev pub worker_of : ℕ → ℕ → ℕ
worker_of workers number = number % round_lines % workers

abbrev pub kept_where : {X : Type 0} → Bool → X → List X → List X
kept_where true x xs = x ∷ xs
kept_where false x xs = xs

-- of what there is for each line from a number on, that of the lines of a worker
abbrev pub of_worker : {X : Type 0} → ℕ → ℕ → ℕ → List X → List X
of_worker workers worker number [] = []
of_worker workers worker number (x ∷ xs) = kept_where (worker_of workers number == worker) x
    (of_worker workers worker (number + 1) xs)

-- the count rose by so much at least, or stands at its last value
abbrev pub RoseBy : ℕ → ℕ → ℕ → Type 0
RoseBy n before now = min (before + n) (2 ^ 64 - 1) ≤ now
