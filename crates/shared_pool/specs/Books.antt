-- The log of a pool, and what is counted in it: this project's own.
use Rattle.std.specs.Prelude.{◌≡◌, ℕ, ◌+◌, ◌<◌, ◌≤◌, length, Bool, true, false, eqb, List, [], ◌∷◌, ◌++◌, filter}
use Rattle.std.specs.Prelude.{count_by, slice_get, Option, Some, None}
use Rattle.shared_pool.specs.declared.entry.Entry.{Entry}
use Rattle.shared_pool.specs.declared.entry.Entry.TheVariants.{Granted, Ended}
use Rattle.shared_pool.specs.declared.note.Grants.{Grants}

-- the number of the pass
abbrev pub pass_of : {K : Type 0} → Entry K → ℕ
pass_of (Granted pass key lost) = pass
pass_of (Ended pass key) = pass

-- whether the entry is a grant of the key
abbrev pub grants : {K : Type 0} → (K → K → Bool) → K → Entry K → Bool
grants eq key (Granted pass own lost) = eq own key
grants eq key (Ended pass own) = false

-- whether the entry ends a loading of the key
abbrev pub ends : {K : Type 0} → (K → K → Bool) → K → Entry K → Bool
ends eq key (Granted pass own lost) = false
ends eq key (Ended pass own) = eq own key

abbrev pub is_same : {K : Type 0} → (K → K → Bool) → K → Option K → Bool
is_same eq key None = false
is_same eq key (Some own) = eq own key

-- whether the key lost its frame by the entry
abbrev pub takes : {K : Type 0} → (K → K → Bool) → K → Entry K → Bool
takes eq key (Granted pass own lost) = is_same eq key lost
takes eq key (Ended pass own) = false

abbrev pub is_there : {A : Type 0} → Option A → Bool
is_there None = false
is_there (Some x) = true

-- whether any key lost its frame by the entry
abbrev pub takes_any : {K : Type 0} → Entry K → Bool
takes_any (Granted pass own lost) = is_there lost
takes_any (Ended pass own) = false

-- the entries of a pass, in order
abbrev pub of_pass : {K : Type 0} → ℕ → List (Entry K) → List (Entry K)
of_pass pass log = filter (λ e. eqb (pass_of e) pass) log

-- how often a number of a pass stands in a book
abbrev pub occurs : {K : Type 0} → ℕ → List (Grants K) → ℕ
occurs pass book = count_by (λ g. eqb g.pass pass) book

-- each number of the book stands with the entries of the log that have it
abbrev pub Lists : {K : Type 0} → List (Entry K) → List (Grants K) → Type 0
Lists {K} log book = (j : ℕ) (g : Grants K) → slice_get book j ≡ Some g → g.entries ≡ of_pass g.pass log

abbrev pub entered : {K : Type 0} → Entry K → List (Grants K) → List (Grants K)
entered e [] = []
entered e (g ∷ gs) = record { pass = g.pass; entries = g.entries ++ of_pass g.pass (e ∷ []) } ∷ entered e gs

-- all entries of a book
abbrev pub all_entries : {K : Type 0} → List (Grants K) → List (Entry K)
all_entries [] = []
all_entries (g ∷ gs) = g.entries ++ all_entries gs

-- no two of the keys are equal
abbrev pub AreDifferent : {K : Type 0} → (K → K → Bool) → List K → Type 0
AreDifferent {K} eq keys = (i j : ℕ) (one other : K) → slice_get keys i ≡ Some one → slice_get keys j ≡ Some other
    → eq one other ≡ true → i ≡ j

-- each of the keys was granted
abbrev pub AreGranted : {K : Type 0} → (K → K → Bool) → List (Entry K) → List K → Type 0
AreGranted {K} eq log keys = (i : ℕ) (key : K) → slice_get keys i ≡ Some key → 0 < count_by (grants eq key) log

-- more than n keys were granted
abbrev pub HasMoreKeys : {K : Type 0} → (K → K → Bool) → ℕ → List (Entry K) → Type 0
HasMoreKeys {K} eq n log = (keys : List K) × AreDifferent eq keys × AreGranted eq log keys × (n < length keys)

-- no more than n keys were granted
abbrev pub HasFewKeys : {K : Type 0} → (K → K → Bool) → ℕ → List (Entry K) → Type 0
HasFewKeys {K} eq n log = (keys : List K) → AreDifferent eq keys → AreGranted eq log keys → length keys ≤ n

-- each key was granted at most once more than its loadings ended without a value
abbrev pub IsFetchedOnce : {K : Type 0} → (K → K → Bool) → List (Entry K) → Type 0
IsFetchedOnce {K} eq log = (key : K) → count_by (grants eq key) log ≤ count_by (ends eq key) log + 1
