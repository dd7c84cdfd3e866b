-- What was given to an outlet of a text that is given piece by piece (this project's own).
use Rattle.std.specs.Prelude.{ℕ, ◌≡◌, List, ◌++◌, Option}
use Rattle.std.specs.Io.KnownBytes.{Appends}

-- some front of the text was given
abbrev pub GivesFront : Option (List ℕ) → Option (List ℕ) → List ℕ → Type 0
GivesFront before now text = (sent : List ℕ) × (unsent : List ℕ) × (text ≡ sent ++ unsent) × Appends before now sent

-- the text was given but for its end, which is held back
abbrev pub GivesAllBut : Option (List ℕ) → Option (List ℕ) → List ℕ → List ℕ → Type 0
GivesAllBut before now held text = (sent : List ℕ) × (text ≡ sent ++ held) × Appends before now sent
