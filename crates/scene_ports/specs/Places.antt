-- For proofs and inner functions: files in the order of their names, and a map that has the place of each name (this
-- project's own).
use Rattle.std.specs.Prelude.{ℕ, ◌≡◌, List, position, String, string_bytes, Vec}
use Rattle.std.specs.declared.alloc.Global.{Global}
use Rattle.std.specs.Cmp.Lexicographic.{slice_cmp}
use Rattle.std.specs.HashMap.{HashMap, get_by_text}
use Rattle.std.specs.List.Sorted.{IsStrictlySortedBy}
use Rattle.std.specs.Map.{keys_of}
use Rattle.std.specs.Ordering.{nat_cmp}
use Rattle.std.specs.Str.{bytes_eq}
use Rattle.implicit_tiling.specs.Files.{Files}

-- each name is less than those behind it, byte by byte
abbrev pub IsSortedByName : Files → Type 0
IsSortedByName files = IsStrictlySortedBy (slice_cmp nat_cmp) (keys_of files)

-- the map has the place of the first file of each name, and no other name
abbrev pub HasPlaces : {S : Type 0} → HashMap (String Global) ℕ S → List (String Global × Vec ℕ Global) → Type 0
HasPlaces places pairs = (name : List ℕ) → get_by_text places name ≡ position
    (λ pair. bytes_eq (string_bytes pair.0) name) pairs
