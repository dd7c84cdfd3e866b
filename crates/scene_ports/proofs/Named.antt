-- Files, looked up by name, after a pair is put in place of another or behind all.
use Rattle.std.proofs.Common.{get_or, drop, take, ◌-◌, ◌↔◌, add-one, drop-cons, ◌≡◌, ◌≢◌, ℕ, zero, suc, Bool, true, false, List, [], ◌∷◌, ◌++◌, ◌<◌, set, length, refl, sym, ap, ◌∙◌, subst, arith, if◌then◌else◌}
use Rattle.std.specs.Prelude.{Option, Some, None, IsNone, is_some, cond, ◌+◌, position, String, string_bytes, Vec}
use Rattle.std.specs.List.{position_from}
use Rattle.std.specs.declared.alloc.Global.{Global}
use Rattle.std.proofs.lemmas.List.{map-set, map-append, take_rest}
use Rattle.std.proofs.lemmas.Bool.Decides.{not_from_Decides}
use Rattle.std.proofs.lemmas.Iterator.Adapters.{position_from-zero}
use Rattle.std.specs.Str.{bytes_eq}
use Rattle.std.proofs.lemmas.Slice.Eq.{bytes_eq-Decides}
use Rattle.implicit_tiling.specs.Files.{Files, file}
use Rattle.scene_ports.specs.Files.{HasDistinctNames, files_of}
use Rattle.scene_ports.specs.Keeper.{SameButFor, Puts}
use Rattle.scene_ports.specs.declared.keeper.Put.TheVariants.{Kept}

abbrev pub Pairs : Type 0
Pairs = List (String Global × Vec ℕ Global)

-- the first pair of the name stands at this place
abbrev pub StandsAt : List ℕ → Files → ℕ → Type 0
StandsAt name [] at = ⊥
StandsAt name (pair ∷ rest) zero = pair.0 ≡ name
StandsAt name (pair ∷ rest) (suc at) = (pair.0 ≢ name) × StandsAt name rest at

-- ---- one pair before the others

bytes_same : (a : List ℕ) → bytes_eq a a ≡ true
bytes_same a = (bytes_eq-Decides a a).1 refl

pub bytes_differ : (a b : List ℕ) (r : Bool) → bytes_eq a b ≡ r → a ≢ b → r ≡ false
bytes_differ a b true e ne = absurd (ne ((bytes_eq-Decides a b).0 e))
bytes_differ a b false e ne = refl

pub file-first : (name bytes : List ℕ) (rest : Files) → file name ((name, bytes) ∷ rest) ≡ Some bytes
file-first name bytes rest = rw (bytes_same name) refl

pub file-later : (other name bytes : List ℕ) (rest : Files) → name ≢ other → file other ((name, bytes) ∷ rest) ≡ file other rest
file-later other name bytes rest ne = rw (bytes_differ name other (bytes_eq name other) refl ne) refl

-- the look-up of a file whose first pair has another name, or that name
pub found_later : (other : List ℕ) (pair : List ℕ × List ℕ) (rest : Files) → pair.0 ≢ other → file other (pair ∷ rest) ≡ file other rest
found_later other pair rest ne = rw (bytes_differ pair.0 other (bytes_eq pair.0 other) refl ne) refl

pub found_same : (name : List ℕ) (pair : List ℕ × List ℕ) (rest : Files) → pair.0 ≡ name → file name (pair ∷ rest) ≡ Some pair.1
found_same name pair rest e = rw ((bytes_eq-Decides pair.0 name).1 e) refl

-- a pair before files among which the name isn't found has another name
pub other_name : (name : List ℕ) (pair : List ℕ × List ℕ) (rest : Files) → IsNone (file name (pair ∷ rest)) → pair.0 ≢ name
other_name name pair rest none e = let found : true ≡ false = sym (ap is_some (found_same name pair rest e)) ∙ none in cc

-- two lists that begin with one pair are looked up alike where their rests are
alike : (other : List ℕ) (pair : List ℕ × List ℕ) (before now : Files) → file other now ≡ file other before → file other (pair ∷ now) ≡ file other (pair ∷ before)
alike other pair before now e = ap (λ w. if bytes_eq pair.0 other then Some pair.1 else w) e

-- ---- a pair in place of the first of its name

pub replaced_same : (name bytes : List ℕ) (files : Files) (at : ℕ) → StandsAt name files at → file name (set files at (name, bytes)) ≡ Some bytes
replaced_same name bytes [] at h = absurd h
replaced_same name bytes (pair ∷ rest) zero h = file-first name bytes rest
replaced_same name bytes (pair ∷ rest) (suc at) h = found_later name pair _ h.0 ∙ replaced_same name bytes rest at h.1

pub replaced_others : (name bytes : List ℕ) (files : Files) (at : ℕ) → StandsAt name files at → SameButFor name files (set files at (name, bytes))
replaced_others name bytes [] at h other ne = absurd h
replaced_others name bytes (pair ∷ rest) zero h other ne =
    let apart : name ≢ other = λ e. ne (sym e) in
    let first : pair.0 ≢ other = λ e. ne (sym e ∙ h) in
    file-later other name bytes rest apart ∙ sym (found_later other pair rest first)
replaced_others name bytes (pair ∷ rest) (suc at) h other ne = alike other pair rest _ (replaced_others name bytes rest at h.1 other ne)

pub replaced_distinct : (name bytes : List ℕ) (files : Files) (at : ℕ) → StandsAt name files at → HasDistinctNames files → HasDistinctNames (set files at (name, bytes))
replaced_distinct name bytes [] at h d = absurd h
replaced_distinct name bytes (pair ∷ rest) zero h d = (let P : List ℕ → Type 0 = λ n. IsNone (file n rest) in subst P h d.0, d.1)
replaced_distinct name bytes (pair ∷ rest) (suc at) h d =
    (ap is_some (replaced_others name bytes rest at h.1 pair.0 h.0) ∙ d.0, replaced_distinct name bytes rest at h.1 d.1)

pub stands_within : (name : List ℕ) (files : Files) (at : ℕ) → StandsAt name files at → at < length files
stands_within name [] at h = absurd h
stands_within name (pair ∷ rest) zero h = omega arith
stands_within name (pair ∷ rest) (suc at) h = let below = stands_within name rest at h.1 in omega (arith, below)

-- ---- a pair behind all others

pub appended_same : (name bytes : List ℕ) (files : Files) → IsNone (file name files) → file name (files ++ (name, bytes) ∷ []) ≡ Some bytes
appended_same name bytes [] none = file-first name bytes []
appended_same name bytes (pair ∷ rest) none =
    let ne = other_name name pair rest none in
    found_later name pair _ ne ∙ appended_same name bytes rest (sym (ap is_some (found_later name pair rest ne)) ∙ none)

pub appended_others : (name bytes : List ℕ) (files : Files) → SameButFor name files (files ++ (name, bytes) ∷ [])
appended_others name bytes [] other ne = file-later other name bytes [] (λ e. ne (sym e))
appended_others name bytes (pair ∷ rest) other ne = alike other pair rest _ (appended_others name bytes rest other ne)

pub appended_distinct : (name bytes : List ℕ) (files : Files) → IsNone (file name files) → HasDistinctNames files → HasDistinctNames (files ++ (name, bytes) ∷ [])
appended_distinct name bytes [] none d = (refl, tt)
appended_distinct name bytes (pair ∷ rest) none d =
    let ne = other_name name pair rest none in
    (ap is_some (appended_others name bytes rest pair.0 ne) ∙ d.0, appended_distinct name bytes rest (sym (ap is_some (found_later name pair rest ne)) ∙ none) d.1)

-- ---- vectors of texts and bytes

-- a pair has this name
abbrev pub is_named : List ℕ → String Global × Vec ℕ Global → Bool
is_named name pair = bytes_eq (string_bytes pair.0) name

-- of a look-up by place, what it says of a list that begins with this pair
some_cases : (name : List ℕ) (pair : String Global × Vec ℕ Global) (rest : Pairs) (i at : ℕ) (b : Bool) → is_named name pair ≡ b
    → (position_from (is_named name) (i + 1) rest ≡ Some at → (k : ℕ) × (at ≡ i + 1 + k) × StandsAt name (files_of rest) k)
    → cond b (Some i) (position_from (is_named name) (i + 1) rest) ≡ Some at
    → (k : ℕ) × (at ≡ i + k) × StandsAt name (files_of (pair ∷ rest)) k
some_cases name pair rest i at true e later h = (0, (let same : i ≡ at = cc in omega (arith, same)), (bytes_eq-Decides _ _).0 e)
some_cases name pair rest i at false e later h =
    let more = later h in
    (suc more.0, (let same = more.1 in omega (arith, same)), (not_from_Decides _ (bytes_eq-Decides _ _) e, more.2))

some_from : (name : List ℕ) (pairs : Pairs) (i at : ℕ) → position_from (is_named name) i pairs ≡ Some at → (k : ℕ) × (at ≡ i + k) × StandsAt name (files_of pairs) k
some_from name [] i at h = let impossible : None ≡ Some at = h in cc
some_from name (pair ∷ rest) i at h = some_cases name pair rest i at (is_named name pair) refl (some_from name rest (i + 1) at) h

none_cases : (name : List ℕ) (pair : String Global × Vec ℕ Global) (rest : Pairs) (i : ℕ) (b : Bool) → is_named name pair ≡ b
    → (position_from (is_named name) (i + 1) rest ≡ None → IsNone (file name (files_of rest)))
    → cond b (Some i) (position_from (is_named name) (i + 1) rest) ≡ None → IsNone (file name (files_of (pair ∷ rest)))
none_cases name pair rest i true e later h = cc
none_cases name pair rest i false e later h = ap is_some (found_later name _ (files_of rest) (not_from_Decides _ (bytes_eq-Decides _ _) e)) ∙ later h

none_from : (name : List ℕ) (pairs : Pairs) (i : ℕ) → position_from (is_named name) i pairs ≡ None → IsNone (file name (files_of pairs))
none_from name [] i h = refl
none_from name (pair ∷ rest) i h = none_cases name pair rest i (is_named name pair) refl (none_from name rest (i + 1)) h

-- the place that is found is that of the first pair of the name
pub stands_from_place : (name : List ℕ) (pairs : Pairs) (at : ℕ) → position (is_named name) pairs ≡ Some at → StandsAt name (files_of pairs) at
stands_from_place name pairs at h =
    let found = some_from name pairs 0 at (sym (position_from-zero (is_named name) pairs) ∙ h) in
    let same : found.0 ≡ at = (let e = found.1 in omega (arith, e)) in
    subst (StandsAt name (files_of pairs)) same found.2

-- where no place is found, no file has the name
pub none_from_place : (name : List ℕ) (pairs : Pairs) → position (is_named name) pairs ≡ None → IsNone (file name (files_of pairs))
none_from_place name pairs h = none_from name pairs 0 (sym (position_from-zero (is_named name) pairs) ∙ h)

pub stands_found : (name : List ℕ) (files : Files) (at : ℕ) → StandsAt name files at → IsNone (file name files) → ⊥
stands_found name [] at h none = h
stands_found name (pair ∷ rest) zero h none = other_name name pair rest none h
stands_found name (pair ∷ rest) (suc at) h none = stands_found name rest at h.1 (sym (ap is_some (found_later name pair rest h.0)) ∙ none)

-- ---- a put, as the vector does it

pub replaced_files : (pairs : Pairs) (at : ℕ) (pair : String Global × Vec ℕ Global) → files_of (set pairs at pair) ≡ set (files_of pairs) at (string_bytes pair.0, pair.1.items)
replaced_files pairs at pair = map-set _ pairs at pair

pub put_replaced : (name bytes : List ℕ) (pairs : Pairs) (at : ℕ) (pair : String Global × Vec ℕ Global) → position (is_named name) pairs ≡ Some at
    → string_bytes pair.0 ≡ name → pair.1.items ≡ bytes → HasDistinctNames (files_of pairs)
    → HasDistinctNames (files_of (set pairs at pair)) × Puts name bytes (files_of pairs) (files_of (set pairs at pair)) Kept
put_replaced name bytes pairs at pair place named filled d =
    let stands = stands_from_place name pairs at place in
    let now : files_of (set pairs at pair) ≡ set (files_of pairs) at (name, bytes) =
    replaced_files pairs at pair ∙ ap (λ n. set (files_of pairs) at (n, pair.1.items)) named ∙ ap (λ b. set (files_of pairs) at (name, b)) filled in
    let P : Files → Type 0 = λ files. HasDistinctNames files × Puts name bytes (files_of pairs) files Kept in
    subst P (sym now) (
      replaced_distinct name bytes (files_of pairs) at stands d,
      (replaced_same name bytes (files_of pairs) at stands, replaced_others name bytes (files_of pairs) at stands),
    )

pub put_appended : (name bytes : List ℕ) (pairs : Pairs) (pair : String Global × Vec ℕ Global) → position (is_named name) pairs ≡ None
    → string_bytes pair.0 ≡ name → pair.1.items ≡ bytes → HasDistinctNames (files_of pairs)
    → HasDistinctNames (files_of (pairs ++ pair ∷ [])) × Puts name bytes (files_of pairs) (files_of (pairs ++ pair ∷ [])) Kept
put_appended name bytes pairs pair place named filled d =
    let none = none_from_place name pairs place in
    let now : files_of (pairs ++ pair ∷ []) ≡ files_of pairs ++ (name, bytes) ∷ [] =
    map-append _ pairs (pair ∷ []) ∙ ap (λ n. files_of pairs ++ (n, pair.1.items) ∷ []) named ∙ ap (λ b. files_of pairs ++ (name, b) ∷ []) filled in
    let P : Files → Type 0 = λ files. HasDistinctNames files × Puts name bytes (files_of pairs) files Kept in
    subst P (sym now) (
      appended_distinct name bytes (files_of pairs) none d,
      (appended_same name bytes (files_of pairs) none, appended_others name bytes (files_of pairs)),
    )

-- ---- whether a pair's name comes again behind it

none_if : (name : List ℕ) (rest : Pairs) (found : Option ℕ) → found ≡ position (is_named name) rest → is_some found ≡ false → IsNone (file name (files_of rest))
none_if name rest None e none = none_from_place name rest (sym e)
none_if name rest (Some at) e none = let impossible : true ≡ false = none in cc

some_if : (name : List ℕ) (rest : Pairs) (found : Option ℕ) → found ≡ position (is_named name) rest → is_some found ≡ true → IsNone (file name (files_of rest)) → ⊥
some_if name rest None e some none = let impossible : false ≡ true = some in cc
some_if name rest (Some at) e some none = stands_found name (files_of rest) at (stands_from_place name rest at (sym e)) none

-- the pairs from a place on begin with the pair at it
from_here : (pairs : Pairs) (at : ℕ) (pair : String Global × Vec ℕ Global) → pair ≡ get_or pairs at pair → at < length pairs → drop at pairs ≡ pair ∷ drop (at + 1) pairs
from_here pairs at pair e within = rw add-one (drop-cons pairs at pair within ∙ ap (λ p. p ∷ drop (suc at) pairs) (sym e))

pub distinct_here : (pairs : Pairs) (at : ℕ) (pair : String Global × Vec ℕ Global) (name : List ℕ) (found : Option ℕ) → pair ≡ get_or pairs at pair → at < length pairs
    → name ≡ string_bytes pair.0 → found ≡ position (is_named name) (take (length pairs - (at + 1)) (drop (at + 1) pairs)) → is_some found ≡ false
    → HasDistinctNames (files_of (drop at pairs)) ↔ HasDistinctNames (files_of (drop (at + 1) pairs))
distinct_here pairs at pair name found e within named place none =
    let rest = drop (at + 1) pairs in
    let absent : IsNone (file (string_bytes pair.0) (files_of rest)) =
    (let P : List ℕ → Type 0 = λ n. IsNone (file n (files_of rest)) in
    subst P named (none_if name rest found (place ∙ ap (position (is_named name)) (take_rest pairs (at + 1))) none)) in
    let here = ap files_of (from_here pairs at pair e within) in
    ((λ d. (subst HasDistinctNames here d).1), λ d. subst HasDistinctNames (sym here) (absent, d))

pub repeated_here : (pairs : Pairs) (at : ℕ) (pair : String Global × Vec ℕ Global) (name : List ℕ) (found : Option ℕ) → pair ≡ get_or pairs at pair → at < length pairs
    → name ≡ string_bytes pair.0 → found ≡ position (is_named name) (take (length pairs - (at + 1)) (drop (at + 1) pairs)) → is_some found ≡ true
    → HasDistinctNames (files_of (drop at pairs)) → ⊥
repeated_here pairs at pair name found e within named place some d =
    let rest = drop (at + 1) pairs in
    let here = ap files_of (from_here pairs at pair e within) in
    let P : List ℕ → Type 0 = λ n. IsNone (file n (files_of rest)) in
    some_if name rest found (place ∙ ap (position (is_named name)) (take_rest pairs (at + 1))) some (subst P (sym named) (subst HasDistinctNames here d).0)
