-- Files in the order of their names: what a sort leaves, and what is found by halving.
use Rattle.std.proofs.Common.{get_or, ◌≡◌, ◌↔◌, ◌<◌, ◌+◌, ℕ, suc, Bool, true, false, cond, List, [], ◌∷◌, length, Some, None, Option, Ordering, refl, sym, ap, ◌∙◌, arith, ⊎_elim}
use Rattle.std.specs.Prelude.{IsNone, IsTrue, MatchBool, is_some, String, string_bytes, Vec}
use Rattle.std.specs.declared.alloc.Global.{Global}
use Rattle.std.specs.declared.cmp.Ordering.TheVariants.{Less, Equal, Greater}
use Rattle.std.specs.Cmp.Lexicographic.{slice_cmp}
use Rattle.std.specs.List.{AllByRecursion, AllAdjacentBelow, IsAllAdjacentAnswer, IsDistinct}
use Rattle.std.specs.List.Sorted.{IsPermutation, IsStrictlySortedBy, IsSorted, IsSortedBy, IsNonDecreasingBy, IsPartitionPoint}
use Rattle.std.specs.Map.{lookup, keys_of}
use Rattle.std.specs.Ordering.{nat_cmp, is_lt, is_eq, ordering_then, ordering_index, ordering_reverse}
use Rattle.std.specs.Str.{bytes_eq}
use Rattle.std.proofs.lemmas.Bool.{cases_lt}
use Rattle.std.proofs.lemmas.Cmp.{nat_list_cmp_total, nat_list_eq_equiv}
use Rattle.std.proofs.lemmas.List.{get_or-map, length-map}
use Rattle.std.proofs.lemmas.List.Sorted.{IsPermutation-map, IsPermutation-sym, Contains-permutation, searchable_from_sorted}
use Rattle.std.proofs.lemmas.Map.Keys.{IsDistinct-IsPermutation, IsDistinct-from_apart, apart_from_distinct, Less-from_sorted, sorted_from_all_adjacent}
use Rattle.std.proofs.lemmas.Map.Text.{is_eq-slice_cmp}
use Rattle.std.proofs.lemmas.Map.Views.{Contains-from_lookup, lookup-from_Contains}
use Rattle.std.proofs.lemmas.Slice.Eq.{bytes_eq-Decides}
use Rattle.implicit_tiling.specs.Files.{Files, file}
use Rattle.scene_ports.specs.Files.{HasDistinctNames, HaveSameFiles, files_of}
use Rattle.scene_ports.specs.Places.{IsSortedByName}
use Rattle.scene_ports.proofs.Named.{Pairs, bytes_differ, found_later, other_name}

-- ---- names as keys

file_is : (name : List ℕ) (files : Files) → file name files ≡ lookup (bytes_eq name) files
file_is name [] = refl
file_is name (pair ∷ rest) = rw (nat_list_eq_equiv.symm pair.0 name) (ap (λ w. cond (bytes_eq name pair.0) (Some pair.1) w) (file_is name rest))

differs_from_none : (name : List ℕ) (files : Files) → IsNone (file name files) → AllByRecursion (λ y. bytes_eq name y ≡ false) (keys_of files)
differs_from_none name [] none = tt
differs_from_none name (pair ∷ rest) none =
    let ne = other_name name pair rest none in
    (bytes_differ name pair.0 (bytes_eq name pair.0) refl (λ e. ne (sym e)), differs_from_none name rest (sym (ap is_some (found_later name pair rest ne)) ∙ none))

none_from_differs : (name : List ℕ) (files : Files) → AllByRecursion (λ y. bytes_eq name y ≡ false) (keys_of files) → IsNone (file name files)
none_from_differs name [] each = refl
none_from_differs name (pair ∷ rest) each = rw (nat_list_eq_equiv.symm pair.0 name ∙ each.0) (none_from_differs name rest each.1)

pub distinct_keys : (files : Files) → HasDistinctNames files → IsDistinct bytes_eq (keys_of files)
unfolding IsDistinct
distinct_keys [] d = tt
distinct_keys (pair ∷ rest) d = (differs_from_none pair.0 rest d.0, distinct_keys rest d.1)

pub distinct_from_keys : (files : Files) → IsDistinct bytes_eq (keys_of files) → HasDistinctNames files
unfolding IsDistinct
distinct_from_keys [] d = tt
distinct_from_keys (pair ∷ rest) d = (none_from_differs pair.0 rest d.0, distinct_from_keys rest d.1)

-- ---- files in another order

pub distinct_moved : (before now : Files) → IsPermutation before now → HasDistinctNames before → HasDistinctNames now
distinct_moved before now moved d =
    distinct_from_keys now (IsDistinct-IsPermutation bytes_eq nat_list_eq_equiv.symm (keys_of before) (keys_of now) (IsPermutation-map (λ e. e.0) before now moved) (distinct_keys before d))

found_moved : (before now : Files) (name bytes : List ℕ) → IsPermutation before now → HasDistinctNames now → file name before ≡ Some bytes → file name now ≡ Some bytes
found_moved before now name bytes moved d found =
    let there = Contains-from_lookup (λ x y. (bytes_eq-Decides x y).0) name bytes before (sym (file_is name before) ∙ found) in
    file_is name now ∙ lookup-from_Contains nat_list_eq_equiv name bytes now (distinct_keys now d) (Contains-permutation before now (name, bytes) moved there)

same_option : (one other : Option (List ℕ)) → ((v : List ℕ) → one ≡ Some v → other ≡ Some v) → ((v : List ℕ) → other ≡ Some v → one ≡ Some v) → one ≡ other
same_option None None there back = refl
same_option None (Some v) there back = back v refl
same_option (Some v) other there back = sym (there v refl)

pub same_moved : (before now : Files) → IsPermutation before now → HasDistinctNames now → HaveSameFiles now before
same_moved before now moved d name =
    let back = IsPermutation-sym before now moved in
    same_option (file name now) (file name before) (λ v. found_moved now before name v back (distinct_moved now before back d)) (λ v. found_moved before now name v moved d)

-- ---- names in order

pub sorted_distinct : (files : Files) → IsSortedByName files → HasDistinctNames files
sorted_distinct files s =
    distinct_from_keys files (IsDistinct-from_apart bytes_eq (keys_of files) (λ i j d a b.
    sym (is_eq-slice_cmp (get_or (keys_of files) i d) (get_or (keys_of files) j d)) ∙ ap is_eq (Less-from_sorted (slice_cmp nat_cmp) (keys_of files) i j d s a b)))

-- the first pair's name is less than the second's
abbrev pub is_before : String Global × Vec ℕ Global → String Global × Vec ℕ Global → Bool
is_before one next = is_lt (slice_cmp nat_cmp (string_bytes one.0) (string_bytes next.0))

file_at : (pairs : Pairs) (k : ℕ) (d : String Global × Vec ℕ Global) (e : List ℕ × List ℕ) → k < length pairs → get_or (files_of pairs) k e ≡ (string_bytes (get_or pairs k d).0, (get_or pairs k d).1.items)
file_at pairs k d e within = get_or-map _ pairs k d e within

name_at : (pairs : Pairs) (k : ℕ) (d : String Global × Vec ℕ Global) (e : List ℕ) → k < length pairs → get_or (keys_of (files_of pairs)) k e ≡ string_bytes (get_or pairs k d).0
name_at pairs k d e within =
    let inside : k < length (files_of pairs) = rw length-map within in
    get_or-map (λ f. f.0) (files_of pairs) k ([], []) e inside ∙ ap (λ f. f.0) (file_at pairs k d ([], []) within)

less_from : (o : Ordering) → true ≡ is_lt o → o ≡ Less
less_from Less h = refl
less_from Equal h = cc
less_from Greater h = cc

ascending_from : (pairs : Pairs) (first : String Global × Vec ℕ Global) → AllAdjacentBelow (λ x y. true ≡ is_before x y) pairs (length pairs) → IsSortedByName (files_of pairs)
ascending_from pairs first up =
    sorted_from_all_adjacent nat_list_cmp_total (keys_of (files_of pairs)) [] (λ k within.
    let next : k + 1 < length pairs = simp length-map at within in
    let here : k < length pairs = omega (arith, next) in
    rw (name_at pairs k first [] here) (rw (name_at pairs (k + 1) first [] next) (less_from _ (up k first next))))

pub ascending : (pairs : Pairs) → AllAdjacentBelow (λ x y. true ≡ is_before x y) pairs (length pairs) → IsSortedByName (files_of pairs)
unfolding IsStrictlySortedBy
ascending [] up = tt
ascending (pair ∷ rest) up = ascending_from (pair ∷ rest) pair up

-- neither of two names is less than the other
same_from : (o : Ordering) → is_lt o ≡ false → is_lt (ordering_reverse o) ≡ false → is_eq o ≡ true
same_from Less h back = cc
same_from Equal h back = refl
same_from Greater h back = cc

same_names : (one next : List ℕ) → is_lt (slice_cmp nat_cmp one next) ≡ false → is_lt (slice_cmp nat_cmp next one) ≡ false → bytes_eq one next ≡ true
same_names one next h back = sym (is_eq-slice_cmp one next) ∙ same_from (slice_cmp nat_cmp one next) h (ap is_lt (sym (nat_list_cmp_total.antisymm next one)) ∙ back)

repeated_from : (pairs : Pairs) (first : String Global × Vec ℕ Global) (k : ℕ) → k + 1 < length pairs → is_before (get_or pairs k first) (get_or pairs (k + 1) first) ≡ false
    → is_before (get_or pairs (k + 1) first) (get_or pairs k first) ≡ false → HasDistinctNames (files_of pairs) → ⊥
repeated_from pairs first k next up down d =
    let here : k < length pairs = omega (arith, next) in
    let within : k + 1 < length (keys_of (files_of pairs)) = simp length-map next in
    let apart = apart_from_distinct bytes_eq (keys_of (files_of pairs)) k (k + 1) [] (distinct_keys (files_of pairs) d) (omega arith) within in
    let same : bytes_eq (get_or (keys_of (files_of pairs)) k []) (get_or (keys_of (files_of pairs)) (k + 1) []) ≡ true =
    rw (name_at pairs k first [] here) (rw (name_at pairs (k + 1) first [] next) (same_names (string_bytes (get_or pairs k first).0) (string_bytes (get_or pairs (k + 1) first).0) up down)) in
    cc

repeated : (pairs : Pairs) (k : ℕ) → k + 1 < length pairs → ((d : String Global × Vec ℕ Global) → is_before (get_or pairs k d) (get_or pairs (k + 1) d) ≡ false)
    → ((d : String Global × Vec ℕ Global) → is_before (get_or pairs (k + 1) d) (get_or pairs k d) ≡ false) → HasDistinctNames (files_of pairs) → ⊥
repeated [] k next up down d = absurd (omega (arith, next))
repeated (pair ∷ rest) k next up down d = repeated_from (pair ∷ rest) pair k next (up pair) (down pair) d

-- the order in which pairs are sorted: by name, and then by bytes
abbrev pub pair_cmp : String Global × Vec ℕ Global → String Global × Vec ℕ Global → Ordering
pair_cmp one next = ordering_then (slice_cmp nat_cmp (string_bytes one.0) (string_bytes next.0)) (slice_cmp nat_cmp one.1.items next.1.items)

first_decides : (o p : Ordering) → is_lt (ordering_then o p) ≡ false → is_lt o ≡ false
first_decides Less p h = h
first_decides Equal p h = refl
first_decides Greater p h = refl

not_before : (one next : String Global × Vec ℕ Global) → is_lt (pair_cmp one next) ≡ false → is_before one next ≡ false
not_before one next = first_decides (slice_cmp nat_cmp (string_bytes one.0) (string_bytes next.0)) (slice_cmp nat_cmp one.1.items next.1.items)

-- of sorted pairs, whether each name is less than the next tells whether no name stands there twice
pub told_by_neighbours : (pairs : Pairs) (answer : Bool) → IsSorted pair_cmp pairs → IsAllAdjacentAnswer (λ one next r. r ≡ is_before one next) pairs answer
    → MatchBool answer (IsSortedByName (files_of pairs)) (HasDistinctNames (files_of pairs) → ⊥)
told_by_neighbours pairs true s told = ascending pairs told
told_by_neighbours pairs false s told =
    repeated pairs told.0 told.1 (λ d. sym (told.2 d)) (λ d. not_before (get_or pairs (told.0 + 1) d) (get_or pairs told.0 d) (s told.0 d (omega arith) told.1))

pub distinct_told : (before now : Pairs) (answer : Bool) → IsPermutation before now → MatchBool answer (IsSortedByName (files_of now)) (HasDistinctNames (files_of now) → ⊥)
    → IsTrue answer ↔ HasDistinctNames (files_of before)
distinct_told before now true moved told =
    let back = IsPermutation-sym (files_of before) (files_of now) (IsPermutation-map _ before now moved) in
    ((λ _. distinct_moved (files_of now) (files_of before) back (sorted_distinct (files_of now) told)), λ _. refl)
distinct_told before now false moved told =
    ((λ impossible. absurd (let e : false ≡ true = impossible in cc)), λ d. absurd (told (distinct_moved (files_of before) (files_of now) (IsPermutation-map _ before now moved) d)))

pub sorted_told : (now : Pairs) (answer : Bool) → MatchBool answer (IsSortedByName (files_of now)) (HasDistinctNames (files_of now) → ⊥) → IsTrue answer → IsSortedByName (files_of now)
sorted_told now true told answered = told
sorted_told now false told answered = absurd (let e : false ≡ true = answered in cc)

pub same_told : (before now : Pairs) → IsPermutation before now → IsSortedByName (files_of now) → HaveSameFiles (files_of now) (files_of before)
same_told before now moved s = same_moved (files_of before) (files_of now) (IsPermutation-map _ before now moved) (sorted_distinct (files_of now) s)

-- ---- a look-up by halving

descends_from : (o : Ordering) → o ≡ Less → is_lt (ordering_reverse o) ≡ false
descends_from Less h = refl
descends_from Equal h = refl
descends_from Greater h = cc

-- no later name is less than one before it
never_before : (pairs : Pairs) → IsSortedByName (files_of pairs) → IsSortedBy is_before pairs
never_before pairs s k d low next =
    let here : k < length pairs = omega (arith, next) in
    let inside : k + 1 < length (keys_of (files_of pairs)) = simp length-map next in
    let less = Less-from_sorted (slice_cmp nat_cmp) (keys_of (files_of pairs)) k (k + 1) [] s (omega arith) inside in
    let named : slice_cmp nat_cmp (string_bytes (get_or pairs k d).0) (string_bytes (get_or pairs (k + 1) d).0) ≡ Less = rw (← name_at pairs k d [] here) (rw (← name_at pairs (k + 1) d [] next) less) in
    ap is_lt (nat_list_cmp_total.antisymm (string_bytes (get_or pairs (k + 1) d).0) (string_bytes (get_or pairs k d).0)) ∙ descends_from _ named

-- how the name of a pair compares
abbrev pub compares : List ℕ → String Global × Vec ℕ Global → Ordering
compares name pair = slice_cmp nat_cmp (string_bytes pair.0) name

pub searchable : (pairs : Pairs) (name : List ℕ) → IsSortedByName (files_of pairs) → IsNonDecreasingBy (λ pair. ordering_index (compares name pair)) pairs
searchable pairs name s = searchable_from_sorted nat_list_cmp_total (λ pair. string_bytes pair.0) pairs name (never_before pairs s)

differs_from_less : (o : Ordering) → o ≡ Less → is_eq o ≡ false
differs_from_less Less h = refl
differs_from_less Equal h = cc
differs_from_less Greater h = refl

differs_from_greater : (o : Ordering) → o ≡ Greater → is_eq o ≡ false
differs_from_greater Less h = refl
differs_from_greater Equal h = cc
differs_from_greater Greater h = refl

none_if_each_differs : (name : List ℕ) (pairs : Pairs) → ((k : ℕ) (d : String Global × Vec ℕ Global) → k < length pairs → is_eq (compares name (get_or pairs k d)) ≡ false) → file name (files_of pairs) ≡ None
none_if_each_differs name [] each = refl
none_if_each_differs name (pair ∷ rest) each =
    rw (sym (is_eq-slice_cmp (string_bytes pair.0) name) ∙ each 0 pair (omega arith)) (none_if_each_differs name rest (λ k d within. each (suc k) d (omega (arith, within))))

pub none_at_gap : (name : List ℕ) (pairs : Pairs) (at : ℕ) → IsPartitionPoint (λ pair. compares name pair ≡ Less) (λ pair. compares name pair ≡ Greater) pairs at → file name (files_of pairs) ≡ None
none_at_gap name pairs at gap =
    none_if_each_differs name pairs (λ k d within.
    ⊎_elim (λ below. differs_from_less _ (gap.0 k d (omega arith) below)) (λ above. differs_from_greater _ (gap.1 k d above within)) (cases_lt k at))

pub found_at_place : (name : List ℕ) (pairs : Pairs) (at : ℕ) (pair : String Global × Vec ℕ Global) → IsSortedByName (files_of pairs) → at < length pairs → compares name (get_or pairs at pair) ≡ Equal
    → file name (files_of pairs) ≡ Some (get_or pairs at pair).1.items
found_at_place name pairs at pair s within equal =
    let found = get_or pairs at pair in
    let named : string_bytes found.0 ≡ name = (bytes_eq-Decides (string_bytes found.0) name).0 (sym (is_eq-slice_cmp (string_bytes found.0) name) ∙ ap is_eq equal) in
    let inside : at < length (files_of pairs) = simp length-map within in
    let there = file_at pairs at pair (name, found.1.items) within ∙ ap (λ n. (n, found.1.items)) named in
    file_is name (files_of pairs) ∙ lookup-from_Contains nat_list_eq_equiv name found.1.items (files_of pairs) (distinct_keys (files_of pairs) (sorted_distinct (files_of pairs) s)) (at, inside, there)
