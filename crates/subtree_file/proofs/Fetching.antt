-- Files that were fetched with a shared limit decide the rows 19 and 20, and are the bytes of their buffers.
use Rattle.std.proofs.Common.{◌≡◌, ◌∙◌, ℕ, zero, suc, ◌+◌, ◌-◌, ◌<◌, ◌≤◌, Bool, true, false, cond, ◌||◌, List, [], ◌∷◌, ◌++◌, length, map, drop, get_or, refl, sym, ap, ap₂, subst, arith, add-one}
use Rattle.std.specs.Prelude.{min, Option, Some, None, option_and_then, is_none, nat_lt, ◌==◌, IsSomeAnd, IfOk, Result, Ok, Err, if◌then◌else◌}
use Rattle.std.specs.List.{list_any, slice_get}
use Rattle.std.specs.Str.{bytes_eq}
use Rattle.std.proofs.lemmas.Bool.{le-ltb, lt-ltb, ltb-true, ltb-false, eq-eqb, or_left, or_right, or_parts}
use Rattle.std.proofs.lemmas.Option.{slice_get_within}
use Rattle.std.proofs.Math.Seq.{drop-cons}
use Rattle.std.proofs.Math.ListN.{drop_of_length-le}
use denote.Ref.{Bor}
use Rattle.std.proofs.lemmas.Slice.Eq.{bytes_eq-Decides}
use Rattle.implicit_tiling.specs.Checks.{need, refuse}
use Rattle.implicit_tiling.specs.Limits.{most_file_bytes}
use Rattle.implicit_tiling.specs.Tile.{Tile}
use Rattle.implicit_tiling.specs.Scene.{Layout}
use Rattle.implicit_tiling.specs.Subtree.{Subtree}
use Rattle.implicit_tileset.specs.Record.{Buffer, BufferView, Availability, SubtreeRecord}
use Rattle.implicit_tileset.specs.SubtreeFile.{Used, Held, view_is, is_out, is_short, is_miscounted, raw_bits, for_nodes, for_children, used_of, wanted_contents, subtree_checked, and_then}
use Rattle.implicit_tileset.specs.BufferFiles.{Find, buffer_name, view_at, buffer_at, is_used_buffer, used_uri, put_once, uris_below, used_uris, used_names, bytes_found, bytes_together}
use Rattle.implicit_tileset.specs.FileOutcome.{Sources, bytes_named, or_nothing, bytes_of, held_at, subtree_at, files_checked, bits_checked, sources_of}
use Rattle.subtree_file.specs.declared.buffers.BufferFile.{BufferFile}
use Rattle.subtree_file.specs.declared.buffers.BufferFile.TheVariants.{Whole, Missing, TooLong}
use Rattle.subtree_file.specs.Needed.{shown}
use Rattle.subtree_file.specs.Buffers.{AreFetched, left_after, whole_bytes, bytes_under, is_missing, is_too_long, files_rows}

-- ---- the rows 19 and 20

some_there : (o : Option (List ℕ)) (P : List ℕ → Type 0) → IsSomeAnd o P → is_none o ≡ false
some_there None P h = absurd h
some_there (Some bytes) P h = refl

missing_row : (find : Find) (left : ℕ) (names : List (List ℕ)) (files : List BufferFile) → AreFetched find left names files
    → list_any (λ name. is_none (find name)) names ≡ list_any is_missing files
missing_row find left [] [] are = refl
missing_row find left [] (file ∷ files) are = absurd are
missing_row find left (name ∷ names) [] are = absurd are
missing_row find left (name ∷ names) (Whole bytes ∷ files) are =
    ap₂ (λ a b. a || b) (ap is_none are.0) (missing_row find (left - length bytes.items) names files are.2)
missing_row find left (name ∷ names) (Missing ∷ files) are = ap₂ (λ a b. a || b) (ap is_none are.0) (missing_row find left names files are.1)
missing_row find left (name ∷ names) (TooLong ∷ files) are = ap₂ (λ a b. a || b) (some_there (find name) _ are.0) (missing_row find 0 names files are.1)

by_test : (left size rest : ℕ) (b : Bool) → size ≤ left → nat_lt (left - size) rest ≡ b → nat_lt left (size + rest) ≡ b
by_test left size rest true within is = lt-ltb left (size + rest) (let more : left - size < rest = ltb-true (left - size) rest is in omega (arith, within, more))
by_test left size rest false within is = le-ltb left (size + rest) (let more : rest ≤ left - size = ltb-false (left - size) rest is in omega (arith, within, more))

too_long : (o : Option (List ℕ)) (left rest : ℕ) → IsSomeAnd o (λ bytes. left < length bytes) → nat_lt left (bytes_found o + rest) ≡ true
too_long None left rest h = absurd h
too_long (Some bytes) left rest h = lt-ltb left (length bytes + rest) (omega (arith, h))

long_row : (find : Find) (left : ℕ) (names : List (List ℕ)) (files : List BufferFile) → AreFetched find left names files
    → nat_lt left (bytes_together find names) ≡ list_any is_too_long files
long_row find left [] [] are = le-ltb left 0 (omega arith)
long_row find left [] (file ∷ files) are = absurd are
long_row find left (name ∷ names) [] are = absurd are
long_row find left (name ∷ names) (Whole bytes ∷ files) are =
    ap (λ o. nat_lt left (bytes_found o + bytes_together find names)) are.0
    ∙ by_test left (length bytes.items) (bytes_together find names) (list_any is_too_long files) are.1 (long_row find (left - length bytes.items) names files are.2)
long_row find left (name ∷ names) (Missing ∷ files) are =
    let none : 0 + bytes_together find names ≡ bytes_together find names = omega arith in
    ap (λ o. nat_lt left (bytes_found o + bytes_together find names)) are.0 ∙ ap (nat_lt left) none ∙ long_row find left names files are.1
long_row find left (name ∷ names) (TooLong ∷ files) are = too_long (find name) left (bytes_together find names) are.0

abbrev both_rows : Bool → Bool → Result (Unit {0}) ℕ
both_rows a b = refuse 19 a (refuse 20 b (Ok tt))

two_rows : {B : Type 0} (a b : Bool) (rest : Result B ℕ) → refuse 19 a (refuse 20 b rest) ≡ and_then (both_rows a b) (λ done. rest)
two_rows true b rest = refl
two_rows false true rest = refl
two_rows false false rest = refl

pub files_by_rows : {B : Type 0} (find : Find) (names : List (List ℕ)) (files : List BufferFile) (rest : Result B ℕ) → AreFetched find most_file_bytes names files
    → files_checked find names rest ≡ and_then (files_rows files) (λ done. rest)
files_by_rows find names files rest are =
    ap (λ b. refuse 19 b (refuse 20 (nat_lt most_file_bytes (bytes_together find names)) rest)) (missing_row find most_file_bytes names files are)
    ∙ ap (λ b. refuse 19 (list_any is_missing files) (refuse 20 b rest)) (long_row find most_file_bytes names files are)
    ∙ two_rows (list_any is_missing files) (list_any is_too_long files) rest

-- ---- the bytes under a `uri`

or_rest : (a b : Bool) → (a || b) ≡ true → a ≡ false → b ≡ true
or_rest true b any none = absurd (let no : true ≡ false = none in cc)
or_rest false b any none = any

at_head : (find : Find) (name : List ℕ → List ℕ) (known uri bytes : List ℕ) (test : Bool) (rest : Option (List ℕ)) → bytes_eq uri known ≡ test → find (name known) ≡ Some bytes
    → (test ≡ false → rest ≡ find (name uri)) → (if test then Some bytes else rest) ≡ find (name uri)
at_head find name known uri bytes true rest same is later = sym is ∙ ap (λ u. find (name u)) (sym ((bytes_eq-Decides uri known).0 same))
at_head find name known uri bytes false rest same is later = later refl

found_under : (find : Find) (left : ℕ) (name : List ℕ → List ℕ) (uris : List (List ℕ)) (files : List BufferFile) (uri : List ℕ) → AreFetched find left (map name uris) files
    → list_any is_missing files ≡ false → list_any is_too_long files ≡ false → list_any (bytes_eq uri) uris ≡ true → bytes_under uris files uri ≡ find (name uri)
found_under find left name [] files uri are there short among = absurd (let no : false ≡ true = among in cc)
found_under find left name (known ∷ uris) [] uri are there short among = absurd are
found_under find left name (known ∷ uris) (Whole bytes ∷ files) uri are there short among =
    at_head find name known uri bytes.items (bytes_eq uri known) (bytes_under uris files uri) refl are.0
    (λ other. found_under find (left - length bytes.items) name uris files uri are.2 there short (or_rest (bytes_eq uri known) (list_any (bytes_eq uri) uris) among other))
found_under find left name (known ∷ uris) (Missing ∷ files) uri are there short among = absurd (let no : true ≡ false = there in cc)
found_under find left name (known ∷ uris) (TooLong ∷ files) uri are there short among = absurd (let no : true ≡ false = short in cc)

-- ---- looking for a `uri`, one after another

under_at : (uris : List (Bor (List ℕ))) (files : List BufferFile) (i : ℕ) (d : Bor (List ℕ)) (e : BufferFile) (uri : List ℕ) → i < length uris → i < length files
    → bytes_under (shown (drop i uris)) (drop i files) uri ≡ (if bytes_eq uri (get_or uris i d).now then whole_bytes (get_or files i e) else bytes_under (shown (drop (i + 1) uris)) (drop (i + 1) files) uri)
under_at uris files i d e uri low within =
    ap₂ (λ us fs. bytes_under (shown us) fs uri) (drop-cons uris i d low) (drop-cons files i e within)
    ∙ ap (λ k. if bytes_eq uri (get_or uris i d).now then whole_bytes (get_or files i e) else bytes_under (shown (drop k uris)) (drop k files) uri) (sym (add-one i))

pub under_step : (uris : List (Bor (List ℕ))) (files : List BufferFile) (i : ℕ) (d : Bor (List ℕ)) (uri : List ℕ) → i < length uris → i < length files → bytes_eq uri (get_or uris i d).now ≡ false
    → bytes_under (shown (drop (i + 1) uris)) (drop (i + 1) files) uri ≡ bytes_under (shown (drop i uris)) (drop i files) uri
under_step uris files i d uri low within other =
    sym (under_at uris files i d Missing uri low within
    ∙ ap (λ b. if b then whole_bytes (get_or files i Missing) else bytes_under (shown (drop (i + 1) uris)) (drop (i + 1) files) uri) other)

none_under : (uris : List (List ℕ)) (uri : List ℕ) → bytes_under uris [] uri ≡ None
none_under [] uri = refl
none_under (known ∷ uris) uri = refl

by_end : (uris : List (Bor (List ℕ))) (files : List BufferFile) (i : ℕ) (uri : List ℕ) (low : Bool) → nat_lt i (length uris) ≡ low → min (length uris) (length files) ≤ i
    → bytes_under (shown (drop i uris)) (drop i files) uri ≡ None
by_end uris files i uri true is past =
    let lower : i < length uris = ltb-true i (length uris) is in
    ap (λ fs. bytes_under (shown (drop i uris)) fs uri) (drop_of_length-le files (omega (arith, past, lower))) ∙ none_under (shown (drop i uris)) uri
by_end uris files i uri false is past = ap (λ us. bytes_under (shown us) (drop i files) uri) (drop_of_length-le uris (ltb-false i (length uris) is))

pub under_end : (uris : List (Bor (List ℕ))) (files : List BufferFile) (i : ℕ) (uri : List ℕ) → min (length uris) (length files) ≤ i → bytes_under (shown (drop i uris)) (drop i files) uri ≡ None
under_end uris files i uri past = by_end uris files i uri (nat_lt i (length uris)) refl past

-- ---- the `uri` of a used buffer is among them

any_more : (test : List ℕ → Bool) (uris : List (List ℕ)) (uri : List ℕ) → test uri ≡ true → list_any test (uris ++ uri ∷ []) ≡ true
any_more test [] uri is = or_left (test uri) false is
any_more test (one ∷ uris) uri is = or_right (test one) (list_any test (uris ++ uri ∷ [])) (any_more test uris uri is)

either_kept : (a b c : Bool) → (a || b) ≡ true → (b ≡ true → c ≡ true) → (a || c) ≡ true
either_kept true b c is later = refl
either_kept false b c is later = later is

any_kept : (test : List ℕ → Bool) (uris more : List (List ℕ)) → list_any test uris ≡ true → list_any test (uris ++ more) ≡ true
any_kept test [] more is = absurd (let no : false ≡ true = is in cc)
any_kept test (one ∷ uris) more is = either_kept (test one) (list_any test uris) (list_any test (uris ++ more)) is (any_kept test uris more)

once_has : (uris : List (List ℕ)) (uri : List ℕ) (known : Bool) → list_any (bytes_eq uri) uris ≡ known → list_any (bytes_eq uri) (if known then uris else uris ++ uri ∷ []) ≡ true
once_has uris uri true is = is
once_has uris uri false is = any_more (bytes_eq uri) uris uri ((bytes_eq-Decides uri uri).1 refl)

once_keeps_by : (test : List ℕ → Bool) (uris : List (List ℕ)) (uri : List ℕ) (known : Bool) → list_any test uris ≡ true → list_any test (if known then uris else uris ++ uri ∷ []) ≡ true
once_keeps_by test uris uri true is = is
once_keeps_by test uris uri false is = any_kept test uris (uri ∷ []) is

once_keeps : (test : List ℕ → Bool) (uris : List (List ℕ)) (found : Option (List ℕ)) → list_any test uris ≡ true → list_any test (put_once uris found) ≡ true
once_keeps test uris None is = is
once_keeps test uris (Some uri) is = once_keeps_by test uris uri (list_any (bytes_eq uri) uris) is

below_step : (r : SubtreeRecord) (used : List Used) (n k : ℕ) (uri : List ℕ) (lower : Bool) → nat_lt k n ≡ lower → k < suc n → used_uri r used k ≡ Some uri
    → (k < n → list_any (bytes_eq uri) (uris_below r used n) ≡ true) → list_any (bytes_eq uri) (uris_below r used (suc n)) ≡ true
below_step r used n k uri true is within at later = once_keeps (bytes_eq uri) (uris_below r used n) (used_uri r used n) (later (ltb-true k n is))
below_step r used n k uri false is within at later =
    let last : n ≡ k = (let ge : n ≤ k = ltb-false k n is in omega (arith, ge, within)) in
    ap (λ o. list_any (bytes_eq uri) (put_once (uris_below r used n) o)) (ap (used_uri r used) last ∙ at)
    ∙ once_has (uris_below r used n) uri (list_any (bytes_eq uri) (uris_below r used n)) refl

uri_below : (r : SubtreeRecord) (used : List Used) (n k : ℕ) (uri : List ℕ) → k < n → used_uri r used k ≡ Some uri → list_any (bytes_eq uri) (uris_below r used n) ≡ true
uri_below r used zero k uri within at = let no : ⊥ = omega (arith, within) in absurd no
uri_below r used (suc n) k uri within at = below_step r used n k uri (nat_lt k n) refl within at (λ lower. uri_below r used n k uri lower at)

-- one that is used: each test that it passes is passed by some
abbrev IsAmong : List Used → Used → Type 0
IsAmong used u = (test : Used → Bool) → test u ≡ true → list_any test used ≡ true

by_view : (r : SubtreeRecord) (used : List Used) (u : Used) (buffer : Buffer) (uri : List ℕ) (found : Option BufferView) → IsAmong used u → view_at r u.availability ≡ found
    → option_and_then (λ v. slice_get r.buffers v.buffer) found ≡ Some buffer → buffer.uri ≡ Some uri → list_any (bytes_eq uri) (used_uris r used) ≡ true
by_view r used u buffer uri None among view is named = cc
by_view r used u buffer uri (Some v) among view is named =
    let here : is_used_buffer r used v.buffer ≡ true = among (λ w. view_is (λ x. x.buffer == v.buffer) (view_at r w.availability))
    (ap (view_is (λ x. x.buffer == v.buffer)) view ∙ eq-eqb v.buffer v.buffer refl) in
    let at : used_uri r used v.buffer ≡ Some uri =
    ap (λ b. if b then option_and_then (λ x. x.uri) (slice_get r.buffers v.buffer) else None) here ∙ ap (option_and_then (λ (x : Buffer). x.uri)) is ∙ named in
    uri_below r used (length r.buffers) v.buffer uri (slice_get_within r.buffers v.buffer buffer is) at

-- ---- the bytes of the buffers

-- the same record beside bytes that are found, and beside those that were fetched
abbrev pub fetched_sources : Option (List ℕ) → SubtreeRecord → List (List ℕ) → List BufferFile → Sources
fetched_sources binary r uris files = record { parts = r; binary = binary; named = bytes_under uris files }

by_uri : (one other : Find) (binary : Option (List ℕ)) (buffer : Buffer) (named : Option (List ℕ)) → buffer.uri ≡ named → ((uri : List ℕ) → named ≡ Some uri → one uri ≡ other uri)
    → or_nothing (bytes_named one binary named) ≡ or_nothing (bytes_named other binary named)
by_uri one other binary buffer None is same = refl
by_uri one other binary buffer (Some uri) is same = ap or_nothing (same uri refl)

by_buffer : (one other : Sources) (found : Option Buffer) → one.binary ≡ other.binary
    → ((buffer : Buffer) (uri : List ℕ) → found ≡ Some buffer → buffer.uri ≡ Some uri → one.named uri ≡ other.named uri) → bytes_of one found ≡ bytes_of other found
by_buffer one other None own same = refl
by_buffer one other (Some buffer) own same =
    ap (λ binary. or_nothing (bytes_named one.named binary buffer.uri)) own
    ∙ by_uri one.named other.named other.binary buffer buffer.uri refl (λ uri is. same buffer uri refl is)

-- what is fetched of the names that a record needs
pub record AreWhole (find : Find) (layout : Layout) (root : Tile) (r : SubtreeRecord) (used : List Used) (files : List BufferFile) : Type 0 where
  pub fetched : AreFetched find most_file_bytes (used_names layout root r used) files
  pub there : list_any is_missing files ≡ false
  pub short : list_any is_too_long files ≡ false

same_held : (find : Find) (layout : Layout) (root : Tile) (binary : Option (List ℕ)) (r : SubtreeRecord) (used : List Used) (files : List BufferFile) (u : Used)
    → AreWhole find layout root r used files → IsAmong used u
    → held_at (sources_of find layout root binary r) u.availability ≡ held_at (fetched_sources binary r (used_uris r used) files) u.availability
same_held find layout root binary r used files u are among =
    ap (λ (b : List ℕ). let h : Held = record { parts = r; binary = b } in h)
    (by_buffer (sources_of find layout root binary r) (fetched_sources binary r (used_uris r used) files) (buffer_at r u.availability) refl
    (λ buffer uri at named.
    sym (found_under find most_file_bytes (buffer_name layout root) (used_uris r used) files uri are.fetched are.there are.short
    (by_view r used u buffer uri (view_at r u.availability) among refl at named))))

-- ---- the same for all that are used

abbrev pub AreSame : Sources → Sources → List Used → Type 0
AreSame one other [] = Unit {0}
AreSame one other (u ∷ used) = (held_at one u.availability ≡ held_at other u.availability) × AreSame one other used

each_same : (one other : Sources) (all used : List Used) → ((u : Used) → IsAmong all u → held_at one u.availability ≡ held_at other u.availability)
    → ((test : Used → Bool) → list_any test used ≡ true → list_any test all ≡ true) → AreSame one other used
each_same one other all [] same into = tt
each_same one other all (u ∷ used) same into = (
  same u (λ test is. into test (or_left (test u) (list_any test used) is)),
  each_same one other all used same (λ test is. into test (or_right (test u) (list_any test used) is)),
)

any_same_held : (test : Held → Used → Bool) (one other : Sources) (used : List Used) → AreSame one other used
    → list_any (λ u. test (held_at one u.availability) u) used ≡ list_any (λ u. test (held_at other u.availability) u) used
any_same_held test one other [] same = refl
any_same_held test one other (u ∷ used) same = ap₂ (λ a b. a || b) (ap (λ h. test h u) same.0) (any_same_held test one other used same.1)

contents_same : (layout : Layout) (one other : Sources) (contents : List Availability) (last : Used) → AreSame one other (map (for_nodes layout) contents ++ last ∷ [])
    → map (λ a. raw_bits (held_at one a) (for_nodes layout a)) contents ≡ map (λ a. raw_bits (held_at other a) (for_nodes layout a)) contents
contents_same layout one other [] last same = refl
contents_same layout one other (a ∷ contents) last same =
    ap₂ (λ bits rest. bits ∷ rest) (ap (λ h. raw_bits h (for_nodes layout a)) same.0) (contents_same layout one other contents last same.1)

last_same : (layout : Layout) (one other : Sources) (contents : List Availability) (last : Used) → AreSame one other (map (for_nodes layout) contents ++ last ∷ [])
    → held_at one last.availability ≡ held_at other last.availability
last_same layout one other [] last same = same.0
last_same layout one other (a ∷ contents) last same = last_same layout one other contents last same.1

abbrev made : Layout → Tile → List Bool → List (List Bool) → List Bool → Subtree
made layout root tiles contents child = record { scheme = layout.scheme; levels = layout.subtree_levels; cut = layout.levels; root = root; tiles = tiles; contents = contents; child = child }

subtree_same : (layout : Layout) (root : Tile) (r : SubtreeRecord) (one other : Find) (binary : Option (List ℕ)) (contents : List Availability)
    → AreSame (record { parts = r; binary = binary; named = one }) (record { parts = r; binary = binary; named = other }) (used_of layout r contents)
    → subtree_at layout root (record { parts = r; binary = binary; named = one }) contents ≡ subtree_at layout root (record { parts = r; binary = binary; named = other }) contents
subtree_same layout root r one other binary contents same =
    let s : Sources = record { parts = r; binary = binary; named = one } in
    let t : Sources = record { parts = r; binary = binary; named = other } in
    let last = for_children layout r.child in
    ap (λ h. made layout root (raw_bits h (for_nodes layout r.tiles)) (map (λ a. raw_bits (held_at s a) (for_nodes layout a)) contents) (raw_bits (held_at s r.child) last)) same.0
    ∙ ap (λ cs. made layout root (raw_bits (held_at t r.tiles) (for_nodes layout r.tiles)) cs (raw_bits (held_at s r.child) last)) (contents_same layout s t contents last same.1)
    ∙ ap (λ h. made layout root (raw_bits (held_at t r.tiles) (for_nodes layout r.tiles)) (map (λ a. raw_bits (held_at t a) (for_nodes layout a)) contents) (raw_bits h last)) (last_same layout s t contents last same.1)

bits_same : (layout : Layout) (root : Tile) (r : SubtreeRecord) (one other : Find) (binary : Option (List ℕ)) (contents : List Availability) (used : List Used)
    → used ≡ used_of layout r contents → AreSame (record { parts = r; binary = binary; named = one }) (record { parts = r; binary = binary; named = other }) used
    → bits_checked layout root (record { parts = r; binary = binary; named = one }) contents used ≡ bits_checked layout root (record { parts = r; binary = binary; named = other }) contents used
bits_same layout root r one other binary contents used are same =
    let s : Sources = record { parts = r; binary = binary; named = one } in
    let t : Sources = record { parts = r; binary = binary; named = other } in
    ap (λ b. refuse 14 b (refuse 15 (list_any (λ u. is_short (held_at s u.availability) u) used) (refuse 16 (list_any (λ u. is_miscounted (held_at s u.availability) u) used) (subtree_checked (subtree_at layout root s contents)))))
    (any_same_held (λ h u. is_out h u.availability) s t used same)
    ∙ ap (λ b. refuse 14 (list_any (λ u. is_out (held_at t u.availability) u.availability) used) (refuse 15 b (refuse 16 (list_any (λ u. is_miscounted (held_at s u.availability) u) used) (subtree_checked (subtree_at layout root s contents)))))
    (any_same_held is_short s t used same)
    ∙ ap (λ b. refuse 14 (list_any (λ u. is_out (held_at t u.availability) u.availability) used) (refuse 15 (list_any (λ u. is_short (held_at t u.availability) u) used) (refuse 16 b (subtree_checked (subtree_at layout root s contents)))))
    (any_same_held is_miscounted s t used same)
    ∙ ap (λ x. refuse 14 (list_any (λ u. is_out (held_at t u.availability) u.availability) used) (refuse 15 (list_any (λ u. is_short (held_at t u.availability) u) used) (refuse 16 (list_any (λ u. is_miscounted (held_at t u.availability) u) used) (subtree_checked x))))
    (subtree_same layout root r one other binary contents (let P : List Used → Type 0 = λ us. AreSame s t us in subst P are same))

-- where the files of all buffers are whole, the bits are those of the bytes that were fetched
pub bits_of_fetched : (find : Find) (layout : Layout) (root : Tile) (binary : Option (List ℕ)) (r : SubtreeRecord) (contents : List Availability) (used : List Used) (files : List BufferFile)
    → used ≡ used_of layout r contents → AreWhole find layout root r used files
    → bits_checked layout root (sources_of find layout root binary r) contents used ≡ bits_checked layout root (fetched_sources binary r (used_uris r used) files) contents used
bits_of_fetched find layout root binary r contents used files are whole =
    bits_same layout root r (λ uri. find (buffer_name layout root uri)) (bytes_under (used_uris r used) files) binary contents used are
    (each_same (sources_of find layout root binary r) (fetched_sources binary r (used_uris r used) files) used used
    (λ u among. same_held find layout root binary r used files u whole among) (λ test is. is))

-- ---- one more file

pub fetched_more : (find : Find) (left : ℕ) (names : List (List ℕ)) (files : List BufferFile) (name : List ℕ) (file : BufferFile)
    → AreFetched find left names files → AreFetched find (left_after left files) (name ∷ []) (file ∷ []) → AreFetched find left (names ++ name ∷ []) (files ++ file ∷ [])
fetched_more find left [] [] name file are one = one
fetched_more find left [] (f ∷ files) name file are one = absurd are
fetched_more find left (n ∷ names) [] name file are one = absurd are
fetched_more find left (n ∷ names) (Whole bytes ∷ files) name file are one = (are.0, are.1, fetched_more find (left - length bytes.items) names files name file are.2 one)
fetched_more find left (n ∷ names) (Missing ∷ files) name file are one = (are.0, fetched_more find left names files name file are.1 one)
fetched_more find left (n ∷ names) (TooLong ∷ files) name file are one = (are.0, fetched_more find 0 names files name file are.1 one)

pub left_after_more : (left : ℕ) (files : List BufferFile) (file : BufferFile) → left_after left (files ++ file ∷ []) ≡ left_after (left_after left files) (file ∷ [])
left_after_more left [] file = refl
left_after_more left (Whole bytes ∷ files) file = left_after_more (left - length bytes.items) files file
left_after_more left (Missing ∷ files) file = left_after_more left files file
left_after_more left (TooLong ∷ files) file = left_after_more 0 files file
