-- What a fetch told, as the outcome of a root.
use Rattle.std.proofs.Common.{◌≡◌, ℕ, ◌+◌, ◌<◌, ◌≤◌, List, [], ◌∷◌, ◌++◌, length, map, take, get_or, Option, Some, None, Result, Ok, Err, refl, sym, ap, ◌∙◌, subst, arith}
use Rattle.std.specs.Prelude.{IfSome, IfOk, IsSomeAnd}
use Rattle.std.proofs.lemmas.Bool.{le-ltb, lt-ltb}
use Rattle.std.proofs.lemmas.List.{take_more, map-append}
use Rattle.implicit_tiling.specs.declared.Scheme.{Scheme}
use Rattle.implicit_tiling.specs.declared.Scheme.TheVariants.{Quad, Oct}
use Rattle.implicit_tiling.specs.Files.{Files, file}
use Rattle.implicit_tiling.specs.Tile.{Tile, axes}
use Rattle.implicit_tiling.specs.Template.{filled}
use Rattle.implicit_tiling.specs.Scene.{Layout, bad, Outcome as outcome}
use Rattle.implicit_tiling.specs.Subtree.{Subtree}
use Rattle.implicit_tileset.specs.SubtreeFile.{and_then, outcome_from}
use Rattle.implicit_tileset.specs.FileOutcome.{subtree_found, needed_names, names_cost, outcome_of_bytes, cost, cost_of_bytes}
use Rattle.implicit_tileset.specs.BufferFiles.{Find}
use Rattle.implicit_tileset.specs.Scene.{subtree_name, scene_of}
use Rattle.implicit_tiling.specs.Limits.{most_file_bytes}
use Rattle.scene_ports.specs.Counts.{one_more, more_by}
use Rattle.uri_template.specs.Filling.{scheme_of}
use Rattle.subtree_file.specs.declared.buffers.BufferFile.{BufferFile}
use Rattle.subtree_file.specs.declared.fault.DecodeFault.{DecodeFault}
use Rattle.subtree_file.specs.declared.fault.DecodeFault.TheVariants.{Fault, Memory}
use Rattle.subtree_file.specs.Decoding.{Decodes, AreUsed}
use Rattle.subtree_file.specs.Needed.{DecodesNames, buffer_rows}
use Rattle.subtree_file.specs.Buffers.{AreFetched, left_after}
use Rattle.subtree_file.specs.Opened.{Opened, opened, opened_names, opened_subtree, AreOpenedBuffers}
use Rattle.subtree_file.proofs.Fetching.{fetched_more}
use Rattle.subtree_file.proofs.Opening.{names_opened, subtree_opened, buffers_err}
use Rattle.subtree_outcome.specs.declared.outcome.Outcome.{Outcome}
use Rattle.subtree_outcome.specs.declared.outcome.WalkStop.{WalkStop}
use Rattle.subtree_outcome.specs.Outcomes.{outcome_seen}
use Rattle.subtree_outcome.specs.Reading.{fault_outcome}
use Rattle.subtree_outcome.specs.Fetched.{HasFetched, HasFetchedBuffers, cost_of_all}

-- a fact of each list of files that a source tells
pub of_told : (told : Option Files) (P Q : Files → Type 0) → ((all : Files) → P all → Q all) → IfSome told P → IfSome told Q
of_told None P Q f h = tt
of_told (Some all) P Q f h = f all h

scheme_again : (scheme : Scheme) → scheme_of (axes scheme) ≡ scheme
scheme_again Quad = refl
scheme_again Oct = refl

-- a template filled with a root is the name of its file
pub name_is : (layout : Layout) (root tile : Tile) (count : ℕ) (scheme : Scheme) (template text before after : List ℕ)
    → text ≡ after → after ≡ before ++ filled (scheme_of count) template tile → before ≡ [] → count ≡ axes scheme → scheme ≡ layout.scheme → template ≡ layout.subtree → tile ≡ root
    → text ≡ subtree_name layout root
name_is layout root tile count scheme template text before after is more empty of same written at =
    is ∙ more ∙ ap (λ w. w ++ filled (scheme_of count) template tile) empty
    ∙ ap (λ e. filled (scheme_of e) template tile) of ∙ ap (λ e. filled e template tile) (scheme_again scheme ∙ same)
    ∙ ap (λ w. filled layout.scheme w tile) written ∙ ap (filled layout.scheme layout.subtree) at

-- ---- the outcome of a file

-- of one that isn't too long
long_enough : (find : Find) (layout : Layout) (root : Tile) (found : Option (List ℕ)) (bytes : List ℕ) → found ≡ Some bytes → length bytes ≤ 16777216
    → outcome_of_bytes find layout root found ≡ outcome_from (subtree_found find layout root bytes)
long_enough find layout root found bytes is short = ap (outcome_of_bytes find layout root) is ∙ rw (le-ltb _ _ short) refl

pub told_whole : (told : Option Files) (layout : Layout) (root : Tile) (name bytes same : List ℕ) (found : outcome) → name ≡ subtree_name layout root
    → IfSome told (λ all. file name all ≡ Some bytes) → length bytes ≤ 16777216 → same ≡ bytes → IfSome told (λ all. outcome_from (subtree_found (λ n. file n all) layout root same) ≡ found)
    → IfSome told (λ all. (scene_of all layout).outcome root ≡ found)
told_whole None layout root name bytes same found is there short bytes_are stated = tt
told_whole (Some all) layout root name bytes same found is there short bytes_are stated =
    long_enough (λ n. file n all) layout root (file (subtree_name layout root) all) bytes (ap (λ n. file n all) (sym is) ∙ there) short
    ∙ ap (λ b. outcome_from (subtree_found (λ n. file n all) layout root b)) (sym bytes_are) ∙ stated

-- from two facts, and from three
pub both_told : (told : Option Files) (P Q R : Files → Type 0) → ((all : Files) → P all → Q all → R all) → IfSome told P → IfSome told Q → IfSome told R
both_told None P Q R f h k = tt
both_told (Some all) P Q R f h k = f all h k

-- the same files, told later
pub told_same : (now told : Option Files) (P : Files → Type 0) → now ≡ told → IfSome now P → IfSome told P
told_same now told P is h = let Q : Option Files → Type 0 = λ t. IfSome t P in subst Q is h

-- a fact of any files
pub told_always : (told : Option Files) (P : Files → Type 0) → ((all : Files) → P all) → IfSome told P
told_always None P f = tt
told_always (Some all) P f = f all

pub three_told : (told : Option Files) (P Q R T : Files → Type 0) → ((all : Files) → P all → Q all → R all → T all) → IfSome told P → IfSome told Q → IfSome told R → IfSome told T
three_told None P Q R T f h k m = tt
three_told (Some all) P Q R T f h k m = f all h k m

-- ---- the outcome of the bytes of a file

-- of one that can't be opened
pub told_unopened : (told : Option Files) (layout : Layout) (root : Tile) (bytes : List ℕ) (n : ℕ) → opened layout bytes ≡ Err n
    → IfSome told (λ all. outcome_from (subtree_found (λ name. file name all) layout root bytes) ≡ outcome_from (Err n))
told_unopened told layout root bytes n is = told_always told _ (λ all.
    let find : Find = λ name. file name all in
    ap outcome_from (subtree_opened find layout root bytes ∙ ap (λ r. and_then r (opened_subtree find layout root)) is))

rows_of : (rows : Result (Unit {0}) ℕ) (names : List (List ℕ)) (n : ℕ) → and_then rows (λ done. Ok names) ≡ Err n → rows ≡ Err n
rows_of (Ok done) names n is = cc
rows_of (Err m) names n is = let same : m ≡ n = cc in ap Err same

-- of one that names no files
pub told_unnamed : (told : Option Files) (layout : Layout) (root : Tile) (bytes : List ℕ) (o : Opened) (names : List (List ℕ)) (n : ℕ) → opened layout bytes ≡ Ok o → AreUsed layout o.parts o.used
    → opened_names layout root o ≡ Err n → IfSome told (λ all. outcome_from (subtree_found (λ name. file name all) layout root bytes) ≡ outcome_from (Err n))
told_unnamed told layout root bytes o names n is are no_names = told_always told _ (λ all.
    let find : Find = λ name. file name all in
    let rows : opened_subtree find layout root o ≡ Err n = buffers_err find layout root o (Fault n) are (rows_of _ _ n no_names) in
    ap outcome_from (subtree_opened find layout root bytes ∙ ap (λ r. and_then r (opened_subtree find layout root)) is ∙ rows))

are_buffers : (find : Find) (layout : Layout) (root : Tile) (o : Opened) (names : List (List ℕ)) (buffers : List BufferFile) → opened_names layout root o ≡ Ok names
    → AreFetched find most_file_bytes names buffers → AreOpenedBuffers find layout root o buffers
are_buffers find layout root o names buffers is are =
    let P : Result (List (List ℕ)) ℕ → Type 0 = λ r. IfOk r (λ ns. AreFetched find most_file_bytes ns buffers) in
    subst P (sym is) are

-- of one that was decoded with its buffers
pub told_decoded : (told : Option Files) (layout : Layout) (root : Tile) (bytes : List ℕ) (o : Opened) (names : List (List ℕ)) (buffers : List BufferFile) (found : Result Subtree ℕ)
    → opened layout bytes ≡ Ok o → opened_names layout root o ≡ Ok names → IfSome told (λ all. AreFetched (λ name. file name all) most_file_bytes names buffers)
    → ((find : Find) → AreOpenedBuffers find layout root o buffers → opened_subtree find layout root o ≡ found)
    → IfSome told (λ all. outcome_from (subtree_found (λ name. file name all) layout root bytes) ≡ outcome_from found)
told_decoded told layout root bytes o names buffers found is are_names fetched each =
    of_told told (λ all. AreFetched (λ name. file name all) most_file_bytes names buffers) (λ all. outcome_from (subtree_found (λ name. file name all) layout root bytes) ≡ outcome_from found) (λ all are.
    let find : Find = λ name. file name all in
    ap outcome_from (subtree_opened find layout root bytes ∙ ap (λ r. and_then r (opened_subtree find layout root)) is ∙ each find (are_buffers find layout root o names buffers are_names are))) fetched

-- ---- the fetches of its buffers

-- none, where it has a fault before
pub none_needed : (layout : Layout) (needed : Result (List (List ℕ)) ℕ) (n before : ℕ) → needed ≡ Err n → HasFetchedBuffers layout needed before before
none_needed layout needed n before is = record { fetches = 0; counted = omega arith; are = ap names_cost is; few = omega arith }

pub unopened_needs : (layout : Layout) (root : Tile) (bytes : List ℕ) (n before : ℕ) → opened layout bytes ≡ Err n → HasFetchedBuffers layout (needed_names layout root bytes) before before
unopened_needs layout root bytes n before is = none_needed layout (needed_names layout root bytes) n before (names_opened layout root bytes ∙ ap (λ r. and_then r (opened_names layout root)) is)

pub unnamed_needs : (layout : Layout) (root : Tile) (bytes : List ℕ) (o : Opened) (n before : ℕ) → opened layout bytes ≡ Ok o → opened_names layout root o ≡ Err n
    → HasFetchedBuffers layout (needed_names layout root bytes) before before
unnamed_needs layout root bytes o n before is no_names =
    none_needed layout (needed_names layout root bytes) n before (names_opened layout root bytes ∙ ap (λ r. and_then r (opened_names layout root)) is ∙ no_names)

pub named_needs : (layout : Layout) (root : Tile) (bytes : List ℕ) (o : Opened) (names : List (List ℕ)) (before now : ℕ) → opened layout bytes ≡ Ok o → opened_names layout root o ≡ Ok names
    → length names ≤ length layout.contents + 2 → now ≡ more_by (length names) before → HasFetchedBuffers layout (needed_names layout root bytes) before now
named_needs layout root bytes o names before now is are_names few more = record {
  fetches = length names;
  counted = more;
  are = ap names_cost (names_opened layout root bytes ∙ ap (λ r. and_then r (opened_names layout root)) is ∙ are_names) ∙ (let turned : 1 + length names ≡ length names + 1 = omega arith in turned);
  few = few;
}

-- ---- the fetches of a root

cost_of_one : (files : Files) (layout : Layout) (root : Tile) (n : ℕ) → cost files layout root ≡ n → n ≡ cost_of_all files layout (root ∷ [])
cost_of_one files layout root n is = sym is ∙ (let e : cost files layout root ≡ cost_of_all files layout (root ∷ []) = omega arith in e)

cost_there : (files : Files) (layout : Layout) (root : Tile) (found : Option (List ℕ)) (bytes : List ℕ) → found ≡ Some bytes → length bytes ≤ 16777216 → cost_of_bytes layout root found ≡ names_cost (needed_names layout root bytes)
cost_there files layout root found bytes is short = ap (cost_of_bytes layout root) is ∙ rw (le-ltb _ _ short) refl

pub fetched_whole : (told : Option Files) (layout : Layout) (root : Tile) (name bytes same : List ℕ) (before mid now : ℕ) → name ≡ subtree_name layout root
    → IfSome told (λ all. file name all ≡ Some bytes) → length bytes ≤ 16777216 → same ≡ bytes → mid ≡ one_more before → HasFetchedBuffers layout (needed_names layout root same) mid now
    → HasFetched layout told (root ∷ []) before now
fetched_whole told layout root name bytes same before mid now is there short bytes_are one more = record {
  fetches = more.fetches + 1;
  counted = omega (arith, more.counted, one);
  some = omega arith;
  few = omega (arith, more.few);
  of_files = of_told told (λ all. file name all ≡ Some bytes) (λ all. more.fetches + 1 ≡ cost_of_all all layout (root ∷ []))
      (λ all e. cost_of_one all layout root (more.fetches + 1)
      (cost_there all layout root (file (subtree_name layout root) all) bytes (ap (λ n. file n all) (sym is) ∙ e) short ∙ ap (λ b. names_cost (needed_names layout root b)) (sym bytes_are) ∙ more.are)) there;
}

-- one that isn't read costs one
pub fetched_missing : (told : Option Files) (layout : Layout) (root : Tile) (name : List ℕ) (before now : ℕ) → name ≡ subtree_name layout root
    → IfSome told (λ all. file name all ≡ None) → now ≡ one_more before → HasFetched layout told (root ∷ []) before now
fetched_missing told layout root name before now is there one = record {
  fetches = 1;
  counted = omega (arith, one);
  some = omega arith;
  few = omega arith;
  of_files = of_told told (λ all. file name all ≡ None) (λ all. 1 ≡ cost_of_all all layout (root ∷ []))
      (λ all e. cost_of_one all layout root 1 (ap (cost_of_bytes layout root) (ap (λ n. file n all) (sym is) ∙ e))) there;
}

too_long_costs : (layout : Layout) (root : Tile) (found : Option (List ℕ)) → IsSomeAnd found (λ bytes. 16777216 < length bytes) → cost_of_bytes layout root found ≡ 1
too_long_costs layout root None h = absurd h
too_long_costs layout root (Some bytes) h = rw (lt-ltb 16777216 (length bytes) h) refl

pub fetched_too_long : (told : Option Files) (layout : Layout) (root : Tile) (name : List ℕ) (before now : ℕ) → name ≡ subtree_name layout root
    → IfSome told (λ all. IsSomeAnd (file name all) (λ bytes. 16777216 < length bytes)) → now ≡ one_more before → HasFetched layout told (root ∷ []) before now
fetched_too_long told layout root name before now is there one = record {
  fetches = 1;
  counted = omega (arith, one);
  some = omega arith;
  few = omega arith;
  of_files = of_told told (λ all. IsSomeAnd (file name all) (λ bytes. 16777216 < length bytes)) (λ all. 1 ≡ cost_of_all all layout (root ∷ []))
      (λ all e. cost_of_one all layout root 1 (ap (λ n. cost_of_bytes layout root (file n all)) (sym is) ∙ too_long_costs layout root (file name all) e)) there;
}

-- ---- the answers of the reading of a file

pub fault_unopened : (told : Option Files) (layout : Layout) (root : Tile) (bytes : List ℕ) (fault : DecodeFault) → Decodes (opened layout bytes) (Err fault)
    → IfSome told (λ all. IfOk (fault_outcome fault) (λ found. outcome_from (subtree_found (λ name. file name all) layout root bytes) ≡ outcome_seen found))
fault_unopened told layout root bytes Memory is = told_always told _ (λ all. tt)
fault_unopened told layout root bytes (Fault n) is = told_unopened told layout root bytes n is

pub fault_unnamed : (told : Option Files) (layout : Layout) (root : Tile) (bytes : List ℕ) (o : Opened) (fault : DecodeFault) → opened layout bytes ≡ Ok o → AreUsed layout o.parts o.used
    → DecodesNames (opened_names layout root o) (Err fault)
    → IfSome told (λ all. IfOk (fault_outcome fault) (λ found. outcome_from (subtree_found (λ name. file name all) layout root bytes) ≡ outcome_seen found))
fault_unnamed told layout root bytes o Memory is are no_names = told_always told _ (λ all. tt)
fault_unnamed told layout root bytes o (Fault n) is are no_names = told_unnamed told layout root bytes o [] n is are no_names

pub fault_decoded : (told : Option Files) (layout : Layout) (root : Tile) (bytes : List ℕ) (o : Opened) (names : List (List ℕ)) (buffers : List BufferFile) (fault : DecodeFault)
    → opened layout bytes ≡ Ok o → opened_names layout root o ≡ Ok names → IfSome told (λ all. AreFetched (λ name. file name all) most_file_bytes names buffers)
    → ((find : Find) → AreOpenedBuffers find layout root o buffers → Decodes {A = Subtree} (opened_subtree find layout root o) (Err fault))
    → IfSome told (λ all. IfOk (fault_outcome fault) (λ found. outcome_from (subtree_found (λ name. file name all) layout root bytes) ≡ outcome_seen found))
fault_decoded told layout root bytes o names buffers Memory is are_names fetched each = told_always told _ (λ all. tt)
fault_decoded told layout root bytes o names buffers (Fault n) is are_names fetched each = told_decoded told layout root bytes o names buffers (Err n) is are_names fetched each

pub fault_needs : (layout : Layout) (root : Tile) (bytes : List ℕ) (fault : DecodeFault) (before : ℕ) → Decodes (opened layout bytes) (Err fault)
    → IfOk (fault_outcome fault) (λ found. HasFetchedBuffers layout (needed_names layout root bytes) before before)
fault_needs layout root bytes Memory before is = tt
fault_needs layout root bytes (Fault n) before is = unopened_needs layout root bytes n before is

pub fault_names_needs : (layout : Layout) (root : Tile) (bytes : List ℕ) (o : Opened) (fault : DecodeFault) (before : ℕ) → opened layout bytes ≡ Ok o → DecodesNames (opened_names layout root o) (Err fault)
    → IfOk (fault_outcome fault) (λ found. HasFetchedBuffers layout (needed_names layout root bytes) before before)
fault_names_needs layout root bytes o Memory before is no_names = tt
fault_names_needs layout root bytes o (Fault n) before is no_names = unnamed_needs layout root bytes o n before is no_names

pub any_needs : (layout : Layout) (root : Tile) (bytes : List ℕ) (result : Result Outcome WalkStop) (before now : ℕ) → HasFetchedBuffers layout (needed_names layout root bytes) before now
    → IfOk result (λ found. HasFetchedBuffers layout (needed_names layout root bytes) before now)
any_needs layout root bytes (Ok found) before now has = has
any_needs layout root bytes (Err stop) before now has = tt

-- ---- the answers of the reading of a root

pub told_file : (told : Option Files) (layout : Layout) (root : Tile) (name bytes same : List ℕ) (result : Result Outcome WalkStop) → name ≡ subtree_name layout root
    → IfSome told (λ all. file name all ≡ Some bytes) → length bytes ≤ 16777216 → same ≡ bytes
    → IfSome told (λ all. IfOk result (λ found. outcome_from (subtree_found (λ n. file n all) layout root same) ≡ outcome_seen found))
    → IfSome told (λ all. IfOk result (λ found. (scene_of all layout).outcome root ≡ outcome_seen found))
told_file told layout root name bytes same (Ok found) is there short bytes_are stated = told_whole told layout root name bytes same (outcome_seen found) is there short bytes_are stated
told_file told layout root name bytes same (Err stop) is there short bytes_are stated = told_always told _ (λ all. tt)

pub fetched_file : (told : Option Files) (layout : Layout) (root : Tile) (name bytes same : List ℕ) (result : Result Outcome WalkStop) (before mid now : ℕ) → name ≡ subtree_name layout root
    → IfSome told (λ all. file name all ≡ Some bytes) → length bytes ≤ 16777216 → same ≡ bytes → mid ≡ one_more before
    → IfOk result (λ found. HasFetchedBuffers layout (needed_names layout root same) mid now)
    → IfOk result (λ found. HasFetched layout told (root ∷ []) before now)
fetched_file told layout root name bytes same (Ok found) before mid now is there short bytes_are one more = fetched_whole told layout root name bytes same before mid now is there short bytes_are one more
fetched_file told layout root name bytes same (Err stop) before mid now is there short bytes_are one more = tt

too_long_is : (find : Find) (layout : Layout) (root : Tile) (found : Option (List ℕ)) → IsSomeAnd found (λ bytes. 16777216 < length bytes) → outcome_of_bytes find layout root found ≡ bad 2
too_long_is find layout root None h = absurd h
too_long_is find layout root (Some bytes) h = rw (lt-ltb 16777216 (length bytes) h) refl

pub told_too_long : (told : Option Files) (layout : Layout) (root : Tile) (name : List ℕ) → name ≡ subtree_name layout root → IfSome told (λ all. IsSomeAnd (file name all) (λ bytes. 16777216 < length bytes))
    → IfSome told (λ all. (scene_of all layout).outcome root ≡ bad 2)
told_too_long told layout root name is there = of_told told (λ all. IsSomeAnd (file name all) (λ bytes. 16777216 < length bytes)) (λ all. (scene_of all layout).outcome root ≡ bad 2)
    (λ all e. ap (λ n. outcome_of_bytes (λ m. file m all) layout root (file n all)) (sym is) ∙ too_long_is (λ m. file m all) layout root (file name all) e) there

-- ---- buffers, one after another

pub one_name_more : {X : Type 0} (f : X → List ℕ) (xs : List X) (i : ℕ) (x : X) (text : List ℕ) → i < length xs → x ≡ get_or xs i x → text ≡ f x → map f (take (i + 1) xs) ≡ map f (take i xs) ++ text ∷ []
one_name_more f xs i x text low at is = ap (map f) (take_more xs i x low) ∙ map-append f (take i xs) (get_or xs i x ∷ []) ∙ ap (λ w. map f (take i xs) ++ f w ∷ []) (sym at) ∙ ap (λ w. map f (take i xs) ++ w ∷ []) (sym is)

pub buffer_more : (find : Find) (left : ℕ) (names all : List (List ℕ)) (name : List ℕ) (files now : List BufferFile) (f : BufferFile) → all ≡ names ++ name ∷ [] → now ≡ files ++ f ∷ [] → left ≡ left_after most_file_bytes files
    → AreFetched find most_file_bytes names files → AreFetched find left (name ∷ []) (f ∷ []) → AreFetched find most_file_bytes all now
buffer_more find left names all name files now f names_are files_are left_is are one =
    let P : List (List ℕ) → Type 0 = λ ns. AreFetched find most_file_bytes ns now in
    let Q : List BufferFile → Type 0 = AreFetched find most_file_bytes (names ++ name ∷ []) in
    let R : ℕ → Type 0 = λ n. AreFetched find n (name ∷ []) (f ∷ []) in
    subst P (sym names_are) (subst Q (sym files_are) (fetched_more find most_file_bytes names files name f are (subst R left_is one)))
