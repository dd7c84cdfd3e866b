-- The rows of a subtree file, in the steps in which they are looked at.
use Rattle.std.proofs.Common.{◌≡◌, ◌∙◌, ℕ, ◌+◌, ◌≤◌, ◌++◌, Bool, true, false, List, length, map, refl, sym, ap, subst, arith}
use Rattle.std.specs.Prelude.{Option, Some, None, option_map, is_some, IfOk, Result, Ok, Err}
use Rattle.std.specs.List.{list_any}
use denote.Ref.{Bor}
use Rattle.implicit_tiling.proofs.Tables.{refuse-good}
use Rattle.implicit_tiling.specs.Checks.{need, refuse}
use Rattle.implicit_tiling.specs.Limits.{most_file_bytes}
use Rattle.implicit_tiling.specs.Tile.{Tile}
use Rattle.implicit_tiling.specs.Scene.{Layout}
use Rattle.implicit_tiling.specs.Subtree.{Subtree}
use Rattle.implicit_tileset.specs.Record.{Availability, SubtreeRecord, record_of}
use Rattle.implicit_tileset.specs.SubtreeFile.{Used, wanted_contents, used_of, and_then}
use Rattle.implicit_tileset.specs.FileForms.{FileParts, file_parts}
use Rattle.implicit_tileset.specs.BufferFiles.{Find, root_folder, buffer_name, used_uris, used_names}
use Rattle.implicit_tileset.specs.FileOutcome.{files_checked, bits_checked, sources_of, subtree_of_record, subtree_found, buffers_checked, needed_names}
use Rattle.subtree_file.specs.declared.fault.DecodeFault.{DecodeFault}
use Rattle.subtree_file.specs.declared.fault.DecodeFault.TheVariants.{Fault, Memory}
use Rattle.subtree_file.specs.declared.buffers.BufferFile.{BufferFile}
use Rattle.subtree_file.specs.Decoding.{Decodes, AreUsed, used_in, subtree_placed}
use Rattle.subtree_file.specs.Needed.{DecodesNames, buffer_rows, shown}
use Rattle.subtree_file.specs.Buffers.{AreFetched, bytes_under, is_missing, is_too_long, files_rows}
use Rattle.subtree_file.specs.Opened.{Opened, opened, opened_names, opened_subtree, AreOpenedBuffers, AreBuffers}
use Rattle.subtree_file.proofs.Naming.{by_contents, buffers_by_rows, is_some_shown, map_shown}
use Rattle.subtree_file.proofs.Few.{few_names}
use Rattle.subtree_file.proofs.Fetching.{fetched_sources, AreWhole, files_by_rows, bits_of_fetched}

-- ---- a file that is opened

and_then_same : {A B : Type 0} (found : Result A ℕ) (one other : A → Result B ℕ) → ((a : A) → one a ≡ other a) → and_then found one ≡ and_then found other
and_then_same (Ok a) one other same = same a
and_then_same (Err n) one other same = refl

-- one step after another
then_then : {A B C : Type 0} (found : Result A ℕ) (next : A → Result B ℕ) (rest : B → Result C ℕ) → and_then found (λ a. and_then (next a) rest) ≡ and_then (and_then found next) rest
then_then (Ok a) next rest = refl
then_then (Err n) next rest = refl

abbrev opened_with : Layout → Option (List ℕ) → SubtreeRecord → Result Opened ℕ
opened_with layout binary r = and_then (used_in layout r) (λ used. Ok (record { parts = r; binary = binary; used = used }))

after : {B : Type 0} (layout : Layout) (bytes : List ℕ) (rest : Opened → Result B ℕ)
    → and_then (file_parts bytes) (λ parts. and_then (record_of parts.json) (λ r. and_then (used_in layout r) (λ used. rest (record { parts = r; binary = parts.binary; used = used }))))
    ≡ and_then (opened layout bytes) rest
after layout bytes rest =
    and_then_same (file_parts bytes) _ (λ parts. and_then (and_then (record_of parts.json) (opened_with layout parts.binary)) rest) (λ parts.
    and_then_same (record_of parts.json) _ (λ r. and_then (opened_with layout parts.binary r) rest) (λ r. then_then (used_in layout r) (λ used. Ok (record { parts = r; binary = parts.binary; used = used })) rest)
    ∙ then_then (record_of parts.json) (opened_with layout parts.binary) rest)
    ∙ then_then (file_parts bytes) (λ parts. and_then (record_of parts.json) (opened_with layout parts.binary)) rest

pub names_opened : (layout : Layout) (root : Tile) (bytes : List ℕ) → needed_names layout root bytes ≡ and_then (opened layout bytes) (opened_names layout root)
names_opened layout root bytes =
    and_then_same (file_parts bytes) _ (λ parts. and_then (record_of parts.json) (λ r. and_then (used_in layout r) (λ used. opened_names layout root (record { parts = r; binary = parts.binary; used = used })))) (λ parts.
    and_then_same (record_of parts.json) _ (λ r. and_then (used_in layout r) (λ used. opened_names layout root (record { parts = r; binary = parts.binary; used = used })))
    (λ r. by_contents layout root parts.binary r (wanted_contents layout r)))
    ∙ after layout bytes (opened_names layout root)

with_contents : (find : Find) (layout : Layout) (root : Tile) (binary : Option (List ℕ)) (r : SubtreeRecord) (found : Option (List Availability))
    → need 11 found (λ contents. subtree_of_record find layout root binary r contents (used_of layout r contents))
    ≡ and_then (need 11 found (λ contents. Ok (used_of layout r contents))) (λ used. need 11 found (λ contents. subtree_of_record find layout root binary r contents used))
with_contents find layout root binary r None = refl
with_contents find layout root binary r (Some contents) = refl

pub subtree_opened : (find : Find) (layout : Layout) (root : Tile) (bytes : List ℕ) → subtree_found find layout root bytes ≡ and_then (opened layout bytes) (opened_subtree find layout root)
subtree_opened find layout root bytes =
    and_then_same (file_parts bytes) _ (λ parts. and_then (record_of parts.json) (λ r. and_then (used_in layout r) (λ used. opened_subtree find layout root (record { parts = r; binary = parts.binary; used = used })))) (λ parts.
    and_then_same (record_of parts.json) _ (λ r. and_then (used_in layout r) (λ used. opened_subtree find layout root (record { parts = r; binary = parts.binary; used = used })))
    (λ r. with_contents find layout root parts.binary r (wanted_contents layout r)))
    ∙ after layout bytes (opened_subtree find layout root)

-- ---- the rows from 12 on

abbrev rest_of : Find → Layout → Tile → Opened → List Availability → Result Subtree ℕ
rest_of find layout root o contents =
    files_checked find (used_names layout root o.parts o.used) (bits_checked layout root (sources_of find layout root o.binary o.parts) contents o.used)

by_rows : (find : Find) (layout : Layout) (root : Tile) (o : Opened) (are : AreUsed layout o.parts o.used)
    → opened_subtree find layout root o ≡ and_then (buffer_rows o.parts (is_some o.binary) o.used) (λ done. rest_of find layout root o are.contents)
by_rows find layout root o are =
    ap (λ found. need 11 found (λ contents. subtree_of_record find layout root o.binary o.parts contents o.used)) are.wanted
    ∙ buffers_by_rows find layout root o.binary o.parts o.used (rest_of find layout root o are.contents)

pub buffers_err : (find : Find) (layout : Layout) (root : Tile) (o : Opened) (fault : DecodeFault) → AreUsed layout o.parts o.used
    → Decodes (buffer_rows o.parts (is_some o.binary) o.used) (Err fault) → Decodes (opened_subtree find layout root o) (Err fault)
buffers_err find layout root o Memory are is = tt
buffers_err find layout root o (Fault n) are is = by_rows find layout root o are ∙ ap (λ r. and_then r (λ done. rest_of find layout root o are.contents)) is

abbrev named_of : Layout → Tile → Opened → Result (List (List ℕ)) ℕ
named_of layout root o = Ok (used_names layout root o.parts o.used)

are_names : (find : Find) (layout : Layout) (root : Tile) (o : Opened) (files : List BufferFile) (rows : Result (Unit {0}) ℕ) → rows ≡ Ok tt
    → IfOk (and_then rows (λ done. named_of layout root o)) (λ names. AreFetched find most_file_bytes names files)
    → AreFetched find most_file_bytes (used_names layout root o.parts o.used) files
are_names find layout root o files (Ok done) is are = are
are_names find layout root o files (Err n) is are = cc

pub fetched_of : (find : Find) (layout : Layout) (root : Tile) (o : Opened) (files : List BufferFile) → buffer_rows o.parts (is_some o.binary) o.used ≡ Ok tt
    → AreOpenedBuffers find layout root o files → AreFetched find most_file_bytes (used_names layout root o.parts o.used) files
fetched_of find layout root o files rows are = are_names find layout root o files (buffer_rows o.parts (is_some o.binary) o.used) rows are

after_buffers : (find : Find) (layout : Layout) (root : Tile) (o : Opened) (files : List BufferFile) (are : AreUsed layout o.parts o.used) → buffer_rows o.parts (is_some o.binary) o.used ≡ Ok tt
    → AreOpenedBuffers find layout root o files
    → opened_subtree find layout root o ≡ and_then (files_rows files) (λ done. bits_checked layout root (sources_of find layout root o.binary o.parts) are.contents o.used)
after_buffers find layout root o files are rows fetched =
    by_rows find layout root o are
    ∙ ap (λ r. and_then r (λ done. rest_of find layout root o are.contents)) rows
    ∙ files_by_rows find (used_names layout root o.parts o.used) files (bits_checked layout root (sources_of find layout root o.binary o.parts) are.contents o.used)
    (fetched_of find layout root o files rows fetched)

pub files_err : (find : Find) (layout : Layout) (root : Tile) (o : Opened) (files : List BufferFile) (fault : DecodeFault) → AreUsed layout o.parts o.used → buffer_rows o.parts (is_some o.binary) o.used ≡ Ok tt
    → AreOpenedBuffers find layout root o files → Decodes (files_rows files) (Err fault) → Decodes (opened_subtree find layout root o) (Err fault)
files_err find layout root o files Memory are rows fetched is = tt
files_err find layout root o files (Fault n) are rows fetched is =
    after_buffers find layout root o files are rows fetched
    ∙ ap (λ r. and_then r (λ done. bits_checked layout root (sources_of find layout root o.binary o.parts) are.contents o.used)) is

pub placed_of : (find : Find) (layout : Layout) (root : Tile) (o : Opened) (files : List BufferFile) → AreUsed layout o.parts o.used → buffer_rows o.parts (is_some o.binary) o.used ≡ Ok tt
    → AreOpenedBuffers find layout root o files → files_rows files ≡ Ok tt
    → opened_subtree find layout root o ≡ subtree_placed layout root (fetched_sources o.binary o.parts (used_uris o.parts o.used) files) o.used
placed_of find layout root o files are rows fetched whole =
    let there = refuse-good 19 (list_any is_missing files) (refuse 20 (list_any is_too_long files) (Ok tt)) tt whole in
    let short = refuse-good 20 (list_any is_too_long files) (Ok tt) tt there.1 in
    let all : AreWhole find layout root o.parts o.used files = record { fetched = fetched_of find layout root o files rows fetched; there = there.0; short = short.0 } in
    let s = fetched_sources o.binary o.parts (used_uris o.parts o.used) files in
    after_buffers find layout root o files are rows fetched
    ∙ ap (λ r. and_then r (λ done. bits_checked layout root (sources_of find layout root o.binary o.parts) are.contents o.used)) whole
    ∙ bits_of_fetched find layout root o.binary o.parts are.contents o.used files are.are all
    ∙ sym (ap (λ found. need 11 found (λ contents. bits_checked layout root s contents o.used)) are.wanted)

-- ---- the names that are needed

named_by : (rows : Result (Unit {0}) ℕ) (own names : List (List ℕ)) → and_then rows (λ done. Ok own) ≡ Ok names → own ≡ names
named_by (Ok done) own names is = cc
named_by (Err n) own names is = cc

pub named_few : (layout : Layout) (root : Tile) (o : Opened) (names : List (List ℕ)) → AreUsed layout o.parts o.used → opened_names layout root o ≡ Ok names → length names ≤ length layout.contents + 2
named_few layout root o names are is =
    omega (arith, few_names layout root o.parts o.used are, ap (length {A = List ℕ}) (named_by (buffer_rows o.parts (is_some o.binary) o.used) (used_names layout root o.parts o.used) names is))

pub names_ok : (layout : Layout) (root : Tile) (parts : SubtreeRecord) (binary : Option (Bor (List ℕ))) (own used more : List Used) (has : Bool) (folder : List ℕ) (texts : List (Bor (List ℕ))) (names : List (List ℕ))
    → used ≡ own → more ≡ own → has ≡ is_some binary → buffer_rows parts has used ≡ Ok tt → folder ≡ root_folder layout root → shown texts ≡ used_uris parts more → names ≡ map (λ u. folder ++ u.now) texts
    → opened_names layout root (record { parts = parts; binary = option_map (λ b. b.now) binary; used = own }) ≡ Ok names
names_ok layout root parts binary own used more has folder texts names used_is more_is same rows at uris are =
    ap (λ b. and_then (buffer_rows parts b own) (λ done. Ok (used_names layout root parts own))) (is_some_shown binary ∙ sym same)
    ∙ ap (λ us. and_then (buffer_rows parts has us) (λ done. Ok (used_names layout root parts own))) (sym used_is)
    ∙ ap (λ r. and_then r (λ done. Ok (used_names layout root parts own))) rows
    ∙ ap (λ us. Ok (map (buffer_name layout root) us)) (sym (uris ∙ ap (used_uris parts) more_is))
    ∙ ap (λ f. Ok (map (λ uri. f ++ uri) (shown texts))) (sym at)
    ∙ ap Ok (sym (are ∙ map_shown folder texts))

pub names_err : (layout : Layout) (root : Tile) (parts : SubtreeRecord) (binary : Option (Bor (List ℕ))) (own used : List Used) (has : Bool) (n : ℕ) → used ≡ own → has ≡ is_some binary → buffer_rows parts has used ≡ Err n
    → opened_names layout root (record { parts = parts; binary = option_map (λ b. b.now) binary; used = own }) ≡ Err n
names_err layout root parts binary own used has n used_is same rows =
    ap (λ b. and_then (buffer_rows parts b own) (λ done. Ok (used_names layout root parts own))) (is_some_shown binary ∙ sym same)
    ∙ ap (λ us. and_then (buffer_rows parts has us) (λ done. Ok (used_names layout root parts own))) (sym used_is)
    ∙ ap (λ r. and_then r (λ done. Ok (used_names layout root parts own))) rows

-- ---- the parts of a file as they are held, and as they are seen

abbrev seen_as : SubtreeRecord → Option (Bor (List ℕ)) → List Used → Opened
seen_as parts binary own = record { parts = parts; binary = option_map (λ b. b.now) binary; used = own }

pub same_rows : (parts : SubtreeRecord) (binary : Option (Bor (List ℕ))) (own used : List Used) (has : Bool) (o : Opened) → seen_as parts binary own ≡ o → used ≡ own → has ≡ is_some binary
    → buffer_rows parts has used ≡ buffer_rows o.parts (is_some o.binary) o.used
same_rows parts binary own used has o seen used_is same =
    ap (λ b. buffer_rows parts b used) (same ∙ sym (is_some_shown binary))
    ∙ ap (buffer_rows parts (is_some (option_map (λ b. b.now) binary))) used_is
    ∙ ap (λ (x : Opened). buffer_rows x.parts (is_some x.binary) x.used) seen

pub same_placed : (layout : Layout) (root : Tile) (parts : SubtreeRecord) (binary : Option (Bor (List ℕ))) (own used : List Used) (uris : List (Bor (List ℕ))) (files : List BufferFile) (o : Opened)
    → seen_as parts binary own ≡ o → used ≡ own → shown uris ≡ used_uris parts own
    → subtree_placed layout root (record { parts = parts; binary = option_map (λ b. b.now) binary; named = bytes_under (shown uris) files }) used
    ≡ subtree_placed layout root (fetched_sources o.binary o.parts (used_uris o.parts o.used) files) o.used
same_placed layout root parts binary own used uris files o seen used_is uris_is =
    ap (λ us. subtree_placed layout root (fetched_sources (option_map (λ b. b.now) binary) parts us files) used) uris_is
    ∙ ap (subtree_placed layout root (fetched_sources (option_map (λ b. b.now) binary) parts (used_uris parts own) files)) used_is
    ∙ ap (λ (x : Opened). subtree_placed layout root (fetched_sources x.binary x.parts (used_uris x.parts x.used) files) x.used) seen

-- ---- the whole

buffers_opened : (find : Find) (layout : Layout) (root : Tile) (bytes : List ℕ) (o : Opened) (files : List BufferFile) → opened layout bytes ≡ Ok o → AreBuffers find layout root bytes files
    → AreOpenedBuffers find layout root o files
buffers_opened find layout root bytes o files is are =
    let P : Result (List (List ℕ)) ℕ → Type 0 = λ r. IfOk r (λ names. AreFetched find most_file_bytes names files) in
    subst P (names_opened layout root bytes ∙ ap (λ r. and_then r (opened_names layout root)) is) are

pub decodes_opened : (layout : Layout) (root : Tile) (bytes : List ℕ) (o : Opened) (files : List BufferFile) (result : Result Subtree DecodeFault) → opened layout bytes ≡ Ok o
    → ((find : Find) → AreOpenedBuffers find layout root o files → Decodes (opened_subtree find layout root o) result)
    → (find : Find) → AreBuffers find layout root bytes files → Decodes (subtree_found find layout root bytes) result
decodes_opened layout root bytes o files result is each = λ find are.
    let P : Result Subtree ℕ → Type 0 = λ r. Decodes r result in
    subst P (sym (subtree_opened find layout root bytes ∙ ap (λ r. and_then r (opened_subtree find layout root)) is))
    (each find (buffers_opened find layout root bytes o files is are))

pub decodes_unopened : (layout : Layout) (root : Tile) (bytes : List ℕ) (fault : DecodeFault) → Decodes (opened layout bytes) (Err fault)
    → (find : Find) → Decodes {A = Subtree} (subtree_found find layout root bytes) (Err fault)
decodes_unopened layout root bytes Memory is = λ find. tt
decodes_unopened layout root bytes (Fault n) is = λ find. subtree_opened find layout root bytes ∙ ap (λ r. and_then r (opened_subtree find layout root)) is

pub names_unopened : (layout : Layout) (root : Tile) (bytes : List ℕ) (fault : DecodeFault) → Decodes (opened layout bytes) (Err fault) → DecodesNames (needed_names layout root bytes) (Err fault)
names_unopened layout root bytes Memory is = tt
names_unopened layout root bytes (Fault n) is = names_opened layout root bytes ∙ ap (λ r. and_then r (opened_names layout root)) is
