-- A canonical file holds its subtree.
use Rattle.std.proofs.Common.{◌≡◌, ◌∙◌, ℕ, zero, suc, ◌+◌, ◌-◌, ◌*◌, ◌^◌, ◌<◌, ◌≤◌, ◌||◌, Bool, true, false, cond, List, [], ◌∷◌, ◌++◌, length, map, take, Some, option_map, length-append, refl, sym, ap, ap₂, subst, lit<, arith}
use Rattle.std.specs.Prelude.{Option, None, option_and_then, is_none, nat_lt, Result, Ok, if◌then◌else◌}
use Rattle.std.specs.List.{list_any, slice_get, All}
use Rattle.std.proofs.Math.Nat.{pow-le-pow_right}
use Rattle.std.proofs.lemmas.Bool.{le-ltb, and_right}
use Rattle.std.proofs.lemmas.List.{take_all}
use Rattle.serde_json.specs.Data.{Items}
use Rattle.serde_json.specs.View.{items_of}
use Rattle.serde_json.specs.Written.{compact_text}
use Rattle.implicit_tiling.proofs.Tables.{refuse-past}
use Rattle.implicit_tiling.specs.declared.Scheme.{Scheme}
use Rattle.implicit_tiling.specs.declared.Scheme.TheVariants.{Quad, Oct}
use Rattle.implicit_tiling.specs.Checks.{need}
use Rattle.implicit_tiling.specs.Limits.{most_subtree_levels, most_file_bytes}
use Rattle.implicit_tiling.specs.Tile.{Tile}
use Rattle.implicit_tiling.specs.Scene.{Layout, good, bad}
use Rattle.implicit_tiling.specs.Subtree.{Subtree, IsSubtree, IsOf, node_count, child_count, bits_of}
use Rattle.implicit_tileset.specs.Record.{Buffer, BufferView, Availability, well_formed, SubtreeRecord, record_of}
use Rattle.implicit_tileset.specs.SubtreeFile.{Used, names_no_view, is_out, is_short, is_miscounted, raw_bits, parts_of, and_then, availabilities, wanted_contents, used_of, subtree_checked, outcome_from}
use Rattle.implicit_tileset.specs.FileForms.{FileParts, both_parts, is_json_form}
use Rattle.implicit_tileset.specs.BufferFiles.{Find, buffer_name, buffer_at, is_used_buffer, put_once, uris_below, used_names, bytes_together}
use Rattle.implicit_tileset.specs.FileOutcome.{Sources, held_at, has_no_bytes, is_nowhere, subtree_at, files_checked, beside, sources_of, subtree_of_record, subtree_found, outcome_of_bytes}
use Rattle.subtree_write.specs.Canonical.{aligned, padded, is_mixed, streams_of, availabilities_of, streams, binary, stream_bytes, view_values, availability_value, availability_values, json_value, json_part, file_of, canonical}
use Rattle.availability.specs.Rules.{KeepsRules}
use Rattle.subtree_write.specs.Reading.{CanonicalFilesReadBack, CanonicalFilesAreGood}
use Rattle.subtree_write.proofs.Added.{length-padded, length-stream}
use Rattle.bitstream.specs.Bytes.{bytes_filled, bytes_of_bits}
use Rattle.implicit_tileset.proofs.WrittenJson.{ReadsAs, json_of-spaced}
use Rattle.implicit_tileset.proofs.WrittenLengths.{IsWithin, ItemsWithin}
use Rattle.subtree_write.proofs.ReadValues.{IsSmall, AreSmall, AreShort, views_small, availabilities_small, availability_small, file_reads, file_within}
use Rattle.subtree_write.proofs.Header.{parts_of-file, length-file}
use Rattle.subtree_write.proofs.ReadRecord.{view_records, buffer_records, stated, all_stated, record_stated}
use Rattle.subtree_write.proofs.Held.{used, Names, NamesAt, AllName, Held_parts, sources_with, names_own, all_name}

-- ---- sizes

nodes_fit : (scheme : Scheme) (levels : ℕ) → levels ≤ most_subtree_levels scheme → (node_count scheme levels ≤ 2 ^ 21) × (child_count scheme levels ≤ 2 ^ 21)
nodes_fit Quad levels h =
    let few : 4 ^ levels ≤ 4 ^ 10 = pow-le-pow_right (lit< tt) h in
    (omega arith, omega arith)
nodes_fit Oct levels h =
    let few : 8 ^ levels ≤ 8 ^ 7 = pow-le-pow_right (lit< tt) h in
    (omega arith, omega arith)

contents_short : (n : ℕ) (contents : List (List Bool)) (last : List Bool) → n ≤ 2 ^ 21 → length last ≤ 2 ^ 21 → All (λ bits. length bits ≡ n) contents → AreShort (contents ++ last ∷ [])
contents_short n [] last h k all = (k, tt)
contents_short n (bits ∷ contents) last h k all =
    (let own = all 0 [] (omega arith) in omega arith, contents_short n contents last h k (λ i d lt. all (suc i) d (omega arith)))

all_short : (s : Subtree) → IsSubtree s → AreShort (availabilities_of s)
all_short s w =
    let fit = nodes_fit s.scheme s.levels w.few_levels in
    (omega (arith, fit.0, w.tile_bits), contents_short (node_count s.scheme s.levels) s.contents s.child fit.0 (omega (arith, fit.1, w.child_bits)) w.content_bits)

chosen_short : (b : Bool) (bits : List Bool) (rest : List (List Bool)) → length bits ≤ 2 ^ 21 → AreShort rest → AreShort (cond b (bits ∷ rest) rest)
chosen_short true bits rest h k = (h, k)
chosen_short false bits rest h k = k

streams_short : (all : List (List Bool)) → AreShort all → AreShort (streams_of all)
streams_short [] h = tt
streams_short (bits ∷ rest) h = chosen_short (is_mixed bits) bits (streams_of rest) h.0 (streams_short rest h.1)

chosen_few : (b : Bool) (bits : List Bool) (rest : List (List Bool)) → length (cond b (bits ∷ rest) rest) ≤ 1 + length rest
chosen_few true bits rest = omega arith
chosen_few false bits rest = omega arith

streams_few : (all : List (List Bool)) → length (streams_of all) ≤ length all
streams_few [] = omega arith
streams_few (bits ∷ rest) = omega (arith, chosen_few (is_mixed bits) bits (streams_of rest), streams_few rest)

bytes_few : (xs : List (List Bool)) → AreShort xs → length (stream_bytes xs) ≤ 2 ^ 18 * length xs
bytes_few [] h = omega arith
bytes_few (bits ∷ rest) h =
    let own : aligned (bytes_filled (length bits)) ≤ 2 ^ 18 = omega (arith, h.0) in
    omega (arith, own, length-append (padded 0 (bytes_of_bits bits)) (stream_bytes rest), length-stream bits, bytes_few rest h.1)

-- ---- the JSON part

-- the availabilities of a subtree: tiles, contents, child subtrees
availabilities_few : (s : Subtree) → IsSubtree s → length (availabilities_of s) ≤ 18
availabilities_few s w = omega (arith, w.few_contents, length-append s.contents (s.child ∷ []))

front_short : (xs ys : List (List Bool)) → AreShort (xs ++ ys) → AreShort xs
front_short [] ys h = tt
front_short (x ∷ xs) ys h = (h.0, front_short xs ys h.1)

-- the parts of the value
record HasSmallParts (s : Subtree) : Type 0 where
  views : AreSmall (length (streams s)) (items_of (view_values 0 (streams s)))
  size : length (binary s) < 2 ^ 32
  tiles : IsSmall (availability_value 0 s.tiles)
  contents : AreSmall (length s.contents) (items_of (availability_values (length (streams_of (s.tiles ∷ []))) s.contents))
  child : IsSmall (availability_value (length (streams_of (s.tiles ∷ s.contents))) s.child)

small_parts : (s : Subtree) → IsSubtree s → HasSmallParts s
small_parts s w =
    let xs = streams s in
    let short = all_short s w in
    let few = availabilities_few s w in
    let views = streams_few (availabilities_of s) in
    let fit = nodes_fit s.scheme s.levels w.few_levels in
    let streamed = streams_short (availabilities_of s) short in
    let first = streams_few (s.tiles ∷ []) in
    let second = streams_few (s.tiles ∷ s.contents) in
    record {
      views = views_small 0 xs streamed (omega arith);
      size = omega (arith, bytes_few xs streamed);
      tiles = availability_small 0 s.tiles (omega arith) short.0;
      contents = availabilities_small (length (streams_of (s.tiles ∷ []))) s.contents (front_short s.contents (s.child ∷ []) short.1) (omega (arith, w.few_contents));
      child = availability_small (length (streams_of (s.tiles ∷ s.contents))) s.child (omega (arith, w.few_contents)) (omega (arith, fit.1, w.child_bits));
    }

value_reads : (s : Subtree) → IsSubtree s → ReadsAs 3 (json_value s)
value_reads s w =
    let p = small_parts s w in
    file_reads (view_values 0 (streams s)) (length (binary s)) (availability_value 0 s.tiles) (availability_values (length (streams_of (s.tiles ∷ []))) s.contents)
    (availability_value (length (streams_of (s.tiles ∷ s.contents))) s.child) p.views.read p.size p.tiles.reads p.contents.read p.child.reads

at_most : (few most : ℕ) (ds : Items) → ItemsWithin few ds → few ≤ most → ItemsWithin most ds
at_most few most ds h fits later = omega (arith, h later, fits)

value_short : (s : Subtree) → IsSubtree s → IsWithin 8600 (json_value s)
value_short s w =
    let p = small_parts s w in
    let few = availabilities_few s w in
    let views = streams_few (availabilities_of s) in
    file_within (view_values 0 (streams s)) (length (binary s)) (availability_value 0 s.tiles) (availability_values (length (streams_of (s.tiles ∷ []))) s.contents)
    (availability_value (length (streams_of (s.tiles ∷ s.contents))) s.child)
    (at_most (1 + 201 * length (streams s)) 3700 _ p.views.within (omega arith)) p.size p.tiles.within
    (at_most (1 + 201 * length s.contents) 3700 _ p.contents.within (omega (arith, w.few_contents))) p.child.within

-- ---- no row of the table holds

record Passes (s : Sources) (u : Used) : Type 0 where
  viewed : names_no_view (held_at s u.availability) u.availability ≡ false
  inside : is_out (held_at s u.availability) u.availability ≡ false
  enough : is_short (held_at s u.availability) u ≡ false
  counted : is_miscounted (held_at s u.availability) u ≡ false

abbrev AllPass : Sources → List Used → Type 0
AllPass s [] = Unit {0}
AllPass s (u ∷ us) = Passes s u × AllPass s us

no_row : (s : Sources) (test : Used → Bool) (us : List Used) → ((u : Used) → Passes s u → test u ≡ false) → AllPass s us → list_any test us ≡ false
no_row s test [] each all = refl
no_row s test (u ∷ us) each all = ap (λ b. b || list_any test us) (each u all.0) ∙ no_row s test us each all.1

passes : (s : Sources) (a : Availability) (bits : List Bool) (n : ℕ) → NamesAt s a bits → length bits ≡ n → Passes s (used a n)
passes s a bits n names e = subst (λ k. Passes s (used a k)) e (record { viewed = names.viewed; inside = names.inside; enough = names.enough; counted = names.counted })

raw_own : (s : Sources) (a : Availability) (bits : List Bool) (n : ℕ) → NamesAt s a bits → length bits ≡ n → raw_bits (held_at s a) (used a n) ≡ bits
raw_own s a bits n names e = ap (λ k. raw_bits (held_at s a) (used a k)) (sym e) ∙ names.raw

contents_pass : (s : Sources) (named : List Availability) (some : List (List Bool)) (n : ℕ) (last : Used) → AllName s named some → All (λ bits. length bits ≡ n) some → Passes s last → AllPass s (map (λ a. used a n) named ++ last ∷ [])
contents_pass s [] [] n last names all p = (p, tt)
contents_pass s [] (bits ∷ some) n last names all p = absurd names
contents_pass s (a ∷ named) [] n last names all p = absurd names
contents_pass s (a ∷ named) (bits ∷ some) n last names all p =
    (passes s a bits n names.0 (all 0 [] (omega arith)), contents_pass s named some n last names.1 (λ i d lt. all (suc i) d (omega arith)) p)

contents_own : (s : Sources) (named : List Availability) (some : List (List Bool)) (n : ℕ) → AllName s named some → All (λ bits. length bits ≡ n) some → map (λ a. raw_bits (held_at s a) (used a n)) named ≡ some
contents_own s [] [] n names all = refl
contents_own s [] (bits ∷ some) n names all = absurd names
contents_own s (a ∷ named) [] n names all = absurd names
contents_own s (a ∷ named) (bits ∷ some) n names all =
    ap₂ (λ b bs. b ∷ bs) (raw_own s a bits n names.0 (all 0 [] (omega arith))) (contents_own s named some n names.1 (λ i d lt. all (suc i) d (omega arith)))

length-all_stated : (view : ℕ) (some : List (List Bool)) → length (all_stated view some) ≡ length some
length-all_stated view [] = refl
length-all_stated view (bits ∷ some) = omega (arith, length-all_stated (view + length (streams_of (bits ∷ []))) some)

length_well_formed : (named : List Availability) → length (map well_formed named) ≡ length named
length_well_formed [] = refl
length_well_formed (a ∷ named) = omega (arith, length_well_formed named)

well_formed_all : (named : List Availability) → availabilities (map well_formed named) ≡ Some named
well_formed_all [] = refl
well_formed_all (a ∷ named) = ap (option_map (λ l. a ∷ l)) (well_formed_all named)

-- ---- no file is needed

abbrev uri_at : List Buffer → ℕ → Option (List ℕ)
uri_at buffers n = option_and_then (λ b. b.uri) (slice_get buffers n)

none_at : (n : ℕ) → uri_at [] n ≡ None
none_at zero = refl
none_at (suc n) = refl

no_uri : (size : ℕ) (views : List BufferView) (n : ℕ) → uri_at (buffer_records size views) n ≡ None
no_uri size [] n = none_at n
no_uri size (view ∷ views) zero = refl
no_uri size (view ∷ views) (suc n) = none_at n

none_by : (used : Bool) (found : Option (List ℕ)) → found ≡ None → (if used then found else None) ≡ None
none_by true found is = is
none_by false found is = refl

no_uris : (r : SubtreeRecord) (us : List Used) (n : ℕ) → ((k : ℕ) → uri_at r.buffers k ≡ None) → uris_below r us n ≡ []
no_uris r us zero each = refl
no_uris r us (suc n) each = ap₂ put_once (no_uris r us n each) (none_by (is_used_buffer r us n) (uri_at r.buffers n) (each n))

no_names : (layout : Layout) (root : Tile) (r : SubtreeRecord) (us : List Used) → ((k : ℕ) → uri_at r.buffers k ≡ None) → used_names layout root r us ≡ []
no_names layout root r us each = ap (map (buffer_name layout root)) (no_uris r us (length r.buffers) each)

somewhere : (bytes : List ℕ) (buffer : Option Buffer) → has_no_bytes (Some bytes) buffer ≡ false
somewhere bytes None = refl
somewhere bytes (Some buffer) = and_right (is_none buffer.uri) false refl

all_somewhere : (s : Sources) (bytes : List ℕ) (us : List Used) → s.binary ≡ Some bytes → list_any (λ u. is_nowhere s u.availability) us ≡ false
all_somewhere s bytes [] is = refl
all_somewhere s bytes (u ∷ us) is =
    ap (λ b. b || list_any (λ w. is_nowhere s w.availability) us) (ap (λ binary. has_no_bytes binary (buffer_at s.parts u.availability)) is ∙ somewhere bytes (buffer_at s.parts u.availability))
    ∙ all_somewhere s bytes us is

files_pass : {B : Type 0} (find : Find) (names : List (List ℕ)) (rest : Result B ℕ) → names ≡ [] → files_checked find names rest ≡ rest
files_pass find names rest none =
    refuse-past 19 (list_any (λ name. is_none (find name)) names) _ (ap (list_any (λ name. is_none (find name))) none)
    ∙ refuse-past 20 (nat_lt most_file_bytes (bytes_together find names)) rest (ap (λ ns. nat_lt most_file_bytes (bytes_together find ns)) none ∙ le-ltb most_file_bytes 0 (omega arith))

-- ---- the subtree that is held

rows_pass : (find : Find) (layout : Layout) (root : Tile) (bytes : List ℕ) (r : SubtreeRecord) (contents : List Availability) (us : List Used) → ((k : ℕ) → uri_at r.buffers k ≡ None)
    → AllPass (sources_of find layout root (Some bytes) r) us
    → subtree_of_record find layout root (Some bytes) r contents us ≡ subtree_checked (subtree_at layout root (sources_of find layout root (Some bytes) r) contents)
rows_pass find layout root bytes r contents us own all =
    let s = sources_of find layout root (Some bytes) r in
    refuse-past 12 (list_any (λ u. names_no_view (held_at s u.availability) u.availability) us) _ (no_row s (λ u. names_no_view (held_at s u.availability) u.availability) us (λ u p. p.viewed) all)
    ∙ refuse-past 13 (list_any (λ u. is_nowhere s u.availability) us) _ (all_somewhere s bytes us refl)
    ∙ files_pass find (used_names layout root r us) _ (no_names layout root r us own)
    ∙ refuse-past 14 (list_any (λ u. is_out (held_at s u.availability) u.availability) us) _ (no_row s (λ u. is_out (held_at s u.availability) u.availability) us (λ u p. p.inside) all)
    ∙ refuse-past 15 (list_any (λ u. is_short (held_at s u.availability) u) us) _ (no_row s (λ u. is_short (held_at s u.availability) u) us (λ u p. p.enough) all)
    ∙ refuse-past 16 (list_any (λ u. is_miscounted (held_at s u.availability) u) us) _ (no_row s (λ u. is_miscounted (held_at s u.availability) u) us (λ u p. p.counted) all)

checked : (s : Subtree) → KeepsRules s → subtree_checked s ≡ Ok s
checked s rules = refuse-past 17 _ _ rules.no_orphan ∙ refuse-past 18 _ _ rules.no_content_alone

-- a layout that has no more than the subtree's own numbers and some templates
abbrev own_layout : Subtree → List ℕ → List (List ℕ) → Layout
own_layout s template templates = record { scheme = s.scheme; subtree_levels = s.levels; levels = s.cut; subtree = template; contents = templates }

abbrev with_bits : Subtree → List Bool → List (List Bool) → List Bool → Subtree
with_bits s tiles contents child = record { scheme = s.scheme; levels = s.levels; cut = s.cut; root = s.root; tiles = tiles; contents = contents; child = child }

record HoldsIt (s : Sources) (contents : List Availability) (held : Subtree) : Type 0 where
  tiles : NamesAt s s.parts.tiles held.tiles
  contents_all : AllName s contents held.contents
  child : NamesAt s s.parts.child held.child

held_subtree : (find : Find) (s : Subtree) (template : List ℕ) (templates : List (List ℕ)) (bytes : List ℕ) (r : SubtreeRecord) (contents : List Availability) → IsSubtree s → KeepsRules s → ((k : ℕ) → uri_at r.buffers k ≡ None)
    → HoldsIt (sources_of find (own_layout s template templates) s.root (Some bytes) r) contents s
    → subtree_of_record find (own_layout s template templates) s.root (Some bytes) r contents (used_of (own_layout s template templates) r contents) ≡ Ok s
held_subtree find s template templates bytes r contents w rules own holds =
    let layout = own_layout s template templates in
    let h = sources_of find layout s.root (Some bytes) r in
    let nodes = node_count s.scheme s.levels in
    let children = child_count s.scheme s.levels in
    let last = passes h r.child s.child children holds.child w.child_bits in
    let all : AllPass h (used_of layout r contents) =
    (passes h r.tiles s.tiles nodes holds.tiles w.tile_bits, contents_pass h contents s.contents nodes (used r.child children) holds.contents_all w.content_bits last) in
    let same : subtree_at layout s.root h contents ≡ s =
    ap (λ l. with_bits s l (map (λ a. raw_bits (held_at h a) (used a nodes)) contents) (raw_bits (held_at h r.child) (used r.child children))) (raw_own h r.tiles s.tiles nodes holds.tiles w.tile_bits)
    ∙ ap (λ l. with_bits s s.tiles l (raw_bits (held_at h r.child) (used r.child children))) (contents_own h contents s.contents nodes holds.contents_all w.content_bits)
    ∙ ap (λ l. with_bits s s.tiles s.contents l) (raw_own h r.child s.child children holds.child w.child_bits) in
    rows_pass find layout s.root bytes r contents (used_of layout r contents) own all ∙ ap subtree_checked same ∙ checked s rules

recorded : (find : Find) (s : Subtree) (template : List ℕ) (templates : List (List ℕ)) (bytes : List ℕ) (r : SubtreeRecord) (contents : List Availability) → IsSubtree s → KeepsRules s → ((k : ℕ) → uri_at r.buffers k ≡ None)
    → HoldsIt (sources_of find (own_layout s template templates) s.root (Some bytes) r) contents s
    → length s.contents ≤ length templates → length contents ≡ length s.contents → r.contents ≡ map well_formed contents
    → need 11 (wanted_contents (own_layout s template templates) r) (λ cs. subtree_of_record find (own_layout s template templates) s.root (Some bytes) r cs (used_of (own_layout s template templates) r cs)) ≡ Ok s
recorded find s template templates bytes r contents w rules own holds few long e =
    let layout = own_layout s template templates in
    let wanted = ap (λ l. availabilities (take (length templates) l)) e ∙ ap availabilities (take_all (length templates) (map well_formed contents) (omega (arith, length_well_formed contents))) ∙ well_formed_all contents in
    ap (λ o. need 11 o (λ cs. subtree_of_record find layout s.root (Some bytes) r cs (used_of layout r cs))) wanted ∙ held_subtree find s template templates bytes r contents w rules own holds

-- from the parts to the whole
abbrev after_parts : Find → Layout → Tile → Result FileParts ℕ → Result Subtree ℕ
after_parts find layout root parts = and_then parts (λ p. and_then (record_of p.json) (λ r. need 11 (wanted_contents layout r) (λ cs. subtree_of_record find layout root p.binary r cs (used_of layout r cs))))

assembled : (find : Find) (layout : Layout) (root : Tile) (file json bytes : List ℕ) (r : SubtreeRecord) (s : Subtree) → is_json_form file ≡ false → parts_of file ≡ Ok (record { json = json; binary = bytes }) → record_of json ≡ Ok r
    → need 11 (wanted_contents layout r) (λ cs. subtree_of_record find layout root (Some bytes) r cs (used_of layout r cs)) ≡ Ok s → subtree_found find layout root file ≡ Ok s
assembled find layout root file json bytes r s form parts rec held =
    ap (λ b. after_parts find layout root (if b then Ok (record { json = file; binary = None }) else and_then (parts_of file) (λ p. Ok (both_parts p)))) form
    ∙ ap (λ p. after_parts find layout root (and_then p (λ q. Ok (both_parts q)))) parts
    ∙ ap (λ p. and_then p (λ q. need 11 (wanted_contents layout q) (λ cs. subtree_of_record find layout root (Some bytes) q cs (used_of layout q cs)))) rec ∙ held

part_short : (text : List ℕ) → length text ≤ 8600 → length (padded 32 text) < 2 ^ 64
part_short text h = omega (arith, length-padded 32 text)

own_reads_back : (find : Find) (s : Subtree) (template : List ℕ) (templates : List (List ℕ)) → IsSubtree s → KeepsRules s → length s.contents ≤ length templates
    → subtree_found find (own_layout s template templates) s.root (canonical s) ≡ Ok s
own_reads_back find s template templates w rules few =
    let xs = streams s in
    let text = compact_text (json_value s) in
    let b = length (streams_of (s.tiles ∷ [])) in
    let c = length (streams_of (s.tiles ∷ s.contents)) in
    let size = length (binary s) in
    let contents = all_stated b s.contents in
    let layout = own_layout s template templates in
    let p : Held_parts = (stated 0 s.tiles, map well_formed contents, stated c s.child) in
    let f = beside find layout s.root in
    let h = sources_with f xs p in
    let bytes_short : length (binary s) < 2 ^ 64 = omega (arith, bytes_few xs (streams_short (availabilities_of s) (all_short s w)), streams_few (availabilities_of s), availabilities_few s w) in
    let holds : HoldsIt h contents s = record {
      tiles = names_own f p (availabilities_of s) [] s.tiles (s.contents ++ s.child ∷ []) refl;
      contents_all = all_name f p (availabilities_of s) (s.tiles ∷ []) s.contents (s.child ∷ []) refl;
      child = names_own f p (availabilities_of s) (s.tiles ∷ s.contents) s.child [] refl;
    } in
    assembled find layout s.root (canonical s) (json_part s) (binary s) h.parts s refl
    (parts_of-file (json_part s) (binary s) (part_short text (value_short s w)) bytes_short)
    (record_stated (json_part s) xs size 0 b c s.tiles s.contents s.child (json_of-spaced 3 (json_value s) (aligned (length text) - length text) (omega arith) (value_reads s w)))
    (recorded find s template templates (binary s) h.parts contents w rules (no_uri size (view_records 0 xs)) holds few (length-all_stated b s.contents) refl)

layout_own : (layout : Layout) (s : Subtree) → IsOf layout s → own_layout s layout.subtree layout.contents ≡ layout
layout_own layout s of =
    ap (λ x. record { scheme = x; subtree_levels = s.levels; levels = s.cut; subtree = layout.subtree; contents = layout.contents }) of.same_scheme
    ∙ ap (λ n. record { scheme = layout.scheme; subtree_levels = n; levels = s.cut; subtree = layout.subtree; contents = layout.contents }) of.same_levels
    ∙ ap (λ n. record { scheme = layout.scheme; subtree_levels = layout.subtree_levels; levels = n; subtree = layout.subtree; contents = layout.contents }) of.same_cut

pub canonical_files_read_back : CanonicalFilesReadBack
canonical_files_read_back find layout s w of rules =
    subst (λ l. subtree_found find l s.root (canonical s) ≡ Ok s) (layout_own layout s of) (own_reads_back find s layout.subtree layout.contents w rules of.contents_named)

good_from : (find : Find) (layout : Layout) (root : Tile) (file : List ℕ) (s : Subtree) → length file ≤ most_file_bytes → subtree_found find layout root file ≡ Ok s → outcome_of_bytes find layout root (Some file) ≡ good (bits_of s)
good_from find layout root file s short e =
    ap (λ b. cond b (bad 2) (outcome_from (subtree_found find layout root file))) (le-ltb most_file_bytes (length file) short) ∙ ap outcome_from e

file_short : (json bytes : List ℕ) → length json ≤ 8607 → length bytes ≤ 2 ^ 18 * 18 → length (file_of json bytes) ≤ most_file_bytes
file_short json bytes h k = omega (arith, length-file json bytes)

text_short : (text : List ℕ) → length text ≤ 8600 → length (padded 32 text) ≤ 8607
text_short text h = omega (arith, length-padded 32 text)

pub canonical_files_are_good : CanonicalFilesAreGood
canonical_files_are_good find layout s w of rules =
    let few : length (binary s) ≤ 2 ^ 18 * 18 = omega (arith, bytes_few (streams s) (streams_short (availabilities_of s) (all_short s w)), streams_few (availabilities_of s), availabilities_few s w) in
    good_from find layout s.root (canonical s) s (file_short (json_part s) (binary s) (text_short (compact_text (json_value s)) (value_short s w)) few) (canonical_files_read_back find layout s w of rules)
