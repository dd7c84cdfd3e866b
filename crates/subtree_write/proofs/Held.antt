-- The bits that a canonical record names in its bytes.
use Rattle.std.proofs.Common.{◌≡◌, ◌∙◌, ℕ, ◌+◌, ◌-◌, ◌*◌, ◌≤◌, ◌&&◌, ◌||◌, ◌==◌, Bool, true, false, not, nat_lt, cond, List, [], ◌∷◌, ◌++◌, length, map, take, drop, replicate, Option, Some, None, option_and_then, append_assoc, length-append, ◌<◌, refl, sym, ap, ap₂, subst, arith}
use Rattle.std.specs.List.{range_with_len, slice_get, slice_range, list_any}
use Rattle.std.proofs.Math.Seq.{take-append_seam, drop-append_seam}
use Rattle.std.proofs.lemmas.Bool.{le-ltb, eq-eqb, or_from}
use Rattle.std.proofs.lemmas.List.{ext_get_or, get_or-replicate, length-replicate}
use Rattle.std.proofs.lemmas.List.FromFn.{length-map-range_with_len, get_or-map-range_with_len}
use Rattle.implicit_tileset.specs.Record.{Buffer, BufferView, Availability, constant, stream, ContentPart}
use Rattle.implicit_tileset.specs.SubtreeFile.{Used, Held, buffer_named, view_is, buffer_is, is_none, names_no_view, is_out, is_short, view_bit, raw_bits, is_miscounted}
use Rattle.implicit_tileset.specs.BufferFiles.{Find}
use Rattle.implicit_tileset.specs.FileOutcome.{Sources, bytes_named, or_nothing, bytes_of, held_at}
use Rattle.implicit_tiling.specs.Bits.{bit_of_bytes}
use Rattle.bitstream.specs.Bytes.{bytes_filled, bytes_of_bits}
use Rattle.bitstream.proofs.Bytes.{length-bytes_of_bits, bits_of_bytes-bytes_of_bits}
use Rattle.subtree_write.specs.Canonical.{aligned, padded, is_mixed, has_one, streams_of, stream_bytes}
use Rattle.subtree_write.proofs.Mixed.{ones, one_stream}
use Rattle.subtree_write.proofs.Added.{streams_of-append, stream_bytes-append, length-stream}
use Rattle.subtree_write.proofs.ReadRecord.{view_record, view_records, buffer_records, stated, all_stated, record_from}

abbrev pub used : Availability → ℕ → Used
used a n = record { availability = a; needed = n }

-- an availability names these bits, and breaks no row
pub record Names (h : Held) (a : Availability) (bits : List Bool) : Type 0 where
  pub viewed : names_no_view h a ≡ false
  pub inside : is_out h a ≡ false
  pub enough : is_short h (used a (length bits)) ≡ false
  pub counted : is_miscounted h (used a (length bits)) ≡ false
  pub raw : raw_bits h (used a (length bits)) ≡ bits

-- ---- constants

all_zero : (bits : List Bool) → has_one bits ≡ false → bits ≡ replicate (length bits) false
all_zero [] e = refl
all_zero (true ∷ bits) e = absurd (let no : true ≡ false = e in cc)
all_zero (false ∷ bits) e = ap (λ l. false ∷ l) (all_zero bits e)

all_one : (bits : List Bool) → list_any not bits ≡ false → bits ≡ replicate (length bits) true
all_one [] e = refl
all_one (true ∷ bits) e = ap (λ l. true ∷ l) (all_one bits e)
all_one (false ∷ bits) e = absurd (let no : true ≡ false = e in cc)

equal_bits : (b : Bool) (bits : List Bool) → has_one bits ≡ b → is_mixed bits ≡ false → bits ≡ replicate (length bits) b
equal_bits false bits e h = all_zero bits e
equal_bits true bits e h = all_one bits (sym (ap (λ c. c && list_any not bits) e) ∙ h)

constant_bits : (b : Bool) (n : ℕ) → map (λ i. b) (range_with_len 0 n) ≡ replicate n b
constant_bits b n =
    let long = length-map-range_with_len (λ i. b) 0 n in
    ext_get_or false (map (λ i. b) (range_with_len 0 n)) (replicate n b) (long ∙ sym (length-replicate n b))
    (λ i h. let lt : i < n = omega (arith, long) in get_or-map-range_with_len (λ j. b) 0 n i i false lt (omega arith) ∙ sym (get_or-replicate n i b false lt))

constant_names : (h : Held) (bits : List Bool) → is_mixed bits ≡ false → Names h (constant (has_one bits)) bits
constant_names h bits e = record {
  viewed = refl;
  inside = refl;
  enough = refl;
  counted = refl;
  raw = constant_bits (has_one bits) (length bits) ∙ sym (equal_bits (has_one bits) bits refl e);
}

-- ---- bitstreams

-- a view of the bytes of the bits, in a buffer of the file
record Views (h : Held) (number : ℕ) (view : BufferView) (buffer : Buffer) (bits : List Bool) : Type 0 where
  view_is_there : slice_get h.parts.views number ≡ Some view
  buffer_is_there : slice_get h.parts.buffers view.buffer ≡ Some buffer
  own : buffer.uri ≡ None
  fits : view.offset + view.length ≤ buffer.length
  held : buffer.length ≤ length h.binary
  many : length bits ≤ 8 * view.length
  bytes : slice_range h.binary view.offset (view.offset + view.length) ≡ bytes_of_bits bits

stream_names : (h : Held) (number : ℕ) (view : BufferView) (buffer : Buffer) (bits : List Bool) → Views h number view buffer bits → Names h (stream number (Some (ones bits))) bits
stream_names h number view buffer bits v =
    let n = length bits in
    let raw : raw_bits h (used (stream number (Some (ones bits))) n) ≡ bits =
    ap (λ o. map (λ i. view_bit h.binary i o) (range_with_len 0 n)) v.view_is_there
    ∙ ap (λ l. map (bit_of_bytes l) (range_with_len 0 n)) v.bytes ∙ bits_of_bytes-bytes_of_bits bits in
    record {
      viewed = ap (λ o. is_none o || view_is (λ w. is_none (buffer_named h w)) o) v.view_is_there ∙ ap is_none v.buffer_is_there;
      inside = ap (view_is (λ w. buffer_is (λ b. nat_lt b.length (w.offset + w.length) || nat_lt (length h.binary) b.length) (buffer_named h w))) v.view_is_there
          ∙ ap (buffer_is (λ b. nat_lt b.length (view.offset + view.length) || nat_lt (length h.binary) b.length)) v.buffer_is_there
          ∙ or_from (nat_lt buffer.length (view.offset + view.length)) (nat_lt (length h.binary) buffer.length)
          (le-ltb buffer.length (view.offset + view.length) v.fits) (le-ltb (length h.binary) buffer.length v.held);
      enough = ap (view_is (λ w. nat_lt (8 * w.length) n)) v.view_is_there ∙ le-ltb (8 * view.length) n v.many;
      counted = ap (λ l. not (ones bits == ones l)) raw ∙ ap not (eq-eqb (ones bits) (ones bits) refl);
      raw = raw;
    }

view_found : (offset : ℕ) (before : List (List Bool)) (bits : List Bool) (rest : List (List Bool))
    → slice_get (view_records offset (before ++ bits ∷ rest)) (length before) ≡ Some (view_record (offset + length (stream_bytes before)) (bytes_filled (length bits)))
view_found offset [] bits rest = let e : offset ≡ offset + 0 = omega arith in ap (λ n. Some (view_record n (bytes_filled (length bits)))) e
view_found offset (x ∷ before) bits rest =
    let size = aligned (bytes_filled (length x)) in
    let e : offset + size + length (stream_bytes before) ≡ offset + length (stream_bytes (x ∷ before)) = omega (arith, length-append (padded 0 (bytes_of_bits x)) (stream_bytes before), length-stream x) in
    view_found (offset + size) before bits rest ∙ ap (λ n. Some (view_record n (bytes_filled (length bits)))) e

buffer_found : (size : ℕ) (before : List (List Bool)) (bits : List Bool) (rest : List (List Bool)) → slice_get (buffer_records size (view_records 0 (before ++ bits ∷ rest))) 0 ≡ Some (record { length = size; uri = None })
buffer_found size [] bits rest = refl
buffer_found size (x ∷ before) bits rest = refl

bytes_found : (before : List (List Bool)) (bits : List Bool) (rest : List (List Bool)) (offset size : ℕ) → offset ≡ length (stream_bytes before) → size ≡ bytes_filled (length bits)
    → slice_range (stream_bytes (before ++ bits ∷ rest)) offset (offset + size) ≡ bytes_of_bits bits
bytes_found before bits rest offset size e f =
    let front = stream_bytes before in
    let own = bytes_of_bits bits in
    let zeros : List ℕ = replicate (aligned (length own) - length own) 0 in
    let long : offset + size - offset ≡ length own = omega (arith, length-bytes_of_bits bits) in
    ap₂ (λ n l. take n (drop offset l)) long (stream_bytes-append before (bits ∷ rest))
    ∙ ap (λ n. take (length own) (drop n (front ++ stream_bytes (bits ∷ rest)))) e
    ∙ ap (take (length own)) (drop-append_seam front (stream_bytes (bits ∷ rest)) ∙ append_assoc own zeros (stream_bytes rest))
    ∙ take-append_seam own (zeros ++ stream_bytes rest)

-- what is held of some bitstreams
abbrev pub held_of : List (List Bool) → Availability → List ContentPart → Availability → Held
held_of xs tiles contents child = record {
  parts = record_from (buffer_records (length (stream_bytes xs)) (view_records 0 xs)) (view_records 0 xs) tiles contents child;
  binary = stream_bytes xs;
}

abbrev pub Held_parts : Type 0
Held_parts = Availability × List ContentPart × Availability

abbrev held_with : List (List Bool) → Held_parts → Held
held_with xs p = held_of xs p.0 p.1 p.2

-- the same beside files, of which none is named
abbrev pub sources_with : Find → List (List Bool) → Held_parts → Sources
sources_with f xs p = record { parts = (held_with xs p).parts; binary = Some (stream_bytes xs); named = f }

-- the bytes beside a view are those of all bitstreams
beside_view : (f : Find) (xs : List (List Bool)) (p : Held_parts) (number : ℕ) (count : Option ℕ) (view : BufferView) (buffer : Buffer) (bits : List Bool) → Views (held_with xs p) number view buffer bits
    → held_at (sources_with f xs p) (stream number count) ≡ held_with xs p
beside_view f xs p number count view buffer bits v =
    let r = (held_with xs p).parts in
    ap (λ (o : Option Buffer). let h : Held = record { parts = r; binary = bytes_of (sources_with f xs p) o } in h) (ap (option_and_then (λ w. slice_get r.buffers w.buffer)) v.view_is_there ∙ v.buffer_is_there)
    ∙ ap (λ (uri : Option (List ℕ)). let h : Held = record { parts = r; binary = or_nothing (bytes_named f (Some (stream_bytes xs)) uri) } in h) v.own

views_there : (p : Held_parts) (before : List (List Bool)) (bits : List Bool) (rest : List (List Bool))
    → Views (held_with (before ++ bits ∷ rest) p) (length before) (view_record (0 + length (stream_bytes before)) (bytes_filled (length bits))) (record { length = length (stream_bytes (before ++ bits ∷ rest)); uri = None }) bits
views_there p before bits rest =
    let all = before ++ bits ∷ rest in
    let size = bytes_filled (length bits) in
    record {
      view_is_there = view_found 0 before bits rest;
      buffer_is_there = buffer_found (length (stream_bytes all)) before bits rest;
      own = refl;
      fits = omega (arith, ap length (stream_bytes-append before (bits ∷ rest)), length-append (stream_bytes before) (stream_bytes (bits ∷ rest)), length-append (padded 0 (bytes_of_bits bits)) (stream_bytes rest), length-stream bits);
      held = omega arith;
      many = omega arith;
      bytes = bytes_found before bits rest (0 + length (stream_bytes before)) size (omega arith) refl;
    }

-- an availability names these bits beside the bytes of its own buffer
abbrev pub NamesAt : Sources → Availability → List Bool → Type 0
NamesAt s a bits = Names (held_at s a) a bits

-- the one that stands behind `before` of all names its own bits
named : (f : Find) (p : Held_parts) (m : Bool) (before : List (List Bool)) (bits : List Bool) (after : List (List Bool)) → is_mixed bits ≡ m
    → NamesAt (sources_with f (streams_of (before ++ bits ∷ after)) p) (stated (length (streams_of before)) bits) bits
named f p false before bits after e =
    let s = sources_with f (streams_of (before ++ bits ∷ after)) p in
    subst (λ a. NamesAt s a bits) (sym (ap (λ b. cond b (stream (length (streams_of before)) (Some (ones bits))) (constant (has_one bits))) e))
    (constant_names (held_at s (constant (has_one bits))) bits e)
named f p true before bits after e =
    let chosen : streams_of (before ++ bits ∷ after) ≡ streams_of before ++ bits ∷ streams_of after =
    streams_of-append before (bits ∷ after) ∙ ap (λ l. streams_of before ++ l) (streams_of-append (bits ∷ []) after ∙ ap (λ l. l ++ streams_of after) (one_stream bits e)) in
    let xs = streams_of before ++ bits ∷ streams_of after in
    let a = stream (length (streams_of before)) (Some (ones bits)) in
    let view = view_record (0 + length (stream_bytes (streams_of before))) (bytes_filled (length bits)) in
    let buffer : Buffer = record { length = length (stream_bytes xs); uri = None } in
    let there = views_there p (streams_of before) bits (streams_of after) in
    let names = stream_names (held_with xs p) (length (streams_of before)) view buffer bits there in
    let own : NamesAt (sources_with f xs p) a bits = subst (λ h. Names h a bits) (sym (beside_view f xs p (length (streams_of before)) (Some (ones bits)) view buffer bits there)) names in
    subst (λ a. NamesAt (sources_with f (streams_of (before ++ bits ∷ after)) p) a bits) (sym (ap (λ b. cond b (stream (length (streams_of before)) (Some (ones bits))) (constant (has_one bits))) e))
    (subst (λ xs. NamesAt (sources_with f xs p) a bits) (sym chosen) own)

pub names_own : (f : Find) (p : Held_parts) (all before : List (List Bool)) (bits : List Bool) (after : List (List Bool)) → all ≡ before ++ bits ∷ after
    → NamesAt (sources_with f (streams_of all) p) (stated (length (streams_of before)) bits) bits
names_own f p all before bits after e =
    subst (λ l. NamesAt (sources_with f (streams_of l) p) (stated (length (streams_of before)) bits) bits) (sym e) (named f p (is_mixed bits) before bits after refl)

-- ---- the same of a list

abbrev pub AllName : Sources → List Availability → List (List Bool) → Type 0
AllName s [] [] = Unit {0}
AllName s [] (bits ∷ rest) = ⊥
AllName s (a ∷ more) [] = ⊥
AllName s (a ∷ more) (bits ∷ rest) = NamesAt s a bits × AllName s more rest

pub all_name : (f : Find) (p : Held_parts) (all before some after : List (List Bool)) → all ≡ before ++ (some ++ after)
    → AllName (sources_with f (streams_of all) p) (all_stated (length (streams_of before)) some) some
all_name f p all before [] after e = tt
all_name f p all before (bits ∷ some) after e =
    let s = sources_with f (streams_of all) p in
    let more : length (streams_of (before ++ bits ∷ [])) ≡ length (streams_of before) + length (streams_of (bits ∷ [])) =
    ap length (streams_of-append before (bits ∷ [])) ∙ length-append (streams_of before) (streams_of (bits ∷ [])) in (
      names_own f p all before bits (some ++ after) e,
      subst (λ n. AllName s (all_stated n some) some) more (all_name f p all (before ++ bits ∷ []) some after (e ∙ sym (append_assoc before (bits ∷ []) (some ++ after)))),
    )
