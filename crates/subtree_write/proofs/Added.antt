-- What is added, one after another.
use Rattle.std.proofs.Common.{◌≡◌, ◌∙◌, ℕ, ◌+◌, ◌-◌, ◌<◌, Bool, true, false, cond, List, [], ◌∷◌, ◌++◌, length, get_or, map, take, replicate, append_assoc, append-nil, length-append, refl, sym, ap, ap₂, subst, arith}
use Rattle.std.proofs.lemmas.List.{length-replicate, take_more}
use Rattle.serde_json.specs.View.{view}
use Rattle.serde_json.specs.declared.value.Value.{Value}
use Rattle.bitstream.specs.Bytes.{bytes_filled, bytes_of_bits}
use Rattle.bitstream.proofs.Bytes.{length-bytes_of_bits}
use Rattle.subtree_write.specs.declared.streams.Streams.{Streams}
use Rattle.subtree_write.specs.Canonical.{aligned, padded, is_mixed, streams_of, stream_bytes, view_value, view_values, availability_value, availability_values}
use Rattle.subtree_write.specs.Added.{Adds}
use Rattle.subtree_write.proofs.Mixed.{no_stream, one_stream}

pub length-padded : (fill : ℕ) (bytes : List ℕ) → length (padded fill bytes) ≡ aligned (length bytes)
length-padded fill bytes = omega (arith, length-append bytes (replicate (aligned (length bytes) - length bytes) fill), length-replicate (aligned (length bytes) - length bytes) fill)

chosen : (b : Bool) (x : List Bool) (xs ys : List (List Bool)) → cond b (x ∷ (xs ++ ys)) (xs ++ ys) ≡ cond b (x ∷ xs) xs ++ ys
chosen true x xs ys = refl
chosen false x xs ys = refl

pub streams_of-append : (xs ys : List (List Bool)) → streams_of (xs ++ ys) ≡ streams_of xs ++ streams_of ys
streams_of-append [] ys = refl
streams_of-append (x ∷ xs) ys = ap (λ l. cond (is_mixed x) (x ∷ l) l) (streams_of-append xs ys) ∙ chosen (is_mixed x) x (streams_of xs) (streams_of ys)

pub stream_bytes-append : (xs ys : List (List Bool)) → stream_bytes (xs ++ ys) ≡ stream_bytes xs ++ stream_bytes ys
stream_bytes-append [] ys = refl
stream_bytes-append (x ∷ xs) ys = ap (λ l. padded 0 (bytes_of_bits x) ++ l) (stream_bytes-append xs ys) ∙ sym (append_assoc (padded 0 (bytes_of_bits x)) (stream_bytes xs) (stream_bytes ys))

pub length-stream : (bits : List Bool) → length (padded 0 (bytes_of_bits bits)) ≡ aligned (bytes_filled (length bits))
length-stream bits = length-padded 0 (bytes_of_bits bits) ∙ ap aligned (length-bytes_of_bits bits)

pub view_values-append : (offset : ℕ) (xs ys : List (List Bool)) → view_values offset (xs ++ ys) ≡ view_values offset xs ++ view_values (offset + length (stream_bytes xs)) ys
view_values-append offset [] ys = let e : offset ≡ offset + 0 = omega arith in ap (λ n. view_values n ys) e
view_values-append offset (x ∷ xs) ys =
    let size = aligned (bytes_filled (length x)) in
    let e : offset + size + length (stream_bytes xs) ≡ offset + length (padded 0 (bytes_of_bits x) ++ stream_bytes xs) = omega (arith, length-append (padded 0 (bytes_of_bits x)) (stream_bytes xs), length-stream x) in
    ap (λ l. view_value offset (bytes_filled (length x)) ∷ l)
    (view_values-append (offset + size) xs ys ∙ ap (λ n. view_values (offset + size) xs ++ view_values n ys) e)

pub length-view_values : (offset : ℕ) (xs : List (List Bool)) → length (view_values offset xs) ≡ length xs
length-view_values offset [] = refl
length-view_values offset (x ∷ xs) = omega (arith, length-view_values (offset + aligned (bytes_filled (length x))) xs)

pub availability_values-append : (number : ℕ) (xs ys : List (List Bool)) → availability_values number (xs ++ ys) ≡ availability_values number xs ++ availability_values (number + length (streams_of xs)) ys
availability_values-append number [] ys = let e : number ≡ number + 0 = omega arith in ap (λ n. availability_values n ys) e
availability_values-append number (x ∷ xs) ys =
    let here = length (streams_of (x ∷ [])) in
    let e : number + here + length (streams_of xs) ≡ number + length (streams_of (x ∷ xs)) = omega (arith, length-append (streams_of (x ∷ [])) (streams_of xs), ap length (streams_of-append (x ∷ []) xs)) in
    ap (λ l. availability_value number x ∷ l)
    (availability_values-append (number + here) xs ys ∙ ap (λ n. availability_values (number + here) xs ++ availability_values n ys) e)

pub length-map_view : (vs : List Value) → length (map view vs) ≡ length vs
length-map_view [] = refl
length-map_view (v ∷ vs) = omega (arith, length-map_view vs)

pub map_view-append : (us vs : List Value) → map view (us ++ vs) ≡ map view us ++ map view vs
map_view-append [] vs = refl
map_view-append (u ∷ us) vs = ap (λ l. view u ∷ l) (map_view-append us vs)

-- how many views there are then
pub views_more : (old new : Streams) (added : List (List Bool)) → Adds old new added → length new.views.items ≡ length old.views.items + length (streams_of added)
views_more old new added adds =
    omega (
      arith,
      ap length adds.views,
      length-append (map view old.views.items) (view_values (length old.bytes.items) (streams_of added)),
      length-map_view new.views.items,
      length-map_view old.views.items,
      length-view_values (length old.bytes.items) (streams_of added),
    )

pub nothing_added : (old : Streams) → Adds old old []
nothing_added old = record { views = sym (append-nil (map view old.views.items)); bytes = sym (append-nil old.bytes.items) }

pub added_then : (a b c : Streams) (xs ys : List (List Bool)) → Adds a b xs → Adds b c ys → Adds a c (xs ++ ys)
added_then a b c xs ys first second =
    let long : length b.bytes.items ≡ length a.bytes.items + length (stream_bytes (streams_of xs)) = omega (arith, ap length first.bytes, length-append a.bytes.items (stream_bytes (streams_of xs))) in
    let start = length a.bytes.items in
    record {
      views = second.views
          ∙ ap₂ (λ l n. l ++ view_values n (streams_of ys)) first.views long
          ∙ append_assoc (map view a.views.items) (view_values start (streams_of xs)) (view_values (start + length (stream_bytes (streams_of xs))) (streams_of ys))
          ∙ ap (λ l. map view a.views.items ++ l) (sym (view_values-append start (streams_of xs) (streams_of ys)) ∙ ap (view_values start) (sym (streams_of-append xs ys)));
      bytes = second.bytes ∙ ap (λ l. l ++ stream_bytes (streams_of ys)) first.bytes
          ∙ append_assoc a.bytes.items (stream_bytes (streams_of xs)) (stream_bytes (streams_of ys))
          ∙ ap (λ l. a.bytes.items ++ l) (sym (stream_bytes-append (streams_of xs) (streams_of ys)) ∙ ap stream_bytes (sym (streams_of-append xs ys)));
    }

pub constant_added : (old : Streams) (bits : List Bool) → is_mixed bits ≡ false → Adds old old (bits ∷ [])
constant_added old bits e = record {
  views = sym (append-nil (map view old.views.items)) ∙ ap (λ l. map view old.views.items ++ view_values (length old.bytes.items) l) (sym (no_stream bits e));
  bytes = sym (append-nil old.bytes.items) ∙ ap (λ l. old.bytes.items ++ stream_bytes l) (sym (no_stream bits e));
}

pub stream_added : (old new : Streams) (bits : List Bool) (offset size : ℕ) (v : Value) (mid : List ℕ) → is_mixed bits ≡ true
    → new.views.items ≡ old.views.items ++ v ∷ [] → view v ≡ view_value offset size → offset ≡ length old.bytes.items → size ≡ bytes_filled (length bits)
    → mid ≡ old.bytes.items ++ bytes_of_bits bits → new.bytes.items ≡ mid ++ replicate (aligned size - size) 0 → Adds old new (bits ∷ [])
stream_added old new bits offset size v mid mix views value place filled appended padding =
    let long : size ≡ length (bytes_of_bits bits) = filled ∙ sym (length-bytes_of_bits bits) in
    record {
      views = ap (map view) views ∙ map_view-append old.views.items (v ∷ [])
          ∙ ap (λ d. map view old.views.items ++ d ∷ []) (value ∙ ap₂ view_value place filled)
          ∙ ap (λ l. map view old.views.items ++ view_values (length old.bytes.items) l) (sym (one_stream bits mix));
      bytes = padding ∙ ap₂ (λ l n. l ++ replicate (aligned n - n) 0) appended long
          ∙ append_assoc old.bytes.items (bytes_of_bits bits) (replicate (aligned (length (bytes_of_bits bits)) - length (bytes_of_bits bits)) 0)
          ∙ ap (λ l. old.bytes.items ++ l) (sym (append-nil (padded 0 (bytes_of_bits bits))))
          ∙ ap (λ l. old.bytes.items ++ stream_bytes l) (sym (one_stream bits mix));
    }

-- ---- one more of a list

taken : (all : List (List Bool)) (i : ℕ) (bits : List Bool) → i < length all → bits ≡ get_or all i bits → take (i + 1) all ≡ take i all ++ bits ∷ []
taken all i bits lt is = take_more all i bits lt ∙ ap (λ b. take i all ++ b ∷ []) (sym is)

pub one_more : (old mid new : Streams) (all : List (List Bool)) (i : ℕ) (bits : List Bool) → i < length all → bits ≡ get_or all i bits → Adds old mid (take i all) → Adds mid new (bits ∷ []) → Adds old new (take (i + 1) all)
one_more old mid new all i bits lt is first second = subst (Adds old new) (sym (taken all i bits lt is)) (added_then old mid new (take i all) (bits ∷ []) first second)

pub value_more : (old mid : Streams) (all : List (List Bool)) (i : ℕ) (bits : List Bool) (values new : List Value) (v : Value) → i < length all → bits ≡ get_or all i bits → Adds old mid (take i all)
    → map view values ≡ availability_values (length old.views.items) (take i all) → new ≡ values ++ v ∷ [] → view v ≡ availability_value (length mid.views.items) bits
    → map view new ≡ availability_values (length old.views.items) (take (i + 1) all)
value_more old mid all i bits values new v lt is adds before e value =
    let number = length old.views.items in
    ap (map view) e ∙ map_view-append values (v ∷ [])
    ∙ ap₂ (λ l d. l ++ d ∷ []) before (value ∙ ap (λ n. availability_value n bits) (views_more old mid (take i all) adds))
    ∙ sym (availability_values-append number (take i all) (bits ∷ []))
    ∙ ap (availability_values number) (sym (taken all i bits lt is))
