-- Bytes that are taken behind those that stand in a buffer.
use Rattle.std.proofs.Common.{◌≡◌, ℕ, ◌+◌, ◌-◌, ◌≤◌, ◌<◌, List, ◌++◌, length, take, drop, length-append, length-take-le, length-drop, sym, ap, ◌∙◌, append_assoc, arith}
use Rattle.std.specs.Prelude.{Option, slice_range}
use Rattle.std.specs.Io.KnownBytes.{Consumes}
use Rattle.std.proofs.lemmas.List.{take-append-drop, take_at, drop-take, drop-drop}
use borrow.Rule.Slice.PartMut.{put_mid, post_of}
use Rattle.http_front.specs.Reading.{TakesOn}

-- the front of what stands there, and of what was written behind it
front_of : (bytes got : List ℕ) (at rest n : ℕ) → at ≤ length bytes → n ≤ length got → take (at + n) (put_mid at rest bytes got) ≡ take at bytes ++ take n got
front_of bytes got at rest n within few =
    let behind : List ℕ = post_of at rest bytes in
    let parts : put_mid at rest bytes got ≡ (take at bytes ++ take n got) ++ (drop n got ++ behind) =
    ap (λ w. take at bytes ++ (w ++ behind)) (sym (take-append-drop n got)) ∙ ap (λ w. take at bytes ++ w) (append_assoc (take n got) (drop n got) behind)
    ∙ sym (append_assoc (take at bytes) (take n got) (drop n got ++ behind)) in
    let long : length (take at bytes ++ take n got) ≡ at + n = omega (arith, length-append (take at bytes) (take n got), length-take-le at bytes within, length-take-le n got few) in
    ap (take (at + n)) parts ∙ take_at (take at bytes ++ take n got) (drop n got ++ behind) (at + n) long

pub taken_behind : (bytes now got held : List ℕ) (at rest n : ℕ) (before left : Option (List ℕ)) → now ≡ put_mid at rest bytes got → at ≤ length bytes → n ≤ length got → 0 < n
    → take at bytes ≡ held → Consumes before left (take n got) → TakesOn before left held (slice_range now 0 (at + n)) × (length held < length (slice_range now 0 (at + n)))
taken_behind bytes now got held at rest n before left is within few some stood taken =
    let all : (at + n) - 0 ≡ at + n = omega arith in
    let whole : slice_range now 0 (at + n) ≡ held ++ take n got = ap (λ w. slice_range w 0 (at + n)) is ∙ ap (λ k. take k (put_mid at rest bytes got)) all ∙ front_of bytes got at rest n within few ∙ ap (λ w. w ++ take n got) stood in
    ((take n got, whole, taken), omega (arith, some, ap (λ w. length w) whole, length-append held (take n got), length-take-le n got few))

-- a part without its first bytes
pub part_without : (bytes held : List ℕ) (start end count : ℕ) → start ≤ end → end ≤ length bytes → slice_range bytes start end ≡ held → count ≤ length held
    → slice_range bytes (start + count) end ≡ drop count held
part_without bytes held start end count ordered within is few =
    let long : length held ≡ end - start = ap (λ w. length w) (sym is) ∙ length-take-le (end - start) (drop start bytes) (omega (arith, ordered, within, length-drop start bytes)) in
    let kept : count + (end - (start + count)) ≡ end - start = omega (arith, long, few, ordered) in
    sym (ap (drop count) (sym is) ∙ ap (λ k. drop count (take k (drop start bytes))) (sym kept) ∙ drop-take count (end - (start + count)) (drop start bytes)
    ∙ ap (take (end - (start + count))) (drop-drop count start bytes ∙ ap (λ k. drop k bytes) (omega arith)))

pub part_long : (bytes held : List ℕ) (start end : ℕ) → start ≤ end → end ≤ length bytes → slice_range bytes start end ≡ held → length held ≡ end - start
part_long bytes held start end ordered within is = ap (λ w. length w) (sym is) ∙ length-take-le (end - start) (drop start bytes) (omega (arith, ordered, within, length-drop start bytes))
