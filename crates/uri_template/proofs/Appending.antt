-- What an append leaves of the text before it.
use Rattle.std.proofs.Common.{◌≡◌, ℕ, ◌≤◌, List, ◌++◌, length, take, length-take, sym, ap, ◌∙◌, subst, arith}
use Rattle.std.proofs.lemmas.List.{take-append-le}
use Rattle.std.specs.Prelude.{Result, Ok, Err, is_ok, OnOk, if◌then◌else◌}
use Rattle.std.specs.Str.{IsUtf8, IsCharBoundary}
use Rattle.std.proofs.lemmas.Str.{IsCharBoundary-from_take}

-- what was there at the start stays in front
pub kept-append : (start out next more : List ℕ) → next ≡ out ++ more → take (length start) out ≡ start → take (length start) next ≡ start
kept-append start out next more is kept =
    let long : length start ≤ length out = omega (arith, length-take (length start) out, ap length kept) in
    rw is (take-append-le (length start) out more long ∙ kept)

-- where what came last was appended, the whole stands there
pub appended : {E : Type 0} (r : Result (Unit {0}) E) (new out rest whole : List ℕ) → new ≡ (if is_ok r then out ++ rest else out) → out ++ rest ≡ whole → OnOk r (new ≡ whole)
appended (Ok u) new out rest whole is so_far = is ∙ so_far
appended (Err e) new out rest whole is so_far = tt

-- a text may be cut behind the text that it begins with
pub may_be_cut : (bytes start : List ℕ) (n : ℕ) → IsUtf8 bytes → IsUtf8 start → n ≡ length start → take (length start) bytes ≡ start → IsCharBoundary bytes n
may_be_cut bytes start n text front is kept =
    let fits : n ≤ length bytes = omega (arith, length-take (length start) bytes, ap length kept) in
    let P : List ℕ → Type 0 = IsUtf8 in
    let here : take n bytes ≡ start = ap (λ k. take k bytes) is ∙ kept in
    IsCharBoundary-from_take bytes n text fits (subst P (sym here) front)
