-- A subtree file that is cut short.
use Rattle.std.proofs.Common.{◌≡◌, ◌∙◌, ℕ, zero, suc, ◌+◌, ◌-◌, ◌<◌, ◌≤◌, Bool, true, false, not, cond, nat_lt, List, [], ◌∷◌, length, get_or, take, drop, Result, Ok, Err, codes, refl, sym, ap, ap₂, subst, arith, inl, inr}
use Rattle.std.specs.Prelude.{◌↔◌, ◌⊎◌, None, IsOk, min, ◌==◌}
use Rattle.std.specs.Str.{bytes_eq}
use Rattle.std.specs.Int.{w32, w64, from_le_bytes}
use Rattle.std.proofs.Math.Seq.{get_or-take, take-take}
use Rattle.std.proofs.lemmas.Bool.{lt-ltb, le-ltb, ltb-false, cases_lt}
use Rattle.std.proofs.lemmas.List.{length-take, drop-take}
use Rattle.std.proofs.lemmas.Slice.Eq.{bytes_eq-Decides}
use Rattle.implicit_tiling.specs.Checks.{need, refuse}
use Rattle.implicit_tiling.proofs.Tables.{refuse-good}
use Rattle.implicit_tiling.specs.Tile.{Tile}
use Rattle.implicit_tiling.specs.Scene.{Layout}
use Rattle.implicit_tiling.specs.Subtree.{Subtree}
use Rattle.implicit_tileset.specs.SubtreeFile.{Parts, parts_of, parts_at, version, json_length, binary_length, and_then, wanted_contents, used_of}
use Rattle.implicit_tileset.specs.FileForms.{FileParts, is_json_form, file_parts, both_parts}
use Rattle.implicit_tileset.specs.Record.{record_of}
use Rattle.implicit_tileset.specs.BufferFiles.{Find}
use Rattle.implicit_tileset.specs.FileOutcome.{subtree_of_record, subtree_found}
use Rattle.implicit_tileset.specs.CutFiles.{IsBetween, CutFilesAreTold}
use Rattle.implicit_tileset.proofs.Numbered.{after_parts}

-- ---- numbers of a front

at : (xs : List ℕ) (n i : ℕ) → i < n → get_or (take n xs) i 0 ≡ get_or xs i 0
at xs n i h = get_or-take n xs i 0 h

four : (xs : List ℕ) (n : ℕ) → 4 ≤ n → from_le_bytes w32 (take n xs) ≡ from_le_bytes w32 xs
four xs n h =
    let e0 = at xs n 0 (omega (arith, h)) in
    let e1 = at xs n 1 (omega (arith, h)) in
    let e2 = at xs n 2 (omega (arith, h)) in
    let e3 = at xs n 3 (omega (arith, h)) in
    omega (arith, e0, e1, e2, e3)

eight : (xs : List ℕ) (n : ℕ) → 8 ≤ n → from_le_bytes w64 (take n xs) ≡ from_le_bytes w64 xs
eight xs n h =
    let e0 = at xs n 0 (omega (arith, h)) in
    let e1 = at xs n 1 (omega (arith, h)) in
    let e2 = at xs n 2 (omega (arith, h)) in
    let e3 = at xs n 3 (omega (arith, h)) in
    let e4 = at xs n 4 (omega (arith, h)) in
    let e5 = at xs n 5 (omega (arith, h)) in
    let e6 = at xs n 6 (omega (arith, h)) in
    let e7 = at xs n 7 (omega (arith, h)) in
    omega (arith, e0, e1, e2, e3, e4, e5, e6, e7)

dropped : (a k : ℕ) (xs : List ℕ) → a ≤ k → drop a (take k xs) ≡ take (k - a) (drop a xs)
dropped a k xs h = let e : k ≡ a + (k - a) = omega (arith, h) in ap (λ n. drop a (take n xs)) e ∙ drop-take a (k - a) xs

version_kept : (xs : List ℕ) (k : ℕ) → 24 ≤ k → version (take k xs) ≡ version xs
version_kept xs k h = ap (from_le_bytes w32) (dropped 4 k xs (omega (arith, h))) ∙ four (drop 4 xs) (k - 4) (omega (arith, h))

json_kept : (xs : List ℕ) (k : ℕ) → 24 ≤ k → json_length (take k xs) ≡ json_length xs
json_kept xs k h = ap (from_le_bytes w64) (dropped 8 k xs (omega (arith, h))) ∙ eight (drop 8 xs) (k - 8) (omega (arith, h))

binary_kept : (xs : List ℕ) (k : ℕ) → 24 ≤ k → binary_length (take k xs) ≡ binary_length xs
binary_kept xs k h = ap (from_le_bytes w64) (dropped 16 k xs (omega (arith, h))) ∙ eight (drop 16 xs) (k - 16) (omega (arith, h))

not_short : (n : ℕ) → nat_lt n 24 ≡ false → 24 ≤ n
not_short n e = ltb-false n 24 e

-- ---- the rows of the whole file

record HasParts (bytes : List ℕ) : Type 0 where
  long : nat_lt (length bytes) 24 ≡ false
  begins : not (bytes_eq (take 4 bytes) (codes "subt")) ≡ false
  numbered : not (version bytes == 1) ≡ false
  whole : nat_lt (length bytes) (24 + json_length bytes + binary_length bytes) ≡ false

has_parts : (bytes : List ℕ) (r : Result Parts ℕ) → parts_of bytes ≡ r → IsOk r → HasParts bytes
has_parts bytes (Err n) e ok = cc
has_parts bytes (Ok p) e ok =
    let r3 = refuse-good 3 (nat_lt (length bytes) 24) _ p e in
    let r4 = refuse-good 4 (not (bytes_eq (take 4 bytes) (codes "subt"))) _ p r3.1 in
    let r5 = refuse-good 5 (not (version bytes == 1)) _ p r4.1 in
    let r6 = refuse-good 6 (nat_lt (length bytes) (24 + json_length bytes + binary_length bytes)) _ p r5.1 in
    record { long = r3.0; begins = r4.0; numbered = r5.0; whole = r6.0 }

begins_with : (front : Bool) → not front ≡ false → front ≡ true
begins_with true e = refl
begins_with false e = cc

-- what begins as a binary file does is in no JSON form, and no front of it is
front_form : (bytes : List ℕ) (k : ℕ) → take 4 bytes ≡ codes "subt" → is_json_form (take k bytes) ≡ false
front_form bytes zero e = refl
front_form [] (suc k) e = refl
front_form (b ∷ bytes) (suc k) e =
    let first : b ≡ 115 = ap (λ xs. get_or xs 0 0) e in
    ap (λ c. is_json_form (c ∷ take k bytes)) first

-- bytes that are equal are the same
bytes_same : (xs ys : List ℕ) → bytes_eq xs ys ≡ true → xs ≡ ys
bytes_same xs ys e = (bytes_eq-Decides xs ys).0 e

-- ---- the rows of a front

abbrev found_by : Find → Layout → Tile → Result FileParts ℕ → Result Subtree ℕ
found_by find layout root r = and_then r (λ parts. and_then (record_of parts.json) (λ r. need 11 (wanted_contents layout r) (λ contents.
    subtree_of_record find layout root parts.binary r contents (used_of layout r contents))))

abbrev all_rows : List ℕ → Bool → Bool → Bool → Bool → Result FileParts ℕ
all_rows bytes b3 b4 b5 b6 = and_then (refuse 3 b3 (refuse 4 b4 (refuse 5 b5 (refuse 6 b6 (Ok (parts_at bytes (json_length bytes) (binary_length bytes))))))) (λ parts. Ok (both_parts parts))

parts_by_rows : (bytes : List ℕ) → is_json_form bytes ≡ false
    → file_parts bytes ≡ all_rows bytes (nat_lt (length bytes) 24) (not (bytes_eq (take 4 bytes) (codes "subt"))) (not (version bytes == 1)) (nat_lt (length bytes) (24 + json_length bytes + binary_length bytes))
parts_by_rows bytes form = ap (λ b. cond b (Ok (record { json = bytes; binary = None })) (and_then (parts_of bytes) (λ parts. Ok (both_parts parts)))) form

short_front : (bytes : List ℕ) (k : ℕ) → HasParts bytes → is_json_form (take k bytes) ≡ false → k < 24 → file_parts (take k bytes) ≡ Err 3
short_front bytes k has form h =
    let cut = take k bytes in
    parts_by_rows cut form
    ∙ ap (λ b. all_rows cut b (not (bytes_eq (take 4 cut) (codes "subt"))) (not (version cut == 1)) (nat_lt (length cut) (24 + json_length cut + binary_length cut)))
    (lt-ltb (length cut) 24 (omega (arith, h, length-take k bytes)))

long_front : (bytes : List ℕ) (k : ℕ) → HasParts bytes → is_json_form (take k bytes) ≡ false → 24 ≤ k
    → file_parts (take k bytes) ≡ all_rows (take k bytes) false false false (nat_lt (min k (length bytes)) (24 + json_length bytes + binary_length bytes))
long_front bytes k has form h =
    let cut = take k bytes in
    let b4 = not (bytes_eq (take 4 cut) (codes "subt")) in
    let b5 = not (version cut == 1) in
    let b6 = nat_lt (length cut) (24 + json_length cut + binary_length cut) in
    let whole : 24 ≤ length bytes = not_short (length bytes) has.long in
    let e3 : nat_lt (length cut) 24 ≡ false = le-ltb (length cut) 24 (omega (arith, h, whole, length-take k bytes)) in
    let e4 : b4 ≡ false = ap (λ xs. not (bytes_eq xs (codes "subt"))) (take-take 4 k bytes (omega (arith, h))) ∙ has.begins in
    let e5 : b5 ≡ false = ap (λ n. not (n == 1)) (version_kept bytes k h) ∙ has.numbered in
    let e6 : b6 ≡ nat_lt (min k (length bytes)) (24 + json_length bytes + binary_length bytes) =
    ap (λ n. nat_lt n (24 + json_length cut + binary_length cut)) (length-take k bytes)
    ∙ ap₂ (λ j b. nat_lt (min k (length bytes)) (24 + j + b)) (json_kept bytes k h) (binary_kept bytes k h) in
    parts_by_rows cut form ∙ ap (λ b. all_rows cut b b4 b5 b6) e3 ∙ ap (λ b. all_rows cut false b b5 b6) e4 ∙ ap (λ b. all_rows cut false false b b6) e5 ∙ ap (all_rows cut false false false) e6

-- ---- both ways

no_later : (find : Find) (layout : Layout) (root : Tile) (r : Result FileParts ℕ) (parts : FileParts) (n : ℕ) → n < 7 → r ≡ Ok parts → found_by find layout root r ≡ Err n → ⊥
no_later find layout root r parts n few is e =
    let b : IsBetween 7 20 (found_by find layout root r) = subst (λ (q : Result FileParts ℕ). IsBetween 7 20 (found_by find layout root q)) (sym is) (after_parts find layout root parts) in
    let c : IsBetween {A = Subtree} 7 20 (Err n) = subst (λ (q : Result Subtree ℕ). IsBetween 7 20 q) e b in
    let d = c.within n refl in omega (arith, few, d.0)

-- the numbers of two faults
same_number : (m n : ℕ) (r : Result Subtree ℕ) → r ≡ Err m → r ≡ Err n → m ≡ n
same_number m n r e f = cc

cut_short : (find : Find) (layout : Layout) (root : Tile) (bytes : List ℕ) (k : ℕ) → HasParts bytes → is_json_form (take k bytes) ≡ false → k < 24
    → ((subtree_found find layout root (take k bytes) ≡ Err 3) ↔ (k < 24)) × ((subtree_found find layout root (take k bytes) ≡ Err 6) ↔ ((24 ≤ k) × (k < 24 + json_length bytes + binary_length bytes)))
cut_short find layout root bytes k has form h =
    let three : subtree_found find layout root (take k bytes) ≡ Err 3 = ap (found_by find layout root) (short_front bytes k has form h) in
    ((λ e. h, λ lt. three), (λ e. absurd (let no : 3 ≡ 6 = same_number 3 6 (subtree_found find layout root (take k bytes)) three e in omega (arith, no)), λ p. absurd (omega (arith, h, p.0))))

cut_inside : (find : Find) (layout : Layout) (root : Tile) (bytes : List ℕ) (k : ℕ) → HasParts bytes → is_json_form (take k bytes) ≡ false → 24 ≤ k → k < 24 + json_length bytes + binary_length bytes
    → ((subtree_found find layout root (take k bytes) ≡ Err 3) ↔ (k < 24)) × ((subtree_found find layout root (take k bytes) ≡ Err 6) ↔ ((24 ≤ k) × (k < 24 + json_length bytes + binary_length bytes)))
cut_inside find layout root bytes k has form h inside =
    let b6 : nat_lt (min k (length bytes)) (24 + json_length bytes + binary_length bytes) ≡ true = lt-ltb (min k (length bytes)) (24 + json_length bytes + binary_length bytes) (omega (arith, inside)) in
    let six : subtree_found find layout root (take k bytes) ≡ Err 6 = ap (found_by find layout root) (long_front bytes k has form h ∙ ap (all_rows (take k bytes) false false false) b6) in
    ((λ e. absurd (let no : 6 ≡ 3 = same_number 6 3 (subtree_found find layout root (take k bytes)) six e in omega (arith, no)), λ lt. absurd (omega (arith, h, lt))), (λ e. (h, inside), λ p. six))

cut_outside : (find : Find) (layout : Layout) (root : Tile) (bytes : List ℕ) (k : ℕ) → HasParts bytes → is_json_form (take k bytes) ≡ false → 24 ≤ k → 24 + json_length bytes + binary_length bytes ≤ k
    → ((subtree_found find layout root (take k bytes) ≡ Err 3) ↔ (k < 24)) × ((subtree_found find layout root (take k bytes) ≡ Err 6) ↔ ((24 ≤ k) × (k < 24 + json_length bytes + binary_length bytes)))
cut_outside find layout root bytes k has form h outside =
    let all : 24 + json_length bytes + binary_length bytes ≤ length bytes = ltb-false (length bytes) (24 + json_length bytes + binary_length bytes) has.whole in
    let b6 : nat_lt (min k (length bytes)) (24 + json_length bytes + binary_length bytes) ≡ false = le-ltb (min k (length bytes)) (24 + json_length bytes + binary_length bytes) (omega (arith, outside, all)) in
    let cut = take k bytes in
    let good : file_parts cut ≡ Ok (both_parts (parts_at cut (json_length cut) (binary_length cut))) = long_front bytes k has form h ∙ ap (all_rows cut false false false) b6 in (
      (λ e. absurd (no_later find layout root (file_parts cut) (both_parts (parts_at cut (json_length cut) (binary_length cut))) 3 (omega arith) good e), λ lt. absurd (omega (arith, h, lt))),
      (λ e. absurd (no_later find layout root (file_parts cut) (both_parts (parts_at cut (json_length cut) (binary_length cut))) 6 (omega arith) good e), λ p. absurd (omega (arith, outside, p.1))),
    )

by_place : (find : Find) (layout : Layout) (root : Tile) (bytes : List ℕ) (k : ℕ) → HasParts bytes → is_json_form (take k bytes) ≡ false → (k < 24) ⊎ (24 ≤ k)
    → (k < 24 + json_length bytes + binary_length bytes) ⊎ (24 + json_length bytes + binary_length bytes ≤ k)
    → ((subtree_found find layout root (take k bytes) ≡ Err 3) ↔ (k < 24)) × ((subtree_found find layout root (take k bytes) ≡ Err 6) ↔ ((24 ≤ k) × (k < 24 + json_length bytes + binary_length bytes)))
by_place find layout root bytes k has form (inl h) other = cut_short find layout root bytes k has form h
by_place find layout root bytes k has form (inr h) (inl inside) = cut_inside find layout root bytes k has form h inside
by_place find layout root bytes k has form (inr h) (inr outside) = cut_outside find layout root bytes k has form h outside

pub cut_files_are_told : CutFilesAreTold
cut_files_are_told find layout root bytes k form ok =
    let has = has_parts bytes (parts_of bytes) refl ok in
    let begins : take 4 bytes ≡ codes "subt" = bytes_same (take 4 bytes) (codes "subt") (begins_with (bytes_eq (take 4 bytes) (codes "subt")) has.begins) in
    by_place find layout root bytes k has (front_form bytes k begins) (cases_lt k 24) (cases_lt k (24 + json_length bytes + binary_length bytes))
