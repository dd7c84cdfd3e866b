-- The parts of a file are those that it was made of.
use Rattle.std.proofs.Common.{◌≡◌, ◌∙◌, ℕ, ◌+◌, ◌-◌, ◌^◌, ◌<◌, nat_lt, List, ◌++◌, length, take, drop, length-append, sym, ap, ap₂, arith}
use Rattle.std.specs.Prelude.{Result, Ok}
use Rattle.std.proofs.lemmas.Bool.{le-ltb}
use Rattle.std.proofs.lemmas.Nat.{from_le_bytes-to_le_bytes_8}
use Rattle.std.proofs.Math.Seq.{take-append_seam, drop-append_seam}
use Rattle.std.proofs.lemmas.List.{take_all, drop-drop}
use Rattle.implicit_tiling.specs.Checks.{refuse}
use Rattle.implicit_tileset.specs.SubtreeFile.{Parts, parts_of, parts_at, json_length, binary_length}
use Rattle.subtree_write.specs.Canonical.{file_of}

json_length-file : (json bytes : List ℕ) → length json < 2 ^ 64 → json_length (file_of json bytes) ≡ length json
json_length-file json bytes h = from_le_bytes-to_le_bytes_8 (length json) h

binary_length-file : (json bytes : List ℕ) → length bytes < 2 ^ 64 → binary_length (file_of json bytes) ≡ length bytes
binary_length-file json bytes h = from_le_bytes-to_le_bytes_8 (length bytes) h

pub length-file : (json bytes : List ℕ) → length (file_of json bytes) ≡ 24 + (length json + length bytes)
length-file json bytes = omega (arith, length-append json bytes)

abbrev parts_from : List ℕ → List ℕ → Parts
parts_from json binary = record { json = json; binary = binary }

parts_in : (json bytes : List ℕ) (j b : ℕ) → j ≡ length json → b ≡ length bytes → parts_at (file_of json bytes) j b ≡ record { json = json; binary = bytes }
parts_in json bytes j b e f =
    let file = file_of json bytes in
    let first : 24 + j - 24 ≡ length json = omega arith in
    let second : 24 + j + b - (24 + j) ≡ length bytes = omega arith in
    let rest : drop (24 + j) file ≡ bytes = sym (drop-drop j 24 file) ∙ ap (λ n. drop n (json ++ bytes)) e ∙ drop-append_seam json bytes in
    ap₂ parts_from
    (ap (λ n. take n (json ++ bytes)) first ∙ take-append_seam json bytes)
    (ap (λ l. take (24 + j + b - (24 + j)) l) rest ∙ take_all (24 + j + b - (24 + j)) bytes (omega arith))

pub parts_of-file : (json bytes : List ℕ) → length json < 2 ^ 64 → length bytes < 2 ^ 64 → parts_of (file_of json bytes) ≡ Ok (record { json = json; binary = bytes })
parts_of-file json bytes h k =
    let file = file_of json bytes in
    let whole : Result Parts ℕ = Ok (parts_at file (json_length file) (binary_length file)) in
    let enough = le-ltb (length file) 24 (omega (arith, length-file json bytes)) in
    let inside = le-ltb (length file) (24 + json_length file + binary_length file) (omega (arith, length-file json bytes, json_length-file json bytes h, binary_length-file json bytes k)) in
    ap (λ t. refuse 3 t (refuse 6 (nat_lt (length file) (24 + json_length file + binary_length file)) whole)) enough
    ∙ ap (λ t. refuse 6 t whole) inside
    ∙ ap Ok (parts_in json bytes (json_length file) (binary_length file) (json_length-file json bytes h) (binary_length-file json bytes k))
