-- How many bytes the compact text of a JSON value has at most.
use Rattle.std.proofs.Common.{ℕ, ◌+◌, ◌*◌, ◌^◌, ◌<◌, ◌≤◌, Bool, true, false, cond, nat_lt, List, [], ◌∷◌, ◌++◌, length, length-append, arith}
use Rattle.std.proofs.lemmas.Fmt.{length-decimal-le}
use Rattle.json.specs.Print.{escape, escape_byte, escape_letter, quoted}
use Rattle.serde_json.specs.Data.{Data, string, array, object, Items, no_items, item, Members, no_members, member}
use Rattle.serde_json.specs.Written.{compact_text, items_text, members_text, comma_if}
use Rattle.implicit_tileset.specs.Json.{whole_number}

-- the text of a value has at most `most` bytes
abbrev pub IsWithin : ℕ → Data → Type 0
IsWithin most d = length (compact_text d) ≤ most

-- the same of items and of members, with the bracket that ends them, behind a comma or not
abbrev pub ItemsWithin : ℕ → Items → Type 0
ItemsWithin most ds = (later : Bool) → length (items_text later ds) ≤ most

abbrev pub MembersWithin : ℕ → Members → Type 0
MembersWithin most ms = (later : Bool) → length (members_text later ms) ≤ most

-- ---- numbers and texts

pub number_within : (digits n : ℕ) → 0 < digits → n < 10 ^ digits → n < 2 ^ 64 → IsWithin digits (whole_number n)
number_within digits n some few fits = length-decimal-le digits n some few fits

one_of_three : (a b : Bool) (xs ys zs : List ℕ) → length xs ≤ 6 → length ys ≤ 6 → length zs ≤ 6 → length (cond a xs (cond b ys zs)) ≤ 6
one_of_three true b xs ys zs h k l = h
one_of_three false true xs ys zs h k l = k
one_of_three false false xs ys zs h k l = l

escape_byte_within : (x : ℕ) → length (escape_byte x) ≤ 6
unfolding escape_byte
escape_byte_within x = one_of_three (nat_lt 0 (escape_letter x)) (nat_lt x 32) _ _ _ (omega arith) (omega arith) (omega arith)

escape_within : (s : List ℕ) → length (escape s) ≤ 6 * length s
escape_within [] = omega arith
escape_within (c ∷ cs) = omega (arith, length-append (escape_byte c) (escape cs), escape_byte_within c, escape_within cs)

-- each byte is escaped by at most six
quoted_within : (s : List ℕ) → length (quoted s) ≤ 6 * length s + 2
quoted_within s = omega (arith, length-append (escape s) (34 ∷ []), escape_within s)

pub string_within : (s : List ℕ) → IsWithin (6 * length s + 2) (string s)
string_within s = quoted_within s

-- ---- lists and objects

comma_within : (later : Bool) → length (comma_if later) ≤ 1
comma_within true = omega arith
comma_within false = omega arith

pub no_items_within : ItemsWithin 1 no_items
no_items_within later = omega arith

pub item_within : (a b most : ℕ) (d : Data) (ds : Items) → IsWithin a d → ItemsWithin b ds → a + b + 1 ≤ most → ItemsWithin most (item d ds)
item_within a b most d ds h k fits later =
    omega (arith, length-append (comma_if later) (compact_text d ++ items_text true ds), length-append (compact_text d) (items_text true ds), comma_within later, h, k true, fits)

pub array_within : (a most : ℕ) (ds : Items) → ItemsWithin a ds → a + 1 ≤ most → IsWithin most (array ds)
array_within a most ds h fits = omega (arith, h false, fits)

pub no_members_within : MembersWithin 1 no_members
no_members_within later = omega arith

pub member_within : (a b most : ℕ) (name : List ℕ) (d : Data) (ms : Members) → IsWithin a d → MembersWithin b ms → 6 * length name + a + b + 4 ≤ most → MembersWithin most (member name d ms)
member_within a b most name d ms h k fits later =
    let rest = compact_text d ++ members_text true ms in
    omega (arith, length-append (comma_if later) (quoted name ++ 58 ∷ rest), length-append (quoted name) (58 ∷ rest), length-append (compact_text d) (members_text true ms), comma_within later, quoted_within name, h, k true, fits)

pub object_within : (a most : ℕ) (ms : Members) → MembersWithin a ms → a + 1 ≤ most → IsWithin most (object ms)
object_within a most ms h fits = omega (arith, h false, fits)
