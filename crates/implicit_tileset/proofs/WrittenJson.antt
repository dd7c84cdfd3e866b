-- The compact text of a JSON value, also with spaces behind it, reads as the value.
use Rattle.std.proofs.Common.{◌≡◌, ◌∙◌, ℕ, zero, suc, ◌^◌, ◌<◌, ◌≤◌, Bool, true, false, cond, List, [], ◌∷◌, ◌++◌, replicate, decimal, Some, None, option_map, option_and_then, refl, sym, ap, append-nil, arith}
use Rattle.std.specs.Prelude.{IsUtf8}
use Rattle.std.proofs.lemmas.Str.{IsUtf8-append, IsUtf8-nil, IsUtf8-from_ascii, is_utf8-from_IsUtf8}
use Rattle.std.proofs.lemmas.Fmt.{IsAscii-decimal}
use Rattle.json.specs.Json as json
use Rattle.json.specs.Lex.{tokens}
use Rattle.json.specs.Tree as tree
use Rattle.json.specs.Print.{quoted}
use Rattle.json.proofs.Printed.Trees.{value-json_tokens, ArePrintable-json_tokens}
use Rattle.json.proofs.Printed.Decimals.{IsNumber-decimal}
use Rattle.json.proofs.Printed.Utf8.{are_ascii, IsUtf8-are_ascii, IsUtf8-quoted}
use Rattle.serde_json.specs.Data.{Data, number, string, array, object, Items, no_items, item, Members, no_members, member, put}
use Rattle.serde_json.specs.Read.{read, max_depth, of_json, of_items, of_members}
use Rattle.serde_json.specs.Written.{outline, items_outline, members_outline, compact_text, items_text, members_text, comma_if}
use Rattle.serde_json.proofs.Texts.{print-outline}
use Rattle.serde_json.proofs.Numbers.{number_of-decimal}
use Rattle.implicit_tileset.specs.Json.{json_of, whole_number}
use Rattle.implicit_tileset.proofs.Spaces.{tokens-spaces}

-- a value that nests at most `deep` times, whose text reads as the value
pub record ReadsAs (deep : ℕ) (d : Data) : Type 0 where
  pub whole : of_json (outline d) ≡ Some d
  pub numbers : tree.HasNumbers (outline d)
  pub shallow : tree.depth (outline d) ≤ deep
  pub utf8 : IsUtf8 (compact_text d)

-- the same of items, whose text stands behind a comma or not
pub record ItemsRead (deep : ℕ) (ds : Items) : Type 0 where
  pub whole : of_items (items_outline ds) ≡ Some ds
  pub numbers : tree.ItemsHaveNumbers (items_outline ds)
  pub shallow : tree.items_depth (items_outline ds) ≤ deep
  pub utf8 : (later : Bool) → IsUtf8 (items_text later ds)

-- and of members, whose names decide as what they are read
pub record MembersRead (deep : ℕ) (ms : Members) : Type 0 where
  pub numbers : tree.MembersHaveNumbers (members_outline ms)
  pub shallow : tree.members_depth (members_outline ms) ≤ deep
  pub utf8 : (later : Bool) → IsUtf8 (members_text later ms)

-- ---- the whole text

spaces_utf8 : (n : ℕ) → IsUtf8 (replicate n 32)
spaces_utf8 zero = IsUtf8-nil
spaces_utf8 (suc n) = IsUtf8-append (32 ∷ []) (replicate n 32) (IsUtf8-are_ascii (32 ∷ []) refl) (spaces_utf8 n)

read_spaced : (deep : ℕ) (d : Data) (n : ℕ) → deep ≤ max_depth → ReadsAs deep d → read (compact_text d ++ replicate n 32) ≡ Some d
read_spaced deep d n few r =
    let j = outline d in
    let ts = tree.json_tokens j in
    ap (λ us. option_and_then of_json (option_and_then (λ p. json.if_last p.0 p.1) (json.value max_depth us)))
    (ap (λ l. tokens (l ++ replicate n 32)) (sym (print-outline d)) ∙ tokens-spaces ts n (ArePrintable-json_tokens j r.numbers) ∙ sym (append-nil ts))
    ∙ ap (λ o. option_and_then of_json (option_and_then (λ p. json.if_last p.0 p.1) o)) (value-json_tokens j max_depth [] (omega (arith, few, r.shallow)))
    ∙ r.whole

pub json_of-utf8 : (bytes : List ℕ) → IsUtf8 bytes → json_of bytes ≡ read bytes
json_of-utf8 bytes utf8 = ap (λ b. cond b (read bytes) None) (is_utf8-from_IsUtf8 bytes utf8)

pub json_of-spaced : (deep : ℕ) (d : Data) (n : ℕ) → deep ≤ max_depth → ReadsAs deep d → json_of (compact_text d ++ replicate n 32) ≡ Some d
json_of-spaced deep d n few r =
    json_of-utf8 (compact_text d ++ replicate n 32) (IsUtf8-append (compact_text d) (replicate n 32) r.utf8 (spaces_utf8 n)) ∙ read_spaced deep d n few r

pub json_of-text : (deep : ℕ) (d : Data) → deep ≤ max_depth → ReadsAs deep d → json_of (compact_text d) ≡ Some d
json_of-text deep d few r = ap json_of (sym (append-nil (compact_text d))) ∙ json_of-spaced deep d 0 few r

-- ---- numbers and texts

pub number_reads : (n : ℕ) → n < 2 ^ 64 → ReadsAs 0 (whole_number n)
number_reads n fits = record {
  whole = ap (option_map number) (number_of-decimal n fits);
  numbers = IsNumber-decimal n fits;
  shallow = omega arith;
  utf8 = IsUtf8-from_ascii (decimal n) (IsAscii-decimal n fits);
}

pub string_reads : (s : List ℕ) → IsUtf8 s → ReadsAs 0 (string s)
string_reads s h = record { whole = refl; numbers = tt; shallow = omega arith; utf8 = IsUtf8-quoted s h }

-- a value that may nest deeper
pub deeper : (deep more : ℕ) (d : Data) → deep ≤ more → ReadsAs deep d → ReadsAs more d
deeper deep more d h r = record { whole = r.whole; numbers = r.numbers; shallow = omega (arith, r.shallow); utf8 = r.utf8 }

-- ---- lists and objects

ascii_first : (x : ℕ) (xs : List ℕ) → IsUtf8 (x ∷ []) → IsUtf8 xs → IsUtf8 (x ∷ xs)
ascii_first x xs h k = IsUtf8-append (x ∷ []) xs h k

comma_utf8 : (later : Bool) → IsUtf8 (comma_if later)
comma_utf8 true = IsUtf8-are_ascii (44 ∷ []) refl
comma_utf8 false = IsUtf8-nil

pub no_items_read : (deep : ℕ) → ItemsRead deep no_items
no_items_read deep = record { whole = refl; numbers = tt; shallow = omega arith; utf8 = λ later. IsUtf8-are_ascii (93 ∷ []) refl }

pub item_reads : (deep : ℕ) (d : Data) (ds : Items) → ReadsAs deep d → ItemsRead deep ds → ItemsRead deep (item d ds)
item_reads deep d ds r rs = record {
  whole = ap (option_and_then (λ e. option_map (item e) (of_items (items_outline ds)))) r.whole ∙ ap (option_map (item d)) rs.whole;
  numbers = (r.numbers, rs.numbers);
  shallow = omega (arith, r.shallow, rs.shallow);
  utf8 = λ later. IsUtf8-append (comma_if later) (compact_text d ++ items_text true ds) (comma_utf8 later) (IsUtf8-append (compact_text d) (items_text true ds) r.utf8 (rs.utf8 true));
}

pub array_reads : (deep : ℕ) (ds : Items) → ItemsRead deep ds → ReadsAs (suc deep) (array ds)
array_reads deep ds rs = record {
  whole = ap (option_map array) rs.whole;
  numbers = rs.numbers;
  shallow = omega (arith, rs.shallow);
  utf8 = ascii_first 91 (items_text false ds) (IsUtf8-are_ascii (91 ∷ []) refl) (rs.utf8 false);
}

pub no_members_read : (deep : ℕ) → MembersRead deep no_members
no_members_read deep = record { numbers = tt; shallow = omega arith; utf8 = λ later. IsUtf8-are_ascii (125 ∷ []) refl }

-- of a name of ASCII
pub member_reads : (deep : ℕ) (name : List ℕ) (d : Data) (ms : Members) → are_ascii name ≡ true → ReadsAs deep d → MembersRead deep ms → MembersRead deep (member name d ms)
member_reads deep name d ms plain r rs =
    let rest = compact_text d ++ members_text true ms in
    record {
      numbers = (r.numbers, rs.numbers);
      shallow = omega (arith, r.shallow, rs.shallow);
      utf8 = λ later. IsUtf8-append (comma_if later) (quoted name ++ 58 ∷ rest) (comma_utf8 later)
          (IsUtf8-append (quoted name) (58 ∷ rest) (IsUtf8-quoted name (IsUtf8-are_ascii name plain))
          (ascii_first 58 rest (IsUtf8-are_ascii (58 ∷ []) refl) (IsUtf8-append (compact_text d) (members_text true ms) r.utf8 (rs.utf8 true))));
    }

-- one member is read, and put to those that were found
pub member_step : (name : List ℕ) (d : Data) (ms found : Members) → of_json (outline d) ≡ Some d → of_members (members_outline (member name d ms)) found ≡ of_members (members_outline ms) (put name d found)
member_step name d ms found whole = ap (option_and_then (λ e. of_members (members_outline ms) (put name e found))) whole

pub object_reads : (deep : ℕ) (ms : Members) → MembersRead deep ms → of_members (members_outline ms) no_members ≡ Some ms → ReadsAs (suc deep) (object ms)
object_reads deep ms rs whole = record {
  whole = ap (option_map object) whole;
  numbers = rs.numbers;
  shallow = omega (arith, rs.shallow);
  utf8 = ascii_first 123 (members_text false ms) (IsUtf8-are_ascii (123 ∷ []) refl) (rs.utf8 false);
}

pub one_member_reads : (deep : ℕ) (name : List ℕ) (d : Data) → are_ascii name ≡ true → ReadsAs deep d → ReadsAs (suc deep) (object (member name d no_members))
one_member_reads deep name d plain r =
    object_reads deep (member name d no_members) (member_reads deep name d no_members plain r (no_members_read deep)) (member_step name d no_members no_members r.whole)
