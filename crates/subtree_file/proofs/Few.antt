-- A file needs no more files than it uses availabilities.
use Rattle.std.proofs.Common.{◌≡◌, ◌∙◌, ℕ, zero, suc, ◌+◌, ◌<◌, ◌≤◌, Bool, true, false, cond, ◌||◌, List, [], ◌∷◌, ◌++◌, length, map, refl, sym, ap, subst, arith, length-append}
use Rattle.std.specs.Prelude.{Option, Some, None, option_and_then, nat_lt, ◌==◌, if◌then◌else◌}
use Rattle.std.specs.List.{list_any, slice_get}
use Rattle.std.specs.Str.{bytes_eq}
use Rattle.std.proofs.lemmas.Bool.{lt-ltb, ltb-true, ltb-false, ne_eqb, eqb-true}
use Rattle.std.proofs.lemmas.List.{length-map}
use Rattle.implicit_tiling.specs.Tile.{Tile}
use Rattle.implicit_tiling.specs.Scene.{Layout}
use Rattle.implicit_tileset.specs.Record.{BufferView, Buffer, SubtreeRecord}
use Rattle.implicit_tileset.specs.SubtreeFile.{Used, view_is, for_nodes, for_children}
use Rattle.implicit_tileset.specs.BufferFiles.{buffer_name, view_at, is_used_buffer, used_uri, put_once, uris_below, used_uris, used_names}
use Rattle.subtree_file.specs.Decoding.{AreUsed}
use Rattle.subtree_file.proofs.Whole.{few_wanted, length_used}

abbrev as_number : Bool → ℕ
as_number b = cond b 1 0

abbrev how_many : (Used → Bool) → List Used → ℕ
how_many test [] = 0
how_many test (u ∷ used) = as_number (test u) + how_many test used

one_at_most : (b : Bool) → as_number b ≤ 1
one_at_most true = omega arith
one_at_most false = omega arith

at_most_all : (test : Used → Bool) (used : List Used) → how_many test used ≤ length used
at_most_all test [] = omega arith
at_most_all test (u ∷ used) = omega (arith, one_at_most (test u), at_most_all test used)

some_of : (a b : Bool) (rest : ℕ) → (a || b) ≡ true → (b ≡ true → 1 ≤ rest) → 1 ≤ as_number a + rest
some_of true b rest any later = omega arith
some_of false b rest any later = omega (arith, later any)

some_there : (test : Used → Bool) (used : List Used) → list_any test used ≡ true → 1 ≤ how_many test used
some_there test [] any = absurd (let no : false ≡ true = any in cc)
some_there test (u ∷ used) any = some_of (test u) (list_any test used) (how_many test used) any (some_there test used)

-- ---- views in the buffers below a number

below : SubtreeRecord → ℕ → Used → Bool
below r n u = view_is (λ v. nat_lt v.buffer n) (view_at r u.availability)

abbrev stands_in : SubtreeRecord → ℕ → Used → Bool
stands_in r n u = view_is (λ v. v.buffer == n) (view_at r u.availability)

by_order : (k n : ℕ) (lower same : Bool) → nat_lt k n ≡ lower → (k == n) ≡ same → as_number lower + as_number same ≤ as_number (nat_lt k (suc n))
by_order k n true true is at = let no : ⊥ = omega (arith, ltb-true k n is, eqb-true k n at) in absurd no
by_order k n true false is at = let more : nat_lt k (suc n) ≡ true = lt-ltb k (suc n) (omega (arith, ltb-true k n is)) in rw more (omega arith)
by_order k n false true is at = let more : nat_lt k (suc n) ≡ true = lt-ltb k (suc n) (omega (arith, eqb-true k n at)) in rw more (omega arith)
by_order k n false false is at = omega arith

each_below : (found : Option BufferView) (n : ℕ) → as_number (view_is (λ v. nat_lt v.buffer n) found) + as_number (view_is (λ v. v.buffer == n) found) ≤ as_number (view_is (λ v. nat_lt v.buffer (suc n)) found)
each_below None n = omega arith
each_below (Some v) n = by_order v.buffer n (nat_lt v.buffer n) (v.buffer == n) refl refl

all_below : (r : SubtreeRecord) (n : ℕ) (used : List Used) → how_many (below r n) used + how_many (stands_in r n) used ≤ how_many (below r (suc n)) used
unfolding below
all_below r n [] = omega arith
all_below r n (u ∷ used) = omega (arith, each_below (view_at r u.availability) n, all_below r n used)

-- ---- the names

once_longer : (uris : List (List ℕ)) (uri : List ℕ) (known : Bool) → length (if known then uris else uris ++ uri ∷ []) ≤ length uris + 1
once_longer uris uri true = omega arith
once_longer uris uri false = omega (arith, length-append uris (uri ∷ []))

one_longer : (uris : List (List ℕ)) (found : Option (List ℕ)) → length (put_once uris found) ≤ length uris + 1
one_longer uris None = omega arith
one_longer uris (Some uri) = once_longer uris uri (list_any (bytes_eq uri) uris)

by_used : (uris : List (List ℕ)) (found : Option (List ℕ)) (used : Bool) (many : ℕ) → (used ≡ true → 1 ≤ many) → length (put_once uris (if used then found else None)) ≤ length uris + many
by_used uris found true many some = omega (arith, one_longer uris found, some refl)
by_used uris found false many some = omega arith

few_below : (r : SubtreeRecord) (used : List Used) (n : ℕ) → length (uris_below r used n) ≤ how_many (below r n) used
few_below r used zero = omega arith
few_below r used (suc n) =
    omega (
      arith,
      few_below r used n,
      all_below r n used,
      by_used (uris_below r used n) (option_and_then (λ b. b.uri) (slice_get r.buffers n)) (is_used_buffer r used n) (how_many (stands_in r n) used) (some_there (stands_in r n) used),
    )

pub few_names : (layout : Layout) (root : Tile) (r : SubtreeRecord) (used : List Used) → AreUsed layout r used → length (used_names layout root r used) ≤ length layout.contents + 2
few_names layout root r used are =
    let n = length r.buffers in
    omega (
      arith,
      length-map (used_uris r used) (buffer_name layout root),
      few_below r used n,
      at_most_all (below r n) used,
      length_used (for_nodes layout r.tiles) (for_children layout r.child) (map (for_nodes layout) are.contents) used are.are,
      length-map are.contents (for_nodes layout),
      few_wanted layout r are.contents are.wanted,
    )
