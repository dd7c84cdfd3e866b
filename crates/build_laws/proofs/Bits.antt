-- Bits that are 1 at given places, and at the places of given words.
use Rattle.std.proofs.Common.{◌≡◌, ℕ, ◌<◌, ◌≤◌, true, false, List, [], ◌∷◌, length, map, sym, ap, subst, ◌∙◌, arith, zero-add, inl, inr, ◌⊎◌}
use Rattle.std.specs.Prelude.{◌==◌}
use Rattle.std.specs.List.{list_any, Contains}
use Rattle.std.proofs.lemmas.Bool.{cases_lt, eqb-true, eq-eqb, both_ways}
use Rattle.std.proofs.lemmas.List.{get_or-map, length-map, get_or_past}
use Rattle.std.proofs.lemmas.List.Folds.{Any-from_list_any, list_any_at}
use Rattle.std.proofs.lemmas.List.FromFn.{length-map-range_with_len, get_or-map-range_with_len}
use Rattle.implicit_tiling.specs.Scene.{Layout}
use Rattle.implicit_tiling.specs.Availability.{place}
use Rattle.implicit_tiling.specs.Subtree.{node_count, child_count}
use Rattle.implicit_tiling.specs.Bits.{bit_at}
use Rattle.tiling_laws.proofs.Rising.{none_in_nil, contains_first, contains_later, contains_cases}
use Rattle.tiling_laws.proofs.Places.{place_below, within_level}
use Rattle.bitstream.specs.Bits.{bits_of_places}
use Rattle.build_laws.specs.Made.{tile_in, node_bits, child_place, child_bits}

-- what a function gives of an element is in the list of what it gives
pub into_map : {X Y : Type 0} (f : X → Y) (xs : List X) (x : X) → Contains xs x → Contains (map f xs) (f x)
into_map f xs x there =
    let low = there.1 in (
      there.0,
      omega (arith, low, length-map xs f),
      get_or-map f xs there.0 x (f x) low ∙ ap f there.2,
    )

-- and what is in that list is given of an element
pub record IsFrom {X Y : Type 0} (f : X → Y) (xs : List X) (y : Y) : Type 0 where
  pub element : X
  pub there : Contains xs element
  pub gives : f element ≡ y

from_first : {X Y : Type 0} (f : X → Y) (x : X) (xs : List X) (y : Y) → (f x ≡ y) ⊎ Contains (map f xs) y → (Contains (map f xs) y → IsFrom f xs y) → IsFrom f (x ∷ xs) y
from_first f x xs y (inl same) rest = record { element = x; there = contains_first x xs; gives = same }
from_first f x xs y (inr later) rest =
    let one = rest later in
    record { element = one.element; there = contains_later x xs one.element one.there; gives = one.gives }

pub from_map : {X Y : Type 0} (f : X → Y) (xs : List X) (y : Y) → Contains (map f xs) y → IsFrom f xs y
from_map f [] y there = absurd (none_in_nil y there)
from_map f (x ∷ xs) y there = from_first f x xs y (contains_cases (f x) (map f xs) y there) (from_map f xs y)

-- a bit is 1 where its place is one of those given
pub length-bits_of_places : (count : ℕ) (places : List ℕ) → length (bits_of_places count places) ≡ count
length-bits_of_places count places = length-map-range_with_len (λ i. list_any (λ p. p == i) places) 0 count

bit_is : (count : ℕ) (places : List ℕ) (i : ℕ) → i < count → bit_at (bits_of_places count places) i ≡ list_any (λ p. p == i) places
bit_is count places i low = get_or-map-range_with_len (λ j. list_any (λ p. p == j) places) 0 count i i false low (zero-add i)

pub bit_says : (count : ℕ) (places : List ℕ) (i : ℕ) → bit_at (bits_of_places count places) i ≡ true → Contains places i
bit_says count places i one =
    elim (cases_lt i count) [
      | inl low ↦ let some = Any-from_list_any (λ p. p == i) places (sym (bit_is count places i low) ∙ one) in
          subst (Contains places) (eqb-true some.1 i some.4) (some.0, some.2, some.3)
      | inr past ↦ absurd (both_ways (bit_at (bits_of_places count places) i) (get_or_past (bits_of_places count places) i false (omega (arith, past, length-bits_of_places count places))) one)
    ]

pub bit_from : (count : ℕ) (places : List ℕ) (i : ℕ) → i < count → Contains places i → bit_at (bits_of_places count places) i ≡ true
bit_from count places i low there = bit_is count places i low ∙ list_any_at (λ p. p == i) places there.0 i there.1 (eq-eqb _ i there.2)

-- the bits of nodes and of child subtrees
pub node_says : (layout : Layout) (words : List ℕ) (i : ℕ) → bit_at (node_bits layout words) i ≡ true → IsFrom (λ w. place layout (tile_in layout w)) words i
node_says layout words i one =
    let at : ℕ → ℕ = λ w. place layout (tile_in layout w) in
    from_map at words i (bit_says (node_count layout.scheme layout.subtree_levels) (map at words) i one)

pub node_from : (layout : Layout) (words : List ℕ) (w : ℕ) → 1 ≤ layout.subtree_levels → Contains words w → bit_at (node_bits layout words) (place layout (tile_in layout w)) ≡ true
node_from layout words w some there =
    let at : ℕ → ℕ = λ w. place layout (tile_in layout w) in
    bit_from (node_count layout.scheme layout.subtree_levels) (map at words) (at w) (place_below layout (tile_in layout w) some) (into_map at words w there)

pub child_says : (layout : Layout) (words : List ℕ) (i : ℕ) → bit_at (child_bits layout words) i ≡ true → IsFrom (child_place layout) words i
child_says layout words i one =
    from_map (child_place layout) words i (bit_says (child_count layout.scheme layout.subtree_levels) (map (child_place layout) words) i one)

pub child_from : (layout : Layout) (words : List ℕ) (w : ℕ) → Contains words w → bit_at (child_bits layout words) (child_place layout w) ≡ true
child_from layout words w there =
    bit_from (child_count layout.scheme layout.subtree_levels) (map (child_place layout) words) (child_place layout w)
    (within_level layout.scheme layout.subtree_levels _) (into_map (child_place layout) words w there)
