-- The words of nodes, and the lists of those that are found.
use Rattle.std.proofs.Common.{◌≡◌, ℕ, ◌+◌, ◌-◌, ◌/◌, ◌^◌, ◌<◌, ◌≤◌, Bool, true, false, List, [], ◌∷◌, length, map, cond, get_or, refl, sym, ap, subst, ◌∙◌, arith, lit<}
use Rattle.std.specs.Prelude.{◌&&◌, filter}
use Rattle.std.specs.List.{All, AllPairs, range_with_len}
use Rattle.std.proofs.Math.Nat.{pow-le-pow_right}
use Rattle.std.proofs.lemmas.Bool.{and_parts, ltb-true}
use Rattle.std.proofs.lemmas.List.{length-map, get_or-map}
use Rattle.std.proofs.lemmas.List.Elements.{All-nil, All-cons, All-head, All-tail, All-map}
use Rattle.std.proofs.lemmas.List.Kept.{AllPairs-filter}
use Rattle.std.proofs.lemmas.List.FromFn.{get_or-range_with_len, length-range_with_len}
use Rattle.implicit_tiling.specs.Tile.{branching, ancestor, is_key_below}
use Rattle.implicit_tiling.specs.Region.{Region, is_in}
use Rattle.implicit_tiling.specs.Code.{word, word_tile}
use Rattle.implicit_tiling.specs.Availability.{nodes_above}
use Rattle.implicit_tiling.specs.Subtree.{Subtree, IsSubtree, is_kept, node_bit, has_tile, has_child, contents_mask}
use Rattle.implicit_tiling.specs.Bits.{bit_at}
use Rattle.implicit_tiling.specs.Nodes.{node_at, is_tile_in, node_word, is_child_in, child_word}
use Rattle.tiling_laws.proofs.Order.{below_by_index}
use Rattle.tile_word.specs.Words.{HasWord}
use Rattle.availability.proofs.Masks.{mask_below}
use Rattle.tile_word.proofs.Tiles.{level_of_word, mask_of_word, tile_of_word, word_is_word}
use Rattle.region_scan.specs.NodeLaws.{IsNodeWord, WordsAreFound, WordsRiseInKeyOrder}
use Rattle.region_scan.proofs.NodeTiles.{node_is_tile, node_level, node_index, root_above}

pub words_rise : (s : Subtree) (l m n mask : ℕ) → m < n → n < branching s.scheme ^ l → word s.scheme (node_at s l m) mask < word s.scheme (node_at s l n) mask
words_rise s l m n mask low h =
    omega (arith, node_level s l m, node_level s l n, node_index s l m (omega arith), node_index s l n h)

-- a mask has a bit for each content
pub contents_below : (s : Subtree) (l m : ℕ) → contents_mask s l m < 2 ^ length s.contents
contents_below s l m =
    mask_below (map (λ bits. node_bit s bits l m) s.contents) (length s.contents) (length-map s.contents (λ bits. node_bit s bits l m))

few_masks : (s : Subtree) → IsSubtree s → 2 ^ length s.contents ≤ 2 ^ 16
few_masks s is = pow-le-pow_right (lit< tt) is.few_contents

node_has_word : (s : Subtree) (l m : ℕ) → IsSubtree s → s.root.level + l < s.cut → HasWord s.scheme (node_at s l m)
node_has_word s l m is kept = record {
  is_tile = node_is_tile s l m;
  within = omega (arith, node_level s l m, is.few_levels_in_all);
}

-- the word of a node with a mask
word_of_node : (s : Subtree) (region : Region) (l m mask masks : ℕ) → IsSubtree s → s.root.level + l < s.cut → m < branching s.scheme ^ l
    → is_in region (node_at s l m) ≡ true → mask < masks → masks ≤ 2 ^ 16 → IsNodeWord s region l masks (word s.scheme (node_at s l m) mask)
word_of_node s region l m mask masks is kept h here low few =
    let has = node_has_word s l m is kept in
    let short : mask < 2 ^ 16 = omega arith in
    let level = level_of_word s.scheme (node_at s l m) mask has.within short ∙ node_level s l m in
    let tile = tile_of_word s.scheme (node_at s l m) mask has short in
    record {
      is_word = word_is_word s.scheme (node_at s l m) mask has.within short;
      level = level;
      below_cut = omega (arith, level);
      mask = subst (λ k. k < masks) (sym (mask_of_word s.scheme (node_at s l m) mask has.within short)) low;
      in_region = ap (is_in region) tile ∙ here;
      above = ap (ancestor l) tile ∙ root_above s l m is.root_is_tile h;
    }

-- what holds of the elements that pass
pass_one : {X : Type 0} (P : X → Type 0) (b : Bool) (x : X) (rest : List X) → (b ≡ true → P x) → All P rest → All P (cond b (x ∷ rest) rest)
pass_one P true x rest here later = All-cons P x rest (here refl) later
pass_one P false x rest here later = later

passing : {X : Type 0} (p : X → Bool) (P : X → Type 0) (xs : List X) → All (λ x. p x ≡ true → P x) xs → All P (filter p xs)
passing p P [] each = All-nil P
passing p P (x ∷ xs) each =
    pass_one P (p x) x (filter p xs) (All-head (λ y. p y ≡ true → P y) x xs each) (passing p P xs (All-tail (λ y. p y ≡ true → P y) x xs each))

-- an index of a level that passes
record Passes (test : ℕ → Bool) (n m : ℕ) : Type 0 where
  low : m < n
  yes : test m ≡ true

all_pass : (test : ℕ → Bool) (n : ℕ) → All (Passes test n) (filter test (range_with_len 0 n))
all_pass test n =
    passing test (Passes test n) (range_with_len 0 n)
    (λ k d below yes. record {
      low = omega (arith, below, length-range_with_len 0 n, get_or-range_with_len 0 n k d (omega (arith, length-range_with_len 0 n)));
      yes = yes;
    })

pairs_pass : (test : ℕ → Bool) (n : ℕ) → AllPairs (λ j k. j < k) (filter test (range_with_len 0 n))
pairs_pass test n =
    AllPairs-filter (λ j k. j < k) test (range_with_len 0 n)
    (λ i j d low within.
    omega (arith, get_or-range_with_len 0 n i d (omega (arith, length-range_with_len 0 n)), get_or-range_with_len 0 n j d (omega (arith, length-range_with_len 0 n))))

of_found : (test : ℕ → Bool) (value : ℕ → ℕ) (n : ℕ) (P : ℕ → Type 0) → ((m : ℕ) → Passes test n m → P (value m)) → All P (map value (filter test (range_with_len 0 n)))
of_found test value n P each = All-map P value (filter test (range_with_len 0 n)) (λ k d below. each (get_or (filter test (range_with_len 0 n)) k d) (all_pass test n k d below))

-- a tile that is found
tile_passes : (s : Subtree) (region : Region) (l m : ℕ) → is_tile_in s region l m ≡ true → (s.root.level + l < s.cut) × (is_in region (node_at s l m) ≡ true)
tile_passes s region l m h =
    let both = and_parts (has_tile s l m) (is_in region (node_at s l m)) h in
    (ltb-true (s.root.level + l) s.cut (and_parts (is_kept s l) (bit_at s.tiles (nodes_above s.scheme l + m)) both.0).0, both.1)

child_passes : (s : Subtree) (region : Region) (m : ℕ) → is_child_in s region m ≡ true → (s.root.level + s.levels < s.cut) × (is_in region (node_at s s.levels m) ≡ true)
child_passes s region m h =
    let both = and_parts (has_child s m && has_tile s (s.levels - 1) (m / branching s.scheme)) (is_in region (node_at s s.levels m)) h in
    let bit = and_parts (has_child s m) (has_tile s (s.levels - 1) (m / branching s.scheme)) both.0 in
    (ltb-true (s.root.level + s.levels) s.cut (and_parts (is_kept s s.levels) (bit_at s.child m) bit.0).0, both.1)

pub found_words_are_words : (s : Subtree) (region : Region) → IsSubtree s → WordsAreFound s region
found_words_are_words s region is = record {
  tiles = λ l. of_found (is_tile_in s region l) (node_word s l) (branching s.scheme ^ l) (IsNodeWord s region l (2 ^ length s.contents))
      (λ m pass. let here = tile_passes s region l m pass.yes in
      word_of_node s region l m (contents_mask s l m) (2 ^ length s.contents) is here.0 pass.low here.1 (contents_below s l m) (few_masks s is));
  children = of_found (is_child_in s region) (child_word s) (branching s.scheme ^ s.levels) (IsNodeWord s region s.levels 1)
      (λ m pass. let here = child_passes s region m pass.yes in
      word_of_node s region s.levels m 0 1 is here.0 pass.low here.1 (lit< tt) (omega arith));
}

-- of two that are found the first has the lower key
tile_of_node : (s : Subtree) (l m mask : ℕ) → IsSubtree s → s.root.level + l < s.cut → mask < 2 ^ 16 → word_tile s.scheme (word s.scheme (node_at s l m) mask) ≡ node_at s l m
tile_of_node s l m mask is kept short = tile_of_word s.scheme (node_at s l m) mask (node_has_word s l m is kept) short

keys_rise : (s : Subtree) (l m n a b : ℕ) → IsSubtree s → s.root.level + l < s.cut → m < n → n < branching s.scheme ^ l → a < 2 ^ 16 → b < 2 ^ 16
    → is_key_below s.scheme (word_tile s.scheme (word s.scheme (node_at s l m) a)) (word_tile s.scheme (word s.scheme (node_at s l n) b)) ≡ true
keys_rise s l m n a b is kept low h short_a short_b =
    ap (λ t. is_key_below s.scheme t (word_tile s.scheme (word s.scheme (node_at s l n) b))) (tile_of_node s l m a is kept short_a)
    ∙ ap (λ t. is_key_below s.scheme (node_at s l m) t) (tile_of_node s l n b is kept short_b)
    ∙ below_by_index s.scheme (node_at s l m) (node_at s l n) (node_level s l m ∙ sym (node_level s l n))
    (omega (arith, node_index s l m (omega arith), node_index s l n h))

pairs_found : (test : ℕ → Bool) (value : ℕ → ℕ) (n : ℕ) (R : ℕ → ℕ → Type 0) → ((j k : ℕ) → Passes test n j → Passes test n k → j < k → R (value j) (value k))
    → AllPairs R (map value (filter test (range_with_len 0 n)))
pairs_found test value n R each = λ i j d low within.
    let xs = filter test (range_with_len 0 n) in
    let high : j < length xs = omega (arith, within, length-map xs value) in
    let before : i < length xs = omega arith in
    subst (λ w. R w (get_or (map value xs) j d)) (sym (get_or-map value xs i 0 d before))
    (subst (λ w. R (value (get_or xs i 0)) w) (sym (get_or-map value xs j 0 d high))
    (each (get_or xs i 0) (get_or xs j 0) (all_pass test n i 0 before) (all_pass test n j 0 high) (pairs_pass test n i j 0 low high)))

pub found_words_rise : (s : Subtree) (region : Region) → IsSubtree s → WordsRiseInKeyOrder s region
found_words_rise s region is = record {
  tiles = λ l. pairs_found (is_tile_in s region l) (node_word s l) (branching s.scheme ^ l) (λ v w. is_key_below s.scheme (word_tile s.scheme v) (word_tile s.scheme w) ≡ true)
      (λ m n one other low. keys_rise s l m n (contents_mask s l m) (contents_mask s l n) is (tile_passes s region l m one.yes).0 low other.low
      (omega (arith, contents_below s l m, few_masks s is)) (omega (arith, contents_below s l n, few_masks s is)));
  children = pairs_found (is_child_in s region) (child_word s) (branching s.scheme ^ s.levels) (λ v w. is_key_below s.scheme (word_tile s.scheme v) (word_tile s.scheme w) ≡ true)
      (λ m n one other low. keys_rise s s.levels m n 0 0 is (child_passes s region m one.yes).0 low other.low (lit< tt) (lit< tt));
}
