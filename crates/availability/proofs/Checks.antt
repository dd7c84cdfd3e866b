-- The rules of a subtree, from its raw bits.
use Rattle.std.proofs.Common.{◌≡◌, ℕ, ◌+◌, ◌-◌, ◌/◌, ◌^◌, ◌<◌, ◌≤◌, List, Bool, true, false, length, get_or, take, refl, sym, ap, subst, ◌∙◌, arith, zero-add, inl, inr}
use Rattle.std.specs.Prelude.{◌&&◌, not}
use Rattle.std.specs.List.{range_with_len, list_any}
use Rattle.std.proofs.lemmas.Bool.{cases_lt, cases_Bool, and_left, and_right, and_from, not_from_true, not_from_false, lt-ltb, le-ltb, false_from_ne_true, both_ways}
use Rattle.std.proofs.lemmas.List.{get_or-take, length-take-le}
use Rattle.std.proofs.lemmas.List.Folds.{list_any_none, list_any_at}
use Rattle.std.proofs.lemmas.List.FromFn.{length-range_with_len, get_or-range_with_len}
use Rattle.implicit_tiling.specs.declared.Scheme.{Scheme}
use Rattle.implicit_tiling.specs.Tile.{branching}
use Rattle.implicit_tiling.specs.Availability.{nodes_above}
use Rattle.implicit_tiling.specs.Subtree.{Subtree, IsSubtree, is_kept, node_bit, has_tile, some_node, has_orphan, has_content_alone}
use Rattle.implicit_tiling.specs.Bits.{bit_at}
use Rattle.availability.specs.Rules.{IsKeptCount, node_raw_bit, raw_orphan}
use Rattle.bitstream.specs.Bits.{ones_of}
use Rattle.bitstream.proofs.Full.{all_true}
use Rattle.availability.proofs.Orphans.{parent_within}
use Rattle.availability.proofs.Places.{node_of_place, place_below, nodes_rise}

-- some node passes a test, or none does
node_at : (n : ℕ) (p : ℕ → Bool) (m : ℕ) → m < n → p m ≡ true → list_any p (range_with_len 0 n) ≡ true
node_at n p m h t =
    let low : m < length (range_with_len 0 n) = omega (arith, length-range_with_len 0 n) in
    list_any_at p (range_with_len 0 n) m 0 low (ap p (get_or-range_with_len 0 n m 0 h ∙ zero-add m) ∙ t)

node_none : (first n : ℕ) (p : ℕ → Bool) → ((m : ℕ) → first ≤ m → m < first + n → p m ≡ false) → list_any p (range_with_len first n) ≡ false
node_none first n p none =
    list_any_none p (range_with_len first n) (λ k d kh.
    let low : k < n = omega (arith, length-range_with_len first n) in
    ap p (get_or-range_with_len first n k d low) ∙ none (first + k) (omega arith) (omega arith))

pub some_node_at : (scheme : Scheme) (first count : ℕ) (test : ℕ → ℕ → Bool) (l m : ℕ) → first ≤ l → l < first + count → m < branching scheme ^ l → test l m ≡ true
    → some_node scheme first count test ≡ true
some_node_at scheme first count test l m low high within t =
    let p : ℕ → Bool = λ l. list_any (test l) (range_with_len 0 (branching scheme ^ l)) in
    let i_low : l - first < count = omega arith in
    let i_in : l - first < length (range_with_len first count) = omega (arith, length-range_with_len first count) in
    let back : first + (l - first) ≡ l = omega arith in
    list_any_at p (range_with_len first count) (l - first) 0 i_in
    (ap p (get_or-range_with_len first count (l - first) 0 i_low ∙ back) ∙ node_at (branching scheme ^ l) (test l) m within t)

pub some_node_none : (scheme : Scheme) (first count : ℕ) (test : ℕ → ℕ → Bool)
    → ((l m : ℕ) → first ≤ l → l < first + count → m < branching scheme ^ l → test l m ≡ false) → some_node scheme first count test ≡ false
some_node_none scheme first count test none =
    let p : ℕ → Bool = λ l. list_any (test l) (range_with_len 0 (branching scheme ^ l)) in
    node_none first count p (λ l low high. node_none 0 (branching scheme ^ l) (test l) (λ m zero_le within. none l m low high (omega arith)))

-- which local levels are kept
pub kept_true : (s : Subtree) (k l : ℕ) → IsKeptCount s k → l < k → is_kept s l ≡ true
kept_true s k l count low = lt-ltb (s.root.level + l) s.cut (omega (arith, count.low))

pub kept_false : (s : Subtree) (k l : ℕ) → IsKeptCount s k → l < s.levels → k ≤ l → is_kept s l ≡ false
kept_false s k l count low high = le-ltb (s.root.level + l) s.cut (let less : k < s.levels = omega arith in omega (arith, count.high less))

-- a node of a kept level without its parent, by the raw bits
orphan_kept : (s : Subtree) (l m : ℕ) → is_kept s l ≡ true → is_kept s (l - 1) ≡ true
    → (has_tile s l m && not (has_tile s (l - 1) (m / branching s.scheme))) ≡ raw_orphan s.scheme s.tiles l m
orphan_kept s l m own above =
    ap (λ k. (k && node_raw_bit s.scheme s.tiles l m) && not (has_tile s (l - 1) (m / branching s.scheme))) own
    ∙ ap (λ k. node_raw_bit s.scheme s.tiles l m && not (k && node_raw_bit s.scheme s.tiles (l - 1) (m / branching s.scheme))) above

pub orphan_in : (s : Subtree) (k l m : ℕ) → IsKeptCount s k → 1 ≤ l → l < k → m < branching s.scheme ^ l → raw_orphan s.scheme s.tiles l m ≡ true → has_orphan s ≡ true
orphan_in s k l m count one low within is =
    some_node_at s.scheme 1 (s.levels - 1) (λ l m. has_tile s l m && not (has_tile s (l - 1) (m / branching s.scheme))) l m one (omega (arith, count.within)) within
    (orphan_kept s l m (kept_true s k l count low) (kept_true s k (l - 1) count (omega arith)) ∙ is)

pub no_orphan : (s : Subtree) (k : ℕ) → IsKeptCount s k
    → ((l m : ℕ) → 1 ≤ l → l < k → m < branching s.scheme ^ l → raw_orphan s.scheme s.tiles l m ≡ false) → has_orphan s ≡ false
no_orphan s k count none =
    some_node_none s.scheme 1 (s.levels - 1) (λ l m. has_tile s l m && not (has_tile s (l - 1) (m / branching s.scheme))) (λ l m one high within.
    elim (cases_lt l k) [
      | inl low ↦ orphan_kept s l m (kept_true s k l count low) (kept_true s k (l - 1) count (omega arith)) ∙ none l m one low within
      | inr past ↦ and_left (has_tile s l m) (not (has_tile s (l - 1) (m / branching s.scheme)))
          (and_left (is_kept s l) (node_raw_bit s.scheme s.tiles l m) (kept_false s k l count (omega arith) past))
    ])

-- a content whose bit stands alone at a kept place
pub alone_in : (s : Subtree) (k c i : ℕ) (d : List Bool) → IsKeptCount s k → c < length s.contents → i < nodes_above s.scheme k
    → bit_at (get_or s.contents c d) i ≡ true → bit_at s.tiles i ≡ false → has_content_alone s ≡ true
alone_in s k c i d count low within one none =
    let node = node_of_place s.scheme k i within in
    let l = node.0 in
    let m = node.1 in
    let kept = kept_true s k l count node.2.low in
    some_node_at s.scheme 0 s.levels (λ l m. list_any (λ bits. node_bit s bits l m) s.contents && not (has_tile s l m)) l m (omega arith)
    (omega (arith, node.2.low, count.within)) node.2.within
    (and_from (list_any (λ bits. node_bit s bits l m) s.contents) (not (has_tile s l m))
    (list_any_at (λ bits. node_bit s bits l m) s.contents c d low
    (and_from (is_kept s l) (bit_at (get_or s.contents c d) (nodes_above s.scheme l + m)) kept (ap (bit_at (get_or s.contents c d)) node.2.is ∙ one)))
    (not_from_false (has_tile s l m) (and_right (is_kept s l) (bit_at s.tiles (nodes_above s.scheme l + m)) (ap (bit_at s.tiles) node.2.is ∙ none))))

pub no_content_alone : (s : Subtree) (k : ℕ) → IsKeptCount s k
    → ((c : ℕ) (d : List Bool) (i : ℕ) → c < length s.contents → i < nodes_above s.scheme k → bit_at (get_or s.contents c d) i ≡ true → bit_at s.tiles i ≡ true)
    → has_content_alone s ≡ false
no_content_alone s k count each =
    some_node_none s.scheme 0 s.levels (λ l m. list_any (λ bits. node_bit s bits l m) s.contents && not (has_tile s l m)) (λ l m zero_le high within.
    elim (cases_lt l k) [
      | inl low ↦ elim (cases_Bool (bit_at s.tiles (nodes_above s.scheme l + m))) [
        | inl there ↦ and_right (list_any (λ bits. node_bit s bits l m) s.contents) (not (has_tile s l m))
            (not_from_true (has_tile s l m) (and_from (is_kept s l) (bit_at s.tiles (nodes_above s.scheme l + m)) (kept_true s k l count low) there))
        | inr none ↦ and_left (list_any (λ bits. node_bit s bits l m) s.contents) (not (has_tile s l m))
            (list_any_none (λ bits. node_bit s bits l m) s.contents (λ c d ch.
            and_right (is_kept s l) (bit_at (get_or s.contents c d) (nodes_above s.scheme l + m))
            (false_from_ne_true (bit_at (get_or s.contents c d) (nodes_above s.scheme l + m))
            (λ one. both_ways (bit_at s.tiles (nodes_above s.scheme l + m)) none
            (each c d (nodes_above s.scheme l + m) ch (place_below s.scheme l k m low within) one)))))
      ]
      | inr past ↦ and_left (list_any (λ bits. node_bit s bits l m) s.contents) (not (has_tile s l m))
          (list_any_none (λ bits. node_bit s bits l m) s.contents (λ c d ch.
          and_left (is_kept s l) (bit_at (get_or s.contents c d) (nodes_above s.scheme l + m)) (kept_false s k l count (omega arith) past)))
    ])

-- ---- as the code sees it: s is what the fields say, and t the value that they make

pub orphan_seen : (s t : Subtree) (k l : ℕ) → s ≡ t → IsKeptCount t k → 1 ≤ l → l < k
    → (m : ℕ) × (m < branching s.scheme ^ l) × (raw_orphan s.scheme s.tiles l m ≡ true) → true ≡ has_orphan t
orphan_seen s t k l same count one low found =
    let own : IsKeptCount s k = subst (λ u. IsKeptCount u k) (sym same) count in
    sym (subst (λ u. has_orphan u ≡ true) same (orphan_in s k l found.0 own one low found.1 found.2))

pub tiles_long : (s t : Subtree) (k n : ℕ) → s ≡ t → IsSubtree s → IsKeptCount t k → n ≡ nodes_above s.scheme k → n ≤ length s.tiles
tiles_long s t k n same is count n_is =
    let own : IsKeptCount s k = subst (λ u. IsKeptCount u k) (sym same) count in
    omega (arith, nodes_rise s.scheme k s.levels own.within, is.tile_bits)

pub content_long : (s t : Subtree) (k n c : ℕ) (items : List (List Bool)) (item : List Bool) → s ≡ t → IsSubtree s → IsKeptCount t k → n ≡ nodes_above s.scheme k
    → items ≡ s.contents → c < length items → item ≡ get_or items c item → n ≤ length item
content_long s t k n c items item same is count n_is items_are low at =
    let own : IsKeptCount s k = subst (λ u. IsKeptCount u k) (sym same) count in
    let in_contents : c < length s.contents = subst (λ xs. c < length xs) items_are low in
    let long = is.content_bits c item in_contents in
    let same_item : item ≡ get_or s.contents c item = at ∙ ap (λ xs. get_or xs c item) items_are in
    omega (arith, nodes_rise s.scheme k s.levels own.within, long, ap length same_item)

pub alone_seen : (s t : Subtree) (k n c : ℕ) (items : List (List Bool)) (item : List Bool) → s ≡ t → IsKeptCount t k → n ≡ nodes_above s.scheme k
    → items ≡ s.contents → c < length items → item ≡ get_or items c item
    → (i : ℕ) × (i < n) × (bit_at item i ≡ true) × (bit_at s.tiles i ≡ false) → true ≡ has_content_alone t
alone_seen s t k n c items item same count n_is items_are low at found =
    let own : IsKeptCount s k = subst (λ u. IsKeptCount u k) (sym same) count in
    let in_contents : c < length s.contents = subst (λ xs. c < length xs) items_are low in
    let same_item : item ≡ get_or s.contents c item = at ∙ ap (λ xs. get_or xs c item) items_are in
    sym (subst (λ u. has_content_alone u ≡ true) same
    (alone_in s k c found.0 item own in_contents (subst (λ m. found.0 < m) n_is found.1) (ap (λ x. bit_at x found.0) (sym same_item) ∙ found.2) found.3))

pub none_alone : (s t : Subtree) (k n : ℕ) (items : List (List Bool)) → s ≡ t → IsKeptCount t k → n ≡ nodes_above s.scheme k → items ≡ s.contents
    → ((c : ℕ) (d : List Bool) (i : ℕ) → c < length items → i < n → bit_at (get_or items c d) i ≡ true → bit_at t.tiles i ≡ true)
    → false ≡ has_content_alone t
none_alone s t k n items same count n_is items_are each =
    let number : n ≡ nodes_above t.scheme k = n_is ∙ ap (λ (u : Subtree). nodes_above u.scheme k) same in
    let contents : items ≡ t.contents = items_are ∙ ap (λ (u : Subtree). u.contents) same in
    sym (no_content_alone t k count (λ c d i low below one.
    each c d i (subst (λ xs. c < length xs) (sym contents) low) (subst (λ m. i < m) (sym number) below) (ap (λ xs. bit_at (get_or xs c d) i) contents ∙ one)))

-- where all nodes are there, each has its parent
pub full_has_no_orphan : (s t : Subtree) (k n r : ℕ) → s ≡ t → IsSubtree s → IsKeptCount t k → n ≡ nodes_above s.scheme k → r ≡ ones_of (take n s.tiles) → r ≡ n → false ≡ has_orphan t
full_has_no_orphan s t k n r same is count n_is ones full =
    let own : IsKeptCount s k = subst (λ u. IsKeptCount u k) (sym same) count in
    let len : length (take n s.tiles) ≡ n = length-take-le n s.tiles (tiles_long s t k n same is count n_is) in
    let all : (i : ℕ) → i < n → bit_at s.tiles i ≡ true = λ i low.
    sym (get_or-take n s.tiles i false low) ∙ all_true (take n s.tiles) (sym ones ∙ full ∙ sym len) i (subst (λ m. i < m) (sym len) low) in
    sym (subst (λ u. has_orphan u ≡ false) same
    (no_orphan s k own (λ l m one low within.
    let above : l - 1 < k = omega arith in
    and_right (node_raw_bit s.scheme s.tiles l m) (not (node_raw_bit s.scheme s.tiles (l - 1) (m / branching s.scheme)))
    (not_from_true (node_raw_bit s.scheme s.tiles (l - 1) (m / branching s.scheme))
    (all (nodes_above s.scheme (l - 1) + m / branching s.scheme)
    (subst (λ a. nodes_above s.scheme (l - 1) + m / branching s.scheme < a) (sym n_is)
    (place_below s.scheme (l - 1) k (m / branching s.scheme) above (parent_within s.scheme l m (m / branching s.scheme) one within refl))))))))
