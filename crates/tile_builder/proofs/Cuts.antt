-- Words whose keys rise, cut where a number stands among the keys.
use Rattle.std.proofs.Common.{◌≡◌, ℕ, ◌+◌, ◌-◌, ◌<◌, ◌≤◌, Bool, true, false, List, ◌++◌, length, take, drop, get_or, length-take, length-drop, add-zero, append-nil, sym, ap, subst, ◌∙◌, arith, inl, inr}
use Rattle.std.specs.Prelude.{slice_index, nat_lt, nat_le, filter}
use Rattle.std.specs.List.{All}
use Rattle.std.specs.List.Sorted.{IsPartitionPoint}
use Rattle.std.proofs.lemmas.Bool.{cases_lt, and_from, and_left, and_right, ltb-true, ltb-false, lt-ltb, le-ltb, le-leb, lt-leb}
use Rattle.std.proofs.lemmas.List.Elements.{All-from_get_or, All-weaker, All-same, All-take, All-drop, filter-append}
use Rattle.std.proofs.lemmas.List.Folds.{drop_split}
use Rattle.std.proofs.lemmas.Slice.{between_is}
use Rattle.std.proofs.lemmas.List.{get_or-take, get_or-drop, take-append-drop}
use Rattle.walk_laws.proofs.Lists.{filter_none, filter_all}
use Rattle.tile_word.specs.Words.{word_key}
use Rattle.tile_builder.specs.Runs.{is_key_in}

-- words that are cut where a test of their keys ends
pub all_lower : (ws : List ℕ) (n k : ℕ) → n ≤ length ws → IsPartitionPoint (λ w. nat_lt (word_key w) k ≡ true) (λ w. nat_lt (word_key w) k ≡ false) ws n
    → All (λ w. word_key w < k) (take n ws)
all_lower ws n k within cut =
    All-from_get_or (λ w. word_key w < k) (take n ws) 0
    (λ i h. let below : i < n = omega (arith, h, length-take n ws) in
    subst (λ w. word_key w < k) (sym (get_or-take n ws i 0 below)) (ltb-true (word_key (slice_index ws i)) k (cut.0 i 0 (omega arith) below)))

pub none_lower : (ws : List ℕ) (n k : ℕ) → IsPartitionPoint (λ w. nat_lt (word_key w) k ≡ true) (λ w. nat_lt (word_key w) k ≡ false) ws n → All (λ w. k ≤ word_key w) (drop n ws)
none_lower ws n k cut =
    All-from_get_or (λ w. k ≤ word_key w) (drop n ws) 0
    (λ i h. subst (λ w. k ≤ word_key w) (sym (get_or-drop n ws i 0))
    (ltb-false (word_key (slice_index ws (n + i))) k (cut.1 (n + i) 0 (omega arith) (omega (arith, h, length-drop n ws)))))

-- the cut at a number is not behind that at a greater one
pub cuts_in_order : (ws : List ℕ) (a b k n : ℕ) → a ≤ length ws → b ≤ length ws → All (λ w. word_key w < k) (take a ws)
    → All (λ w. k + n ≤ word_key w) (drop b ws) → a ≤ b
cuts_in_order ws a b k n start end lower others =
    elim (cases_lt b a) [
      | inr le ↦ le
      | inl less ↦
          let w = get_or ws b 0 in
          let before : word_key w < k = subst (λ v. word_key v < k) (get_or-take a ws b 0 less) (lower b 0 (omega (arith, less, start, length-take a ws))) in
          let behind : k + n ≤ word_key w = subst (λ j. k + n ≤ word_key (get_or ws j 0)) (add-zero b)
          (subst (λ v. k + n ≤ word_key v) (get_or-drop b ws 0 0) (others 0 0 (omega (arith, less, start, length-drop b ws)))) in
          absurd (omega (arith, before, behind))
    ]

-- what stands between two cuts
pub between_is_filter : {X : Type 0} (test : X → Bool) (ws : List X) (a b : ℕ) → a ≤ b → All (λ w. test w ≡ false) (take a ws) → All (λ w. test w ≡ true) (take (b - a) (drop a ws))
    → All (λ w. test w ≡ false) (drop b ws) → take (b - a) (drop a ws) ≡ filter test ws
between_is_filter test ws a b order before inside behind =
    let mid = take (b - a) (drop a ws) in
    let parts : ws ≡ take a ws ++ (mid ++ drop b ws) = sym (take-append-drop a ws) ∙ ap (λ v. take a ws ++ v) (drop_split ws a b order) in
    let last : filter test (mid ++ drop b ws) ≡ mid =
    filter-append test mid (drop b ws) ∙ ap (λ v. filter test mid ++ v) (filter_none test (drop b ws) behind) ∙ append-nil (filter test mid) ∙ filter_all test mid inside in
    sym (ap (filter test) parts ∙ filter-append test (take a ws) (mid ++ drop b ws) ∙ ap (λ v. v ++ filter test (mid ++ drop b ws)) (filter_none test (take a ws) before) ∙ last)

pub keys_between : (ws : List ℕ) (a b k n : ℕ) → a ≤ b → All (λ w. word_key w < k) (take a ws) → All (λ w. k ≤ word_key w) (drop a ws)
    → All (λ w. word_key w < k + n) (take b ws) → All (λ w. k + n ≤ word_key w) (drop b ws) → take (b - a) (drop a ws) ≡ filter (is_key_in k n) ws
keys_between ws a b k n order before from upto behind =
    let test = is_key_in k n in
    let mid = take (b - a) (drop a ws) in
    let inside : All (λ w. word_key w < k + n) mid = All-same (λ w. word_key w < k + n) mid (drop a (take b ws)) (between_is ws a b) (All-drop (λ w. word_key w < k + n) a (take b ws) upto) in
    let starts : All (λ w. k ≤ word_key w) mid = All-take (λ w. k ≤ word_key w) (b - a) (drop a ws) from in
    between_is_filter test ws a b order
    (All-weaker (λ w. word_key w < k) (λ w. test w ≡ false) (λ w h. and_left (nat_le k (word_key w)) (nat_lt (word_key w) (k + n)) (lt-leb k (word_key w) h)) (take a ws) before)
    (λ i d h. and_from (nat_le k (word_key (get_or mid i d))) (nat_lt (word_key (get_or mid i d)) (k + n)) (le-leb k (word_key (get_or mid i d)) (starts i d h))
    (lt-ltb (word_key (get_or mid i d)) (k + n) (inside i d h)))
    (All-weaker (λ w. k + n ≤ word_key w) (λ w. test w ≡ false) (λ w h. and_right (nat_le k (word_key w)) (nat_lt (word_key w) (k + n)) (le-ltb (word_key w) (k + n) h)) (drop b ws) behind)
