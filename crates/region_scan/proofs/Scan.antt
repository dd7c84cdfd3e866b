-- What a scan of the indices in their order has found so far.
use Rattle.std.proofs.Common.{◌≡◌, ℕ, zero, suc, ◌+◌, ◌-◌, ◌≤◌, List, [], ◌∷◌, ◌++◌, length, Bool, true, false, map, take, refl, sym, ap, ◌∙◌, arith, add-one, add-zero, append-nil, append_assoc, length-append, subst, cond}
use Rattle.std.specs.Prelude.{filter, nat_lt, Result, Ok, Err, IfErr}
use Rattle.std.specs.List.{range_with_len}
use Rattle.std.proofs.Math.Seq.{take-append_seam}
use Rattle.std.proofs.lemmas.Bool.{lt-ltb, le-ltb}
use Rattle.std.proofs.lemmas.List.{map-append, take_all}
use Rattle.std.proofs.lemmas.List.Elements.{filter-append}
use Rattle.bitstream.specs.Bits.{HasNoOne, IsFirstOne}
use Rattle.region_scan.specs.Found.{Extends}

-- the values of the first n indices that pass a test
abbrev pub hits : (ℕ → Bool) → (ℕ → ℕ) → ℕ → List ℕ
hits test value n = map value (filter test (range_with_len 0 n))

range_more : (a n : ℕ) → range_with_len a (suc n) ≡ range_with_len a n ++ (a + n) ∷ []
range_more a zero = ap (λ x. x ∷ []) (sym (add-zero a))
range_more a (suc n) =
    let next : a + 1 + n ≡ a + suc n = omega arith in
    ap (λ xs. a ∷ xs) (range_more (a + 1) n ∙ ap (λ x. range_with_len (a + 1) n ++ x ∷ []) next)

-- one more index
hits_more : (test : ℕ → Bool) (value : ℕ → ℕ) (n : ℕ) → hits test value (n + 1) ≡ hits test value n ++ map value (cond (test n) (n ∷ []) [])
hits_more test value n =
    let count : 0 + n ≡ n = omega arith in
    ap (λ k. hits test value k) (add-one n)
    ∙ ap (λ xs. map value (filter test xs)) (range_more 0 n ∙ ap (λ x. range_with_len 0 n ++ x ∷ []) count)
    ∙ ap (map value) (filter-append test (range_with_len 0 n) (n ∷ []))
    ∙ map-append value (filter test (range_with_len 0 n)) (filter test (n ∷ []))

hits_none : (test : ℕ → Bool) (value : ℕ → ℕ) (n : ℕ) → test n ≡ false → hits test value (n + 1) ≡ hits test value n
hits_none test value n is = hits_more test value n ∙ ap (λ b. hits test value n ++ map value (cond b (n ∷ []) [])) is ∙ append-nil (hits test value n)

hits_one : (test : ℕ → Bool) (value : ℕ → ℕ) (n : ℕ) → test n ≡ true → hits test value (n + 1) ≡ hits test value n ++ value n ∷ []
hits_one test value n is = hits_more test value n ∙ ap (λ b. hits test value n ++ map value (cond b (n ∷ []) [])) is

-- indices that don't pass
passed_over : (test : ℕ → Bool) (value : ℕ → ℕ) (n k : ℕ) → HasNoOne test n (n + k) → hits test value (n + k) ≡ hits test value n
passed_over test value n zero none = ap (λ j. hits test value j) (add-zero n)
passed_over test value n (suc k) none =
    let count : n + suc k ≡ n + k + 1 = omega arith in
    ap (λ j. hits test value j) count ∙ hits_none test value (n + k) (none (n + k) (omega arith) (omega arith))
    ∙ passed_over test value n k (λ i low high. none i low (omega (arith, high)))

pub hits_until : (test : ℕ → Bool) (value : ℕ → ℕ) (n m : ℕ) → n ≤ m → HasNoOne test n m → hits test value m ≡ hits test value n
hits_until test value n m le none =
    let sum : n + (m - n) ≡ m = omega arith in
    sym (ap (λ j. hits test value j) sum) ∙ passed_over test value n (m - n) (λ i low high. none i low (omega (arith, high, sum)))

-- up to the first one that passes, and with it
hits_with : (test : ℕ → Bool) (value : ℕ → ℕ) (n m p : ℕ) → IsFirstOne test n m p → hits test value (p + 1) ≡ hits test value n ++ value p ∷ []
hits_with test value n m p first = hits_one test value p first.one ∙ ap (λ xs. xs ++ value p ∷ []) (hits_until test value n p first.low first.before)

-- one step of a scan that appends what it finds
pub step_found : (test : ℕ → Bool) (value : ℕ → ℕ) (n m p w : ℕ) (old before after : List ℕ) → IsFirstOne test n m p → before ≡ old ++ hits test value n → w ≡ value p
    → after ≡ before ++ w ∷ [] → after ≡ old ++ hits test value (p + 1)
step_found test value n m p w old before after first so_far is pushed =
    pushed ∙ ap (λ xs. xs ++ w ∷ []) so_far ∙ append_assoc old (hits test value n) (w ∷ [])
    ∙ ap (λ x. old ++ (hits test value n ++ x ∷ [])) is ∙ ap (λ xs. old ++ xs) (sym (hits_with test value n m p first))

pub count_found : (test : ℕ → Bool) (value : ℕ → ℕ) (n m p : ℕ) → IsFirstOne test n m p → length (hits test value (p + 1)) ≡ length (hits test value n) + 1
count_found test value n m p first = ap length (hits_with test value n m p first) ∙ length-append (hits test value n) (value p ∷ [])

-- what was found stays at the front
hits_by : (test : ℕ → Bool) (value : ℕ → ℕ) (n k : ℕ) → Extends (hits test value n) (hits test value (n + k))
hits_by test value n zero = ([], ap (λ j. hits test value j) (add-zero n) ∙ sym (append-nil (hits test value n)))
hits_by test value n (suc k) =
    let before = hits_by test value n k in
    let last = map value (cond (test (n + k)) ((n + k) ∷ []) []) in
    let count : n + suc k ≡ n + k + 1 = omega arith in (
      before.0 ++ last,
      ap (λ j. hits test value j) count ∙ hits_more test value (n + k) ∙ ap (λ xs. xs ++ last) before.1 ∙ append_assoc (hits test value n) before.0 last,
    )

hits_front : (test : ℕ → Bool) (value : ℕ → ℕ) (n m : ℕ) → n ≤ m → Extends (hits test value n) (hits test value m)
hits_front test value n m le =
    let sum : n + (m - n) ≡ m = omega arith in
    subst (λ j. Extends (hits test value n) (hits test value j)) sum (hits_by test value n (m - n))

-- one more than the limit
pub over_limit : (test : ℕ → Bool) (value : ℕ → ℕ) (n m p limit : ℕ) → IsFirstOne test n m p → length (hits test value n) ≡ limit
    → (hits test value n ≡ take limit (hits test value m)) × (true ≡ nat_lt limit (length (hits test value m)))
over_limit test value n m p limit first count =
    let rest = hits_front test value (p + 1) m (omega (arith, first.high)) in
    let more = value p ∷ [] ++ rest.0 in
    let all : hits test value m ≡ hits test value n ++ more =
    rest.1 ∙ ap (λ xs. xs ++ rest.0) (hits_with test value n m p first) ∙ append_assoc (hits test value n) (value p ∷ []) rest.0 in (
      sym (ap (take limit) all ∙ ap (λ k. take k (hits test value n ++ more)) (sym count) ∙ take-append_seam (hits test value n) more),
      sym (lt-ltb limit (length (hits test value m)) (omega (arith, ap length all, length-append (hits test value n) more))),
    )

-- no more than the limit
pub within_limit : (xs : List ℕ) (limit : ℕ) → length xs ≤ limit → (xs ≡ take limit xs) × (false ≡ nat_lt limit (length xs))
within_limit xs limit le = (sym (take_all limit xs le), sym (le-ltb limit (length xs) le))

-- nothing passes
pub none_pass : {X : Type 0} (test : X → Bool) → ((x : X) → test x ≡ false) → (xs : List X) → filter test xs ≡ []
none_pass test none [] = refl
none_pass test none (x ∷ xs) = ap (λ b. cond b (x ∷ filter test xs) (filter test xs)) (none x) ∙ none_pass test none xs

-- what holds of each error
pub if_err : {A E : Type 0} (P : E → Type 0) (r : Result A E) → ((e : E) → P e) → IfErr r P
if_err P (Ok a) each = tt
if_err P (Err e) each = each e
