-- Words whose bits are bits of one number: which of them stands at each place, and what a step of a spreading or a
-- gathering does to that. So that four walks through masks are four computed tables.
use Rattle.std.proofs.Common.{◌≡◌, ℕ, zero, suc, ◌+◌, ◌-◌, ◌*◌, ◌/◌, ◌%◌, ◌^◌, ◌<◌, ◌≤◌, Bool, true, false, List, [], ◌∷◌, ◌++◌, refl, sym, ap, ◌∙◌, arith, max, min, bit_and, bit_or, add-zero, zero-add, map, get_or}
use Rattle.std.specs.Prelude.{nat_lt}
use Rattle.std.specs.List.{range_with_len}
use Rattle.std.proofs.lemmas.List.FromFn.{get_or-map-range_with_len}
use Rattle.std.proofs.lemmas.Bool.{ltb-true, ltb-false}
use Rattle.std.proofs.Math.Nat.{div-div-eq-div-mul}
use Rattle.std.proofs.lemmas.Nat.{pow-add, pow_pos, div-add-mod'}
use Rattle.std.proofs.lemmas.Nat.Bits.{bit_at-lt, bit_at_or, bit_at_and, bit_at-zero, bit_at_above, bit_at_cat_low, bit_at_cat_high}
use Rattle.implicit_tiling.specs.Tile.{bit}

-- the greatest of some bits of a number, 0 where there are none
abbrev pub shown : ℕ → List ℕ → ℕ
shown x [] = 0
shown x (k ∷ ks) = max (bit k x) (shown x ks)

-- at each place of the word stands the greatest of the bits of x that the table has there
pub record Shows (x word : ℕ) (table : ℕ → List ℕ) : Type 0 where
  pub each : (i : ℕ) → bit i word ≡ shown x (table i)

abbrev pub unless : Bool → List ℕ → List ℕ
unless true ks = []
unless false ks = ks

-- what a bit of a mask leaves
abbrev pub masked : ℕ → List ℕ → List ℕ
masked zero ks = []
masked (suc b) ks = ks

-- the table of a number itself, and of its places below n
abbrev pub itself : ℕ → List ℕ
itself i = i ∷ []

abbrev pub itself_below : ℕ → ℕ → List ℕ
itself_below n i = unless (nat_lt (n - 1) i) (i ∷ [])

abbrev pub kept : ℕ → ℕ → ℕ
kept mask word = bit_and word mask

abbrev pub kept_table : ℕ → (ℕ → List ℕ) → ℕ → List ℕ
kept_table mask table i = masked (bit i mask) (table i)

-- a word beside itself, s places up or down
abbrev pub up : ℕ → ℕ → ℕ
up s word = bit_or word (word * 2 ^ s % 2 ^ 64)

abbrev pub up_table : ℕ → (ℕ → List ℕ) → ℕ → List ℕ
up_table s table i = table i ++ unless (nat_lt i s) (table (i - s))

abbrev pub down : ℕ → ℕ → ℕ
down s word = bit_or word (word / 2 ^ s)

abbrev pub down_table : ℕ → (ℕ → List ℕ) → ℕ → List ℕ
down_table s table i = table i ++ table (s + i)

shown_append : (x : ℕ) (ks ls : List ℕ) → shown x (ks ++ ls) ≡ max (shown x ks) (shown x ls)
shown_append x [] ls = omega arith
shown_append x (k ∷ ks) ls = omega (arith, shown_append x ks ls)

shown_below : (x : ℕ) (ks : List ℕ) → shown x ks < 2
shown_below x [] = omega arith
shown_below x (k ∷ ks) = omega (arith, bit_at-lt x k, shown_below x ks)

shown_masked : (x b : ℕ) (ks : List ℕ) → b < 2 → min (shown x ks) b ≡ shown x (masked b ks)
shown_masked x zero ks h = omega arith
shown_masked x (suc b) ks h = omega (arith, shown_below x ks)

-- ---- words that show what the tables say

pub shows_itself : (x : ℕ) → Shows x x itself
shows_itself x = record { each = λ i. omega arith }

itself_below_at : (x n i : ℕ) (b : Bool) → nat_lt (n - 1) i ≡ b → x < 2 ^ n → bit i x ≡ shown x (unless b (i ∷ []))
itself_below_at x n i true e h = bit_at_above x n i h (omega (arith, ltb-true (n - 1) i e))
itself_below_at x n i false e h = omega arith

pub shows_itself_below : (x n : ℕ) → x < 2 ^ n → Shows x x (itself_below n)
shows_itself_below x n h = record { each = λ i. itself_below_at x n i (nat_lt (n - 1) i) refl h }

pub shows_kept : {x word : ℕ} {table : ℕ → List ℕ} (mask : ℕ) → Shows x word table → Shows x (kept mask word) (kept_table mask table)
shows_kept {x} {word} {table} mask s = record {
  each = λ i.
      bit_at_and word mask i
      ∙ ap (λ b. min b (bit i mask)) (s.each i)
      ∙ shown_masked x (bit i mask) (table i) (bit_at-lt mask i);
}

below_shift : (word s i : ℕ) → i < s → bit i (word * 2 ^ s) ≡ 0
below_shift word s i h = ap (bit i) (sym (add-zero (word * 2 ^ s))) ∙ bit_at_cat_low word s 0 i h ∙ bit_at-zero i

above_shift : (word s i : ℕ) → s ≤ i → bit i (word * 2 ^ s) ≡ bit (i - s) word
above_shift word s i h = ap (bit i) (sym (add-zero (word * 2 ^ s))) ∙ bit_at_cat_high word s 0 i (pow_pos s) h

low_bit : (n k i : ℕ) → i < k → bit i (n % 2 ^ k) ≡ bit i n
low_bit n k i h = sym (bit_at_cat_low (n / 2 ^ k) k (n % 2 ^ k) i h) ∙ ap (bit i) (div-add-mod' n (2 ^ k))

pub down_bit : (word s i : ℕ) → bit i (word / 2 ^ s) ≡ bit (s + i) word
down_bit word s i = ap (λ n. n % 2) (div-div-eq-div-mul word (2 ^ s) (2 ^ i) ∙ ap (λ p. word / p) (sym (pow-add 2 s i)))

up_at : (x word s i : ℕ) (table : ℕ → List ℕ) (b : Bool) → nat_lt i s ≡ b → Shows x word table
    → bit i (word * 2 ^ s) ≡ shown x (unless b (table (i - s)))
up_at x word s i table true e shows = below_shift word s i (ltb-true i s e)
up_at x word s i table false e shows = above_shift word s i (ltb-false i s e) ∙ shows.each (i - s)

spread_at : (x word s mask i : ℕ) (table : ℕ → List ℕ) (b : Bool) → nat_lt i 64 ≡ b → mask < 2 ^ 64 → Shows x word table
    → min (bit i (up s word)) (bit i mask) ≡ min (shown x (up_table s table i)) (bit i mask)
spread_at x word s mask i table true e h shows =
    let below : i < 64 = ltb-true i 64 e in
    ap (λ b. min b (bit i mask))
    (bit_at_or word (word * 2 ^ s % 2 ^ 64) i
    ∙ ap (λ b. max b (bit i (word * 2 ^ s % 2 ^ 64))) (shows.each i)
    ∙ ap (max (shown x (table i))) (low_bit (word * 2 ^ s) 64 i below ∙ up_at x word s i table (nat_lt i s) refl shows)
    ∙ sym (shown_append x (table i) (unless (nat_lt i s) (table (i - s)))))
spread_at x word s mask i table false e h shows =
    let none : bit i mask ≡ 0 = bit_at_above mask 64 i h (ltb-false i 64 e) in
    omega (arith, none)

pub shows_spread : {x word : ℕ} {table : ℕ → List ℕ} (s mask : ℕ) → mask < 2 ^ 64 → Shows x word table
    → Shows x (kept mask (up s word)) (kept_table mask (up_table s table))
shows_spread {x} {word} {table} s mask h shows = record {
  each = λ i.
      bit_at_and (up s word) mask i
      ∙ spread_at x word s mask i table (nat_lt i 64) refl h shows
      ∙ shown_masked x (bit i mask) (up_table s table i) (bit_at-lt mask i);
}

pub shows_down : {x word : ℕ} {table : ℕ → List ℕ} (s : ℕ) → Shows x word table → Shows x (down s word) (down_table s table)
shows_down {x} {word} {table} s shows = record {
  each = λ i.
      bit_at_or word (word / 2 ^ s) i
      ∙ ap (λ b. max b (bit i (word / 2 ^ s))) (shows.each i)
      ∙ ap (max (shown x (table i))) (down_bit word s i ∙ shows.each (s + i))
      ∙ sym (shown_append x (table i) (table (s + i)));
}

pub shows_gathered : {x word : ℕ} {table : ℕ → List ℕ} (s mask : ℕ) → Shows x word table
    → Shows x (kept mask (down s word)) (kept_table mask (down_table s table))
shows_gathered s mask shows = shows_kept mask (shows_down s shows)

-- two tables that are the same up to n agree at each place below n
pub agree : (n : ℕ) (f g : ℕ → List ℕ) → map f (range_with_len 0 n) ≡ map g (range_with_len 0 n) → (i : ℕ) → i < n → f i ≡ g i
agree n f g e i h =
    sym (get_or-map-range_with_len f 0 n i i [] h (zero-add i))
    ∙ ap (λ l. get_or l i []) e
    ∙ get_or-map-range_with_len g 0 n i i [] h (zero-add i)
