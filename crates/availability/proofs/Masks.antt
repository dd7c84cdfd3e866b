-- Masks of bits, one more bit at a time.
use mir.Val.{bool_byte}
use Rattle.std.proofs.Common.{◌≡◌, ℕ, suc, ◌+◌, ◌*◌, ◌%◌, ◌^◌, ◌<◌, ◌≤◌, List, [], ◌∷◌, ◌++◌, length, Bool, true, false, refl, sym, ap, ◌∙◌, arith, lit<, bit_or, map, add-one, add-zero, zero-add, get_or, take, subst}
use Rattle.std.specs.Prelude.{◌&&◌, if◌then◌else◌}
use Rattle.std.proofs.Math.Nat.{pow-suc}
use Rattle.std.proofs.lemmas.Nat.{or_comm, or_shifted, shl_whole}
use Rattle.std.proofs.lemmas.List.{map-append, length-map, length-take-le, take_more}
use Rattle.implicit_tiling.specs.Availability.{nodes_above}
use Rattle.implicit_tiling.specs.Subtree.{Subtree, is_kept, mask_of_bits, contents_mask}
use Rattle.implicit_tiling.specs.Bits.{bit_at}

abbrev pub digit : Bool → ℕ
digit true = 1
digit false = 0

-- a bit as a byte
pub byte_of_bit : (b : Bool) → bool_byte b ≡ digit b
byte_of_bit true = refl
byte_of_bit false = refl

worth_is : (b : Bool) (c : ℕ) → (if b then 2 ^ c else 0) ≡ digit b * 2 ^ c
worth_is true c = omega arith
worth_is false c = omega arith

pub mask_more : (c : ℕ) (xs : List Bool) (b : Bool) → mask_of_bits c (xs ++ b ∷ []) ≡ mask_of_bits c xs + digit b * 2 ^ (c + length xs)
mask_more c [] b = omega (arith, worth_is b c, ap (λ e. digit b * 2 ^ e) (add-zero c))
mask_more c (x ∷ xs) b =
    let count : c + 1 + length xs ≡ c + suc (length xs) = omega arith in
    omega (arith, mask_more (c + 1) xs b, ap (λ e. digit b * 2 ^ e) count)

worth_fits : (b : Bool) (c : ℕ) → (if b then 2 ^ c else 0) ≤ 2 ^ c
worth_fits true c = omega arith
worth_fits false c = omega arith

mask_fits : (c : ℕ) (xs : List Bool) → mask_of_bits c xs + 2 ^ c ≤ 2 ^ (c + length xs)
mask_fits c [] = omega (arith, ap (λ e. 2 ^ e) (add-zero c))
mask_fits c (x ∷ xs) =
    let count : c + 1 + length xs ≡ c + suc (length xs) = omega arith in
    omega (arith, mask_fits (c + 1) xs, ap (λ e. 2 ^ e) count, ap (λ e. 2 ^ e) (add-one c), pow-suc 2 c, worth_fits x c)

pub mask_below : (xs : List Bool) (n : ℕ) → length xs ≡ n → mask_of_bits 0 xs < 2 ^ n
mask_below xs n is = omega (arith, mask_fits 0 xs, ap (λ e. 2 ^ e) is, ap (λ e. 2 ^ e) (let sum : 0 + length xs ≡ length xs = omega arith in sum))

digit_short : (b : Bool) → digit b < 2 ^ 1
digit_short true = lit< tt
digit_short false = lit< tt

-- a mask with one more bit above the others
pub bit_above : (m c : ℕ) (b : Bool) → m < 2 ^ c → c < 16 → bit_or m (digit b * 2 ^ c % 2 ^ 16) ≡ m + digit b * 2 ^ c
bit_above m c b h low =
    let fits : 1 + c ≤ 16 = omega arith in
    let sum : digit b * 2 ^ c + m ≡ m + digit b * 2 ^ c = omega arith in
    ap (λ n. bit_or m n) (shl_whole (digit b) 1 c 16 (digit_short b) fits) ∙ or_comm m (digit b * 2 ^ c) ∙ or_shifted (digit b) c m h ∙ sum

-- no content where the level isn't kept
pub mask_of_none : {X : Type 0} (c : ℕ) (f : X → Bool) (xs : List X) → mask_of_bits c (map (λ x. false && f x) xs) ≡ 0
mask_of_none c f [] = refl
mask_of_none c f (x ∷ xs) = omega (arith, mask_of_none (c + 1) f xs)

-- one more content, as at a step of a loop
pub mask_step : (contents : List (List Bool)) (place i m v : ℕ) (item : List Bool) (b : Bool) → i < length contents → length contents ≤ 16
    → get_or contents i item ≡ item → b ≡ bit_at item place → v ≡ digit b → m ≡ mask_of_bits 0 (map (λ bits. bit_at bits place) (take i contents))
    → bit_or m (v * 2 ^ i % 2 ^ 16) ≡ mask_of_bits 0 (map (λ bits. bit_at bits place) (take (i + 1) contents))
mask_step contents place i m v item b low few at bit v_is so_far =
    let ones = map (λ bits. bit_at bits place) (take i contents) in
    let count : length ones ≡ i = length-map (take i contents) (λ bits. bit_at bits place) ∙ length-take-le i contents (omega arith) in
    let short : m < 2 ^ i = subst (λ n. n < 2 ^ i) (sym so_far) (mask_below ones i count) in
    let more : take (i + 1) contents ≡ take i contents ++ item ∷ [] = take_more contents i item low ∙ ap (λ x. take i contents ++ x ∷ []) at in
    ap (λ n. bit_or m (n * 2 ^ i % 2 ^ 16)) v_is ∙ bit_above m i b short (omega arith)
    ∙ ap (λ n. n + digit b * 2 ^ i) so_far ∙ ap (λ e. mask_of_bits 0 ones + digit b * 2 ^ e) (sym (zero-add (length ones) ∙ count))
    ∙ sym (mask_more 0 ones b) ∙ ap (λ x. mask_of_bits 0 (ones ++ x ∷ [])) bit
    ∙ ap (mask_of_bits 0) (sym (ap (map (λ bits. bit_at bits place)) more ∙ map-append (λ bits. bit_at bits place) (take i contents) (item ∷ [])))

pub no_contents : (s : Subtree) (l m : ℕ) → is_kept s l ≡ false → 0 ≡ contents_mask s l m
no_contents s l m not_kept =
    sym (ap (λ k. mask_of_bits 0 (map (λ bits. k && bit_at bits (nodes_above s.scheme l + m)) s.contents)) not_kept
    ∙ mask_of_none 0 (λ bits. bit_at bits (nodes_above s.scheme l + m)) s.contents)

pub kept_contents : (s t : Subtree) (l m n : ℕ) (contents : List (List Bool)) → s ≡ t → contents ≡ s.contents → n ≡ nodes_above s.scheme l → is_kept t l ≡ true
    → mask_of_bits 0 (map (λ bits. bit_at bits (n + m)) contents) ≡ contents_mask t l m
kept_contents s t l m n contents same contents_are n_is kept =
    ap (λ xs. mask_of_bits 0 (map (λ bits. bit_at bits (n + m)) xs)) contents_are
    ∙ ap (λ a. mask_of_bits 0 (map (λ bits. bit_at bits (a + m)) s.contents)) n_is
    ∙ ap (λ (u : Subtree). mask_of_bits 0 (map (λ bits. bit_at bits (nodes_above u.scheme l + m)) u.contents)) same
    ∙ sym (ap (λ k. mask_of_bits 0 (map (λ bits. k && bit_at bits (nodes_above t.scheme l + m)) t.contents)) kept)
