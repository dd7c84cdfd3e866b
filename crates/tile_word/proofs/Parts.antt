-- The parts of a word, as numbers.
use Rattle.std.proofs.Common.{◌≡◌, ℕ, ◌+◌, ◌-◌, ◌*◌, ◌/◌, ◌%◌, ◌^◌, ◌<◌, ap, ◌∙◌, arith, lit≤, lit<, bit_and, bit_or}
use Rattle.std.proofs.lemmas.Grind.{common_steps}
use Rattle.std.proofs.lemmas.Nat.{mod_below, or_shifted, shl_whole, shr_high, mod_low, shr-shr, shr_split}
use Rattle.tile_word.specs.Words.{IsFurther}

-- the two numbers of a word are the number of its parts
pub word_of_parts : (l m i : ℕ) → l < 2 ^ 48 → m < 2 ^ 16 → bit_or (l * 2 ^ 16 % 2 ^ 64) m * 2 ^ 64 + i ≡ l * 2 ^ 80 + m * 2 ^ 64 + i
word_of_parts l m i hl hm =
    let high : bit_or (l * 2 ^ 16 % 2 ^ 64) m ≡ l * 2 ^ 16 + m = ap (λ n. bit_or n m) (shl_whole l 48 16 64 hl (lit≤ tt)) ∙ or_shifted l 16 m hm in
    omega (arith, high)

pub level_of_parts : (l m i : ℕ) → m < 2 ^ 16 → i < 2 ^ 64 → (l * 2 ^ 80 + m * 2 ^ 64 + i) / 2 ^ 80 ≡ l
level_of_parts l m i hm hi =
    let apart : l * 2 ^ 80 + m * 2 ^ 64 + i ≡ l * 2 ^ 80 + (m * 2 ^ 64 + i) = omega arith in
    ap (λ w. w / 2 ^ 80) apart ∙ shr_high l 80 (m * 2 ^ 64 + i) (omega arith)

pub mask_of_parts : (l m i : ℕ) → m < 2 ^ 16 → i < 2 ^ 64 → (l * 2 ^ 80 + m * 2 ^ 64 + i) / 2 ^ 64 % 2 ^ 16 ≡ m
mask_of_parts l m i hm hi =
    let apart : l * 2 ^ 80 + m * 2 ^ 64 + i ≡ (l * 2 ^ 16 + m) * 2 ^ 64 + i = omega arith in
    ap (λ w. w / 2 ^ 64 % 2 ^ 16) apart ∙ ap (λ w. w % 2 ^ 16) (shr_high (l * 2 ^ 16 + m) 64 i hi) ∙ mod_low l 16 m hm

pub index_of_parts : (l m i : ℕ) → i < 2 ^ 64 → (l * 2 ^ 80 + m * 2 ^ 64 + i) % 2 ^ 64 ≡ i
index_of_parts l m i hi =
    let apart : l * 2 ^ 80 + m * 2 ^ 64 + i ≡ (l * 2 ^ 16 + m) * 2 ^ 64 + i = omega arith in
    ap (λ w. w % 2 ^ 64) apart ∙ mod_low (l * 2 ^ 16 + m) 64 i hi

-- and a number is that of its parts
pub parts_of_word : (w : ℕ) → w / 2 ^ 80 * 2 ^ 80 + w / 2 ^ 64 % 2 ^ 16 * 2 ^ 64 + w % 2 ^ 64 ≡ w
parts_of_word w =
    omega (arith, shr-shr w 64 16, shr_split (w / 2 ^ 64) 16, shr_split w 64)

-- a word so many places further
pub further : (w n : ℕ) → w % 2 ^ 64 + n < 2 ^ 64 → IsFurther w n (w + n)
further w n within =
    let l = w / 2 ^ 80 in
    let m = w / 2 ^ 64 % 2 ^ 16 in
    let i = w % 2 ^ 64 + n in
    let short : m < 2 ^ 16 = mod_below (w / 2 ^ 64) (2 ^ 16) (lit< tt) in
    let is : w + n ≡ l * 2 ^ 80 + m * 2 ^ 64 + i = omega (arith, parts_of_word w) in
    record {
      level = ap (λ v. v / 2 ^ 80) is ∙ level_of_parts l m i short within;
      mask = ap (λ v. v / 2 ^ 64 % 2 ^ 16) is ∙ mask_of_parts l m i short within;
      index = ap (λ v. v % 2 ^ 64) is ∙ index_of_parts l m i within;
    }

-- a word with its mask cleared, and nothing else
pub without_its_mask : (h l : ℕ) → h < 2 ^ 64 → l < 2 ^ 64
    → bit_and h (2 ^ 64 - 2 ^ 16) * 2 ^ 64 + l ≡ (h * 2 ^ 64 + l) / 2 ^ 80 * 2 ^ 80 + (h * 2 ^ 64 + l) % 2 ^ 64
without_its_mask h l hh hl = grind (arith, common_steps)
