-- The bytes that bits fill: their digits, and what makes them so.
use Rattle.std.proofs.Common.{◌≡◌, ◌≢◌, ◌⊎◌, ◌∙◌, ℕ, zero, suc, ◌+◌, ◌-◌, ◌*◌, ◌/◌, ◌%◌, ◌^◌, ◌<◌, ◌≤◌, Bool, true, false, cond, eqb, List, ◌++◌, length, get_or, set, take, replicate, length-append, length-take, length-set, get_or-set_other, get_or-set_same, refl, sym, ap, inl, inr, arith}
use Rattle.std.specs.Int.{bit_at as digit_at}
use Rattle.std.proofs.Math.Nat.{pow-suc}
use Rattle.std.proofs.lemmas.Bool.{cases_lt}
use Rattle.std.proofs.lemmas.Nat.{mod_below, pow_pos, div-add-mod'}
use Rattle.std.proofs.lemmas.Nat.Bits.{bit_at_cat_low, bit_at_cat_high, bit_at_above, same_from_bits, bit_at-zero, bit_at-lt, bit_at_ones}
use Rattle.std.proofs.lemmas.List.{ext_get_or, get_or_past, get_or-take, get_or-append-add, set-append_right, get_or-replicate, length-replicate}
use Rattle.std.proofs.lemmas.List.FromFn.{length-map-range_with_len, get_or-map-range_with_len}
use Rattle.bitstream.specs.Bits.{bits_of_bytes}
use Rattle.implicit_tiling.specs.Bits.{bit_at, bit_of_bytes, digit_of_bytes}
use Rattle.bitstream.specs.Bytes.{number_of_bits, bytes_filled, byte_of_bits, bytes_of_bits}
use Rattle.bitstream.proofs.Lists.{length-bits_of_bytes, bit_at-bits_of_bytes, bit_at-replicate}
use Rattle.bitstream.proofs.Ones.{digit_again}
use Rattle.bitstream.proofs.Search.{bit-take}

-- ---- the number of some bits

worth : (b : Bool) (p : ℕ) → cond b p 0 ≡ cond b 1 0 * p
worth true p = omega arith
worth false p = omega arith

one_or_none : (b : Bool) → cond b 1 0 < 2
one_or_none true = omega arith
one_or_none false = omega arith

pub number_of_bits-lt : (bit : ℕ → Bool) (n : ℕ) → number_of_bits bit n < 2 ^ n
number_of_bits-lt bit zero = omega arith
number_of_bits-lt bit (suc n) =
    let more : 2 ^ suc n ≡ 2 * 2 ^ n = pow-suc 2 n ∙ omega arith in
    let last : cond (bit n) (2 ^ n) 0 ≤ 2 ^ n = elim (bit n) as (λ b. cond b (2 ^ n) 0 ≤ 2 ^ n) [ true ↦ omega arith | false ↦ omega arith ] in
    omega (arith, more, last, number_of_bits-lt bit n)

digit_of_bit : (b : Bool) → digit_at (cond b 1 0) 0 ≡ cond b 1 0
digit_of_bit true = refl
digit_of_bit false = refl

pub digit-number_of_bits : (bit : ℕ → Bool) (n j : ℕ) → j < n → digit_at (number_of_bits bit n) j ≡ cond (bit j) 1 0
digit-number_of_bits bit zero j h = absurd (omega arith)
digit-number_of_bits bit (suc n) j h =
    let low = number_of_bits bit n in
    let high = cond (bit n) 1 0 in
    let swapped : low + cond (bit n) (2 ^ n) 0 ≡ high * 2 ^ n + low = omega (arith, worth (bit n) (2 ^ n)) in
    ap (λ k. digit_at k j) swapped ∙
    elim (cases_lt j n) [
      | inl lt ↦ bit_at_cat_low high n low j lt ∙ digit-number_of_bits bit n j lt
      | inr ge ↦
          let here : j ≡ n = omega arith in
          let none : j - n ≡ 0 = omega arith in
          bit_at_cat_high high n low j (number_of_bits-lt bit n) ge ∙ ap (digit_at high) none ∙ digit_of_bit (bit n) ∙ ap (λ k. cond (bit k) 1 0) (sym here)
    ]

-- a byte that has these bits, cut after the first r
pub number_of_bits-cut : (bit : ℕ → Bool) (b n r : ℕ) → r ≤ n → ((j : ℕ) → j < r → digit_at b j ≡ cond (bit j) 1 0) → ((j : ℕ) → r ≤ j → j < n → bit j ≡ false) → number_of_bits bit n ≡ b % 2 ^ r
number_of_bits-cut bit b n r few same none =
    same_from_bits (number_of_bits bit n) (b % 2 ^ r) (λ j.
    elim (cases_lt j r) [
      | inl lt ↦ digit-number_of_bits bit n j (omega arith) ∙ sym (same j lt) ∙ sym (below j lt)
      | inr ge ↦ past j ge ∙ sym (bit_at_above (b % 2 ^ r) r j (mod_below b (2 ^ r) (pow_pos r)) ge)
    ])
  where
    whole : (b / 2 ^ r) * 2 ^ r + b % 2 ^ r ≡ b
    whole = div-add-mod' b (2 ^ r)

    below : (j : ℕ) → j < r → digit_at (b % 2 ^ r) j ≡ digit_at b j
    below j lt = sym (bit_at_cat_low (b / 2 ^ r) r (b % 2 ^ r) j lt) ∙ ap (λ k. digit_at k j) whole

    past : (j : ℕ) → r ≤ j → digit_at (number_of_bits bit n) j ≡ 0
    past j ge = elim (cases_lt j n) [
      | inl lt ↦ digit-number_of_bits bit n j lt ∙ ap (λ c. cond c 1 0) (none j ge lt)
      | inr over ↦ bit_at_above (number_of_bits bit n) n j (number_of_bits-lt bit n) over
    ]

-- ---- the bytes

pub length-bytes_of_bits : (bits : List Bool) → length (bytes_of_bits bits) ≡ bytes_filled (length bits)
length-bytes_of_bits bits = length-map-range_with_len (byte_of_bits bits) 0 (bytes_filled (length bits))

pub get_or-bytes_of_bits : (bits : List Bool) (k : ℕ) → k < bytes_filled (length bits) → get_or (bytes_of_bits bits) k 0 ≡ byte_of_bits bits k
get_or-bytes_of_bits bits k h = get_or-map-range_with_len (byte_of_bits bits) 0 (bytes_filled (length bits)) k k 0 h (omega arith)

bit_again : (b : Bool) → eqb (cond b 1 0) 1 ≡ b
bit_again true = refl
bit_again false = refl

pub bit-bytes_of_bits : (bits : List Bool) (i : ℕ) → i < length bits → bit_of_bytes (bytes_of_bits bits) i ≡ bit_at bits i
bit-bytes_of_bits bits i h =
    let place : 8 * (i / 8) + i % 8 ≡ i = omega arith in
    let byte = get_or-bytes_of_bits bits (i / 8) (omega arith) in
    ap (λ b. eqb (digit_at b (i % 8)) 1) byte
    ∙ ap (λ d. eqb d 1) (digit-number_of_bits (λ j. bit_at bits (8 * (i / 8) + j)) 8 (i % 8) (omega arith))
    ∙ bit_again (bit_at bits (8 * (i / 8) + i % 8)) ∙ ap (bit_at bits) place

-- they have the bits
pub bits_of_bytes-bytes_of_bits : (bits : List Bool) → bits_of_bytes (bytes_of_bits bits) (length bits) ≡ bits
bits_of_bytes-bytes_of_bits bits =
    let bytes = bytes_of_bits bits in
    let many = length-bits_of_bytes bytes (length bits) in
    ext_get_or false (bits_of_bytes bytes (length bits)) bits many
    (λ i h. let lt : i < length bits = omega (arith, many) in bit_at-bits_of_bytes bytes (length bits) i lt ∙ bit-bytes_of_bits bits i lt)

-- ---- what makes some bytes those of the bits

-- so many bytes as `count` bits fill, whose first bits are those
pub record HaveBits (bytes : List ℕ) (bits : List Bool) (count : ℕ) : Type 0 where
  pub many : length bits ≡ count
  pub filled : length bytes ≡ bytes_filled count
  pub fit : (k : ℕ) → get_or bytes k 0 < 256
  pub same : (i : ℕ) → i < count → bit_of_bytes bytes i ≡ bit_at bits i

-- byte k, of which r bits are used
byte_same : (bytes : List ℕ) (bits : List Bool) (count k r : ℕ) → HaveBits bytes bits count → r ≤ 8 → 8 * k + r ≤ count → (r ≡ 8) ⊎ (8 * k + r ≡ count) → byte_of_bits bits k ≡ get_or bytes k 0 % 2 ^ r
byte_same bytes bits count k r have few within last =
    number_of_bits-cut (λ j. bit_at bits (8 * k + j)) (get_or bytes k 0) 8 r few
    (λ j h.
    let row : (8 * k + j) / 8 ≡ k = omega arith in
    let column : (8 * k + j) % 8 ≡ j = omega arith in
    let digit = ap (λ n. digit_at (get_or bytes k 0) n) (sym column) ∙ ap (λ n. digit_at (get_or bytes n 0) ((8 * k + j) % 8)) (sym row) in
    digit ∙ sym (digit_again (digit_of_bytes bytes (8 * k + j)) (bit_at-lt (get_or bytes ((8 * k + j) / 8) 0) ((8 * k + j) % 8)))
    ∙ ap (λ b. cond b 1 0) (have.same (8 * k + j) (omega arith)))
    (λ j low high. elim last [
      | inl whole ↦ absurd (omega arith)
      | inr end ↦ get_or_past bits (8 * k + j) false (omega (arith, have.many))
    ])

whole_byte : (b : ℕ) → b < 256 → b % 2 ^ 8 ≡ b
whole_byte b h = omega arith

-- the bits fill whole bytes
pub whole_bytes : (bytes : List ℕ) (bits : List Bool) (count : ℕ) → HaveBits bytes bits count → count % 8 ≡ 0 → bytes ≡ bytes_of_bits bits
whole_bytes bytes bits count have whole =
    let many = length-bytes_of_bits bits ∙ ap bytes_filled have.many in
    ext_get_or 0 bytes (bytes_of_bits bits) (have.filled ∙ sym many)
    (λ k h.
    let lt : k < bytes_filled (length bits) = omega (arith, have.filled, have.many) in
    sym (get_or-bytes_of_bits bits k lt ∙ byte_same bytes bits count k 8 have (omega arith) (omega (arith, have.filled)) (inl refl) ∙ whole_byte (get_or bytes k 0) (have.fit k)))

-- the last byte is cut
pub cut_bytes : (bytes : List ℕ) (bits : List Bool) (count : ℕ) → HaveBits bytes bits count → 0 < count % 8
    → set bytes (count / 8) (get_or bytes (count / 8) 0 % 2 ^ (count % 8)) ≡ bytes_of_bits bits
cut_bytes bytes bits count have some =
    let many = length-bytes_of_bits bits ∙ ap bytes_filled have.many in
    let last = get_or bytes (count / 8) 0 % 2 ^ (count % 8) in
    let long = length-set bytes (count / 8) last in
    ext_get_or 0 (set bytes (count / 8) last) (bytes_of_bits bits) (long ∙ have.filled ∙ sym many)
    (λ k h.
    let lt : k < bytes_filled (length bits) = omega (arith, have.filled, have.many, long) in
    elim (cases_lt k (count / 8)) [
      | inl below ↦
          let other : k ≢ count / 8 = omega arith in
          get_or-set_other bytes (count / 8) k last 0 other
          ∙ sym (get_or-bytes_of_bits bits k lt ∙ byte_same bytes bits count k 8 have (omega arith) (omega arith) (inl refl) ∙ whole_byte (get_or bytes k 0) (have.fit k))
      | inr ge ↦
          let here : k ≡ count / 8 = omega (arith, have.filled, long) in
          let end : 8 * (count / 8) + count % 8 ≡ count = omega arith in
          ap (λ n. get_or (set bytes (count / 8) last) n 0) here
          ∙ get_or-set_same bytes (count / 8) last 0 (omega (arith, have.filled))
          ∙ sym (byte_same bytes bits count (count / 8) (count % 8) have (omega arith) (omega arith) (inr end))
          ∙ sym (get_or-bytes_of_bits bits (count / 8) (omega (arith, have.many))) ∙ ap (λ n. get_or (bytes_of_bits bits) n 0) (sym here)
    ])

-- ---- what is appended

pub appended_whole : (old bytes : List ℕ) (bits : List Bool) (count : ℕ) → HaveBits bytes bits count → count % 8 ≤ 0 → old ++ bytes ≡ old ++ bytes_of_bits bits
appended_whole old bytes bits count have whole = ap (λ b. old ++ b) (whole_bytes bytes bits count have (omega arith))

pub appended_cut : (old bytes whole new : List ℕ) (bits : List Bool) (count : ℕ) → HaveBits bytes bits count → 0 < count % 8 → whole ≡ old ++ bytes
    → new ≡ set whole (length whole - 1) (get_or whole (length whole - 1) 0 % 2 ^ (count % 8)) → new ≡ old ++ bytes_of_bits bits
appended_cut old bytes whole new bits count have some e is =
    let r = count % 8 in
    let last : length (old ++ bytes) - 1 ≡ length old + count / 8 = omega (arith, length-append old bytes, have.filled) in
    let at : length old + count / 8 - length old ≡ count / 8 = omega arith in
    let byte = get_or-append-add old bytes (count / 8) 0 in
    is ∙ ap (λ l. set l (length l - 1) (get_or l (length l - 1) 0 % 2 ^ r)) e
    ∙ ap (λ n. set (old ++ bytes) n (get_or (old ++ bytes) n 0 % 2 ^ r)) last
    ∙ ap (λ b. set (old ++ bytes) (length old + count / 8) (b % 2 ^ r)) byte
    ∙ set-append_right old bytes (length old) (length old + count / 8) (get_or bytes (count / 8) 0 % 2 ^ r) refl (omega arith)
    ∙ ap (λ n. old ++ set bytes n (get_or bytes (count / 8) 0 % 2 ^ r)) at
    ∙ ap (λ b. old ++ b) (cut_bytes bytes bits count have some)

-- the bytes in front
pub have_front : (bytes : List ℕ) (count : ℕ) → count ≤ 8 * length bytes → ((k : ℕ) → get_or bytes k 0 < 256) → HaveBits (take (bytes_filled count) bytes) (bits_of_bytes bytes count) count
have_front bytes count few fit = record {
  many = length-bits_of_bytes bytes count;
  filled = omega (arith, length-take (bytes_filled count) bytes);
  fit = λ k. elim (cases_lt k (bytes_filled count)) [
    | inl lt ↦ omega (arith, get_or-take (bytes_filled count) bytes k 0 lt, fit k)
    | inr ge ↦ (let none : get_or (take (bytes_filled count) bytes) k 0 ≡ 0 = get_or_past (take (bytes_filled count) bytes) k 0 (omega (arith, length-take (bytes_filled count) bytes)) in omega arith)
  ];
  same = λ i h. sym (bit-take (bytes_filled count) bytes i (omega arith)) ∙ sym (bit_at-bits_of_bytes bytes count i h);
}

-- equal bytes of equal bits
digit_of_byte : (bit : Bool) (j : ℕ) → j < 8 → digit_at (cond bit 255 0) j ≡ cond bit 1 0
digit_of_byte true j h = bit_at_ones 8 j h
digit_of_byte false j h = bit_at-zero j

fits_byte : (bit : Bool) → cond bit 255 0 < 256
fits_byte true = omega arith
fits_byte false = omega arith

replicate_fits : (n k byte : ℕ) → byte < 256 → get_or (replicate n byte) k 0 < 256
replicate_fits zero k byte h = omega arith
replicate_fits (suc n) zero byte h = h
replicate_fits (suc n) (suc k) byte h = replicate_fits n k byte h

pub have_constant : (bit : Bool) (count : ℕ) → HaveBits (replicate (bytes_filled count) (cond bit 255 0)) (replicate count bit) count
have_constant bit count =
    let n = bytes_filled count in
    let byte : ℕ = cond bit 255 0 in
    record {
      many = length-replicate count bit;
      filled = length-replicate n byte;
      fit = λ k. replicate_fits n k byte (fits_byte bit);
      same = λ i h.
          ap (λ b. eqb (digit_at b (i % 8)) 1) (get_or-replicate n (i / 8) byte 0 (omega arith))
          ∙ ap (λ d. eqb d 1) (digit_of_byte bit (i % 8) (omega arith)) ∙ bit_again bit ∙ sym (bit_at-replicate count i bit h);
    }

-- a byte with its lowest bits alone
pub low_mask : (k : ℕ) → k < 8 → 1 * 2 ^ k % 256 ≡ 2 ^ k
low_mask zero h = refl
low_mask (suc zero) h = refl
low_mask (suc (suc zero)) h = refl
low_mask (suc (suc (suc zero))) h = refl
low_mask (suc (suc (suc (suc zero)))) h = refl
low_mask (suc (suc (suc (suc (suc zero))))) h = refl
low_mask (suc (suc (suc (suc (suc (suc zero)))))) h = refl
low_mask (suc (suc (suc (suc (suc (suc (suc zero))))))) h = refl
low_mask (suc (suc (suc (suc (suc (suc (suc (suc k)))))))) h = absurd (omega arith)
